-- What each refusal of a text tells: who refuses, its number, and the place. Assumes nothing.
use Rattle.std.specs.Prelude.{ℕ, Some, None, Option}
use Rattle.text.specs.declared.faults.Refuser.{Refuser}
use Rattle.text.specs.declared.faults.Refuser.TheVariants as by
use Rattle.text.specs.declared.faults.Told.{Told}
use Rattle.text.specs.declared.faults.TextFault.{TextFault}
use Rattle.text.specs.declared.faults.TextFault.TheVariants.{TooLong, NotProblemLine, TooLarge, NotNumber, AboveVariables, EndsInsideClause, WordAfterClauses, ClausesMissing}
use Rattle.text.specs.declared.faults.BookFault.{BookFault}
use Rattle.text.specs.declared.faults.BookFault.TheVariants.{TooManyLiterals, NoFreePlace}
use Rattle.text.specs.declared.faults.ReadFault.{ReadFault}
use Rattle.text.specs.declared.faults.ReadFault.TheVariants.{Text, Book}

-- A refusal as it is told; place is the byte place, counted from 0.
abbrev pub Refusal : Type 0
Refusal = Told

abbrev pub refusal : Refuser → ℕ → ℕ → Refusal
refusal refuser number place = record { refuser = refuser; number = number; place = place }

abbrev pub text_refusal : TextFault → Refusal
text_refusal TooLong = refusal by.Text 9 0
text_refusal (NotProblemLine place) = refusal by.Text 10 place
text_refusal (TooLarge place) = refusal by.Text 11 place
text_refusal (NotNumber place) = refusal by.Text 12 place
text_refusal (AboveVariables place) = refusal by.Text 13 place
text_refusal (EndsInsideClause place) = refusal by.Text 14 place
text_refusal (WordAfterClauses place) = refusal by.Text 15 place
text_refusal (ClausesMissing place) = refusal by.Text 16 place

abbrev pub book_refusal : BookFault → Refusal
book_refusal (TooManyLiterals place) = refusal by.Book 6 place
book_refusal (NoFreePlace place) = refusal by.Book 8 place

-- every promise takes a refusal's number, place and refuser from here
abbrev pub read_refusal : ReadFault → Refusal
read_refusal (Text f) = text_refusal f
read_refusal (Book f) = book_refusal f

abbrev pub by_of : Refusal → Refuser
by_of r = r.refuser

abbrev pub number_of : Refusal → ℕ
number_of r = r.number

abbrev pub place_of : Refusal → ℕ
place_of r = r.place

-- the refusal of a text that does not end well
abbrev pub told : Option ReadFault → Option Refusal
told None = None
told (Some f) = Some (read_refusal f)
