-- Numbers tell refusals, and places tell faults. Assumes nothing.
use Rattle.std.proofs.Common.{◌≡◌, ℕ, ◌==◌, if◌then◌else◌, refl, sym, ap, ◌∙◌}
use Rattle.text.specs.declared.faults.TextFault.TheVariants.{TooLong, NotProblemLine, TooLarge, NotNumber, AboveVariables, EndsInsideClause, WordAfterClauses, ClausesMissing}
use Rattle.text.specs.declared.faults.BookFault.TheVariants as book
use Rattle.text.specs.declared.faults.Refuser.{Refuser}
use Rattle.text.specs.declared.faults.Refuser.TheVariants as by
use Rattle.text.specs.Refusals as text
use Rattle.answers.specs.declared.load.LoadFault.{LoadFault}
use Rattle.answers.specs.declared.load.LoadFault.TheVariants as load
use Rattle.answers.specs.declared.refusal.Refusal.{Refusal}
use Rattle.answers.specs.declared.refusal.Refusal.TheVariants.{AlreadyOpen, VariablesOutOfRange, TooManyPlaces, StartOutOfRange, NotOpen, TooManyNumbers, NoLiteral, NoFreePlace, BudgetTooLarge, NoSuchLine, NoEmptyLine, BufferTooShort}
use Rattle.answers.specs.Refusals.{load_refusal}
use Rattle.protocol.specs.Said.{number}
use Rattle.protocol.specs.Telling.{RefusalsDiffer, TextFaultsDiffer, FaultsDiffer}

-- the refusal of a number
abbrev numbered : ℕ → Refusal
numbered k =
    if k == 1 then AlreadyOpen
    else if k == 2 then VariablesOutOfRange
    else if k == 3 then TooManyPlaces
    else if k == 4 then StartOutOfRange
    else if k == 5 then NotOpen
    else if k == 6 then TooManyNumbers
    else if k == 7 then NoLiteral
    else if k == 8 then NoFreePlace
    else if k == 17 then BudgetTooLarge
    else if k == 18 then NoSuchLine
    else if k == 19 then NoEmptyLine
    else BufferTooShort

numbered_back : (r : Refusal) → numbered (number r) ≡ r
numbered_back AlreadyOpen = refl
numbered_back VariablesOutOfRange = refl
numbered_back TooManyPlaces = refl
numbered_back StartOutOfRange = refl
numbered_back NotOpen = refl
numbered_back TooManyNumbers = refl
numbered_back NoLiteral = refl
numbered_back NoFreePlace = refl
numbered_back BudgetTooLarge = refl
numbered_back NoSuchLine = refl
numbered_back NoEmptyLine = refl
numbered_back BufferTooShort = refl

pub refusals_differ : RefusalsDiffer
refusals_differ r q e = sym (numbered_back r) ∙ ap numbered e ∙ numbered_back q

-- the fault of what is told
abbrev fault_by : Refuser → ℕ → ℕ → LoadFault
fault_by by.Session k place = load.NotOpen
fault_by by.Book k place = load.Book (if k == 6 then book.TooManyLiterals place else book.NoFreePlace place)
fault_by by.Text k place = load.Text (
    if k == 9 then TooLong
    else if k == 10 then NotProblemLine place
    else if k == 11 then TooLarge place
    else if k == 12 then NotNumber place
    else if k == 13 then AboveVariables place
    else if k == 14 then EndsInsideClause place
    else if k == 15 then WordAfterClauses place
    else ClausesMissing place
    )

abbrev fault : text.Refusal → LoadFault
fault t = fault_by t.refuser t.number t.place

fault_back : (f : LoadFault) → fault (load_refusal f) ≡ f
fault_back load.NotOpen = refl
fault_back (load.Book (book.TooManyLiterals place)) = refl
fault_back (load.Book (book.NoFreePlace place)) = refl
fault_back (load.Text TooLong) = refl
fault_back (load.Text (NotProblemLine place)) = refl
fault_back (load.Text (TooLarge place)) = refl
fault_back (load.Text (NotNumber place)) = refl
fault_back (load.Text (AboveVariables place)) = refl
fault_back (load.Text (EndsInsideClause place)) = refl
fault_back (load.Text (WordAfterClauses place)) = refl
fault_back (load.Text (ClausesMissing place)) = refl

pub faults_differ : FaultsDiffer
faults_differ f g e = sym (fault_back f) ∙ ap fault e ∙ fault_back g

pub text_faults_differ : TextFaultsDiffer
text_faults_differ f g e = cc (faults_differ (load.Text f) (load.Text g) e)
