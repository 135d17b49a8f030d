-- What each refusal tells. Assumes nothing.
use Rattle.text.specs.declared.faults.ReadFault.{ReadFault}
use Rattle.text.specs.declared.faults.ReadFault.TheVariants.{Text, Book}
use Rattle.text.specs.declared.faults.Refuser.TheVariants as by
use Rattle.text.specs.Refusals.{text_refusal, book_refusal}
use Rattle.text.specs.Refusals as text
use Rattle.answers.specs.declared.load.LoadFault.{LoadFault}
use Rattle.answers.specs.declared.load.LoadFault.TheVariants as load
use Rattle.answers.specs.declared.refusal.Refusal.{Refusal}
use Rattle.answers.specs.declared.refusal.Refusal.TheVariants.{AlreadyOpen, VariablesOutOfRange, TooManyPlaces, StartOutOfRange, NotOpen, TooManyNumbers, NoLiteral, NoFreePlace, BudgetTooLarge, NoSuchLine, NoEmptyLine, BufferTooShort}

-- every promise takes a refusal's number, place and refuser from here; a call
-- that reads no text refuses at place 0
abbrev pub call_refusal : Refusal → text.Refusal
call_refusal AlreadyOpen = text.refusal by.Session 1 0
call_refusal VariablesOutOfRange = text.refusal by.Session 2 0
call_refusal TooManyPlaces = text.refusal by.Session 3 0
call_refusal StartOutOfRange = text.refusal by.Session 4 0
call_refusal NotOpen = text.refusal by.Session 5 0
call_refusal TooManyNumbers = text.refusal by.Book 6 0
call_refusal NoLiteral = text.refusal by.Book 7 0
call_refusal NoFreePlace = text.refusal by.Book 8 0
call_refusal BudgetTooLarge = text.refusal by.Session 17 0
call_refusal NoSuchLine = text.refusal by.Session 18 0
call_refusal NoEmptyLine = text.refusal by.Session 19 0
call_refusal BufferTooShort = text.refusal by.Session 20 0

-- the same of a load, whose refusals have a byte place
abbrev pub load_refusal : LoadFault → text.Refusal
load_refusal load.NotOpen = text.refusal by.Session 5 0
load_refusal (load.Text f) = text_refusal f
load_refusal (load.Book f) = book_refusal f

-- a reader's refusal as a load tells it
abbrev pub load_fault : ReadFault → LoadFault
load_fault (Text f) = load.Text f
load_fault (Book f) = load.Book f
