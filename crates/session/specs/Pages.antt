-- What a session writes into a lent buffer. Assumes nothing.
use Rattle.std.specs.Prelude.{ℕ, not, cond, List, Ok, Err, Result}
use Rattle.std.specs.List.{list_any}
use Rattle.clauses.specs.Clauses.{empty}
use Rattle.lines.specs.Lines.{clauses_in}
use Rattle.answers.specs.declared.refusal.Refusal.{Refusal}
use Rattle.answers.specs.declared.refusal.Refusal.TheVariants.{NotOpen, NoEmptyLine, BufferTooShort}
use Rattle.answers.specs.declared.report.Report.{Report}
use Rattle.writing.specs.declared.written.TooShort.{TooShort}
use Rattle.writing.specs.Items.{Item, bytes}
use Rattle.writing.specs.Pages.{filled}
use Rattle.pages.specs.Reports.{report_items}
use Rattle.pages.specs.Says.{sheet, sheet_items}
use Rattle.histories.specs.States.{State, session_limits, is_open}
use Rattle.histories.specs.Logs.{Log, Reached}
use Rattle.histories.specs.Tallies.{tally}
use Rattle.histories.specs.Guarantees.{Refutes}
use Rattle.session.specs.declared.session.Session.{Session}
use Rattle.session.specs.Sessions.{state, places}

abbrev pub refusing : Result ℕ TooShort → Result ℕ Refusal
refusing (Ok k) = Ok k
refusing (Err e) = Err BufferTooShort

-- The bytes of the items go to the front of the buffer, or, where it is
-- shorter, it stays as it is.
abbrev pub stored : List Item → List ℕ → Result ℕ Refusal × List ℕ
stored is buffer = (refusing (filled (bytes is) buffer).0, (filled (bytes is) buffer).1)

-- the answer to a call for the sheet, and the buffer after it
abbrev pub sheet_told : State → List ℕ → Result ℕ Refusal × List ℕ
sheet_told s buffer =
    cond (not (is_open s)) (Err NotOpen, buffer)
    (cond (not (list_any empty (clauses_in s.lines))) (Err NoEmptyLine, buffer)
    (stored (sheet_items s.n s.lines) buffer))

-- the same of a report
abbrev pub report_told : Report → State → List ℕ → Result ℕ Refusal × List ℕ
report_told r s buffer = stored (report_items r s.assignment) buffer

-- a session whose book is the sheet
abbrev pub with_sheet : State → State
with_sheet s = record s { lines = sheet s.lines }

-- Whatever the calls before it, the sheet is by itself a derivation of the empty
-- clause from the clauses that they had accepted.
abbrev pub SheetRefutes : Session → Type 0
SheetRefutes s =
    (log : Log) → Reached session_limits (places s) log (state s)
    → Refutes (tally log).n (tally log).clauses (with_sheet (state s))
