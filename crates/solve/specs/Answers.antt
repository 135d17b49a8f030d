-- What the program answers to a text, and what it prints. Assumes nothing.
use Rattle.std.specs.Prelude.{ℕ, cond, List, length, Ok, Err, Result, ◌==◌, nat_lt}
use Rattle.limits.specs.Limits.{program_bytes, program_places, program_steps}
use Rattle.text.specs.declared.faults.TextFault.{TextFault}
use Rattle.text.specs.declared.faults.Refuser.TheVariants as by
use Rattle.text.specs.Problem.{head_of}
use Rattle.text.specs.Refusals.{text_refusal, number_of, place_of}
use Rattle.text.specs.Refusals as text
use Rattle.guides.specs.Ranks.{longest_first}
use Rattle.answers.specs.declared.run.Outcome.{Outcome}
use Rattle.answers.specs.declared.report.Report.{Report}
use Rattle.answers.specs.declared.report.Report.TheVariants.{Ended, Refused}
use Rattle.answers.specs.Refusals.{call_refusal, load_refusal}
use Rattle.writing.specs.Items.{bytes}
use Rattle.pages.specs.Reports.{Told, undecided, told_of, told_items, refusal_items}
use Rattle.histories.specs.States.{State, session_limits, unopened}
use Rattle.histories.specs.Calls.{opens, loads, runs, Answer, opened, added, loaded, restarted, ran, does}
use Rattle.histories.specs.Logs.{refusal_number}
use Rattle.solve.specs.declared.fault.Fault.{Fault}
use Rattle.solve.specs.declared.fault.Fault.TheVariants.{TooMuchInput, Head, Session, Load}

-- ---- the calls

abbrev pub unless_refused : Answer × State → (State → Answer × State) → Answer × State
unless_refused d go_on = cond (refusal_number d.0 == 0) (go_on d.1) d

-- a session over a book of as many places as the program has is opened, loaded and
-- run, until a call is refused
abbrev pub called : List ℕ → ℕ → Answer × State
called text n =
    unless_refused (does session_limits program_places unopened (opens n 0))
    (λ s. unless_refused (does session_limits program_places s (loads text))
    (λ t. does session_limits program_places t (runs longest_first program_steps)))

-- ---- what they come to

-- A run ends the calls, or an open or a load that is refused. No other answer
-- does: the last four cases do not come.
abbrev pub found : Answer × State → Result Told Fault
found (ran (Ok r), s) = Ok (told_of r.outcome s.assignment)
found (ran (Err r), s) = Err (Session r)
found (loaded (Err r), s) = Err (Load r.fault)
found (opened (Err r), s) = Err (Session r)
found (loaded (Ok k), s) = Ok undecided
found (opened (Ok done), s) = Ok undecided
found (added r, s) = Ok undecided
found (restarted r, s) = Ok undecided

abbrev pub headed : List ℕ → Result (ℕ × ℕ) TextFault → Result Told Fault
headed text (Err f) = Err (Head f)
headed text (Ok h) = found (called text h.0)

-- what the program answers
abbrev pub solved : List ℕ → Result Told Fault
solved text =
    cond (nat_lt program_bytes (length text)) (Err TooMuchInput) (headed text (head_of text))

-- the same of what the code's calls come to
abbrev pub told_in : Result Outcome Fault → State → Result Told Fault
told_in (Ok o) s = Ok (told_of o s.assignment)
told_in (Err f) s = Err f

-- ---- what it prints

-- every promise takes a refusal's number, place and refuser from here
abbrev pub fault_refusal : Fault → text.Refusal
fault_refusal TooMuchInput = text.refusal by.Session 9 0
fault_refusal (Head f) = text_refusal f
fault_refusal (Session r) = call_refusal r
fault_refusal (Load f) = load_refusal f

-- what is reported of a run that ended so, or of a refusal
abbrev pub report_of : Result Outcome Fault → Report
report_of (Ok o) = Ended o
report_of (Err f) = Refused (number_of (fault_refusal f)) (place_of (fault_refusal f))

-- the bytes are those of the report
abbrev pub printed : Result Told Fault → List ℕ
printed (Ok t) = bytes (told_items t)
printed (Err f) = bytes (refusal_items (number_of (fault_refusal f)) (place_of (fault_refusal f)))

-- the bytes that it prints to a text
abbrev pub output : List ℕ → List ℕ
output text = printed (solved text)
