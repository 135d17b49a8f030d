-- Histories: lists of calls with their answers. Assumes nothing.
use Rattle.std.specs.Prelude.{◌≡◌, ℕ, List, [], ◌∷◌, Ok, Err, Some, None, Option, Result}
use Rattle.answers.specs.declared.run.Outcome.{Outcome}
use Rattle.answers.specs.declared.load.LoadRefusal.{LoadRefusal}
use Rattle.answers.specs.declared.refusal.Refusal.{Refusal}
use Rattle.answers.specs.Refusals.{call_refusal, load_refusal}
use Rattle.text.specs.Refusals as text
use Rattle.histories.specs.States.{Limits, State, unopened}
use Rattle.histories.specs.Calls.{Call, Answer, opened, added, loaded, restarted, ran, does}

-- the newest first
abbrev pub Log : Type 0
Log = List (Call × Answer)

-- The log is the true history of a session just made over a book of so many
-- places, now in this state: the calls before the newest led to some state,
-- and from there the newest call answers and leaves what is set out.
abbrev pub Reached : Limits → ℕ → Log → State → Type 0
Reached limits places [] s = s ≡ unopened
Reached limits places (e ∷ log) s =
    (before : State) × Reached limits places log before
    × (does limits places before e.0 ≡ (e.1, s))

-- Calls, the newest first: the history that they make, and the state that they
-- leave.
abbrev pub played : Limits → ℕ → List Call → Log × State
played limits places [] = ([], unopened)
played limits places (call ∷ calls) =
    let before : Log × State = played limits places calls in
    let d : Answer × State = does limits places before.1 call in
    ((call, d.0) ∷ before.0, d.1)

-- ---- what an answer tells

-- how a run ended
abbrev pub outcome : Answer → Option Outcome
outcome (opened r) = None
outcome (added r) = None
outcome (loaded r) = None
outcome (restarted r) = None
outcome (ran (Ok r)) = Some r.outcome
outcome (ran (Err r)) = None

abbrev pub number_in : {A : Type 0} → Result A Refusal → ℕ
number_in (Ok x) = 0
number_in (Err r) = text.number_of (call_refusal r)

abbrev pub load_number : Result ℕ LoadRefusal → ℕ
load_number (Ok k) = 0
load_number (Err r) = text.number_of (load_refusal r.fault)

-- the number of the refusal; 0 if the call was not refused
abbrev pub refusal_number : Answer → ℕ
refusal_number (opened r) = number_in r
refusal_number (added r) = number_in r
refusal_number (loaded r) = load_number r
refusal_number (restarted r) = number_in r
refusal_number (ran r) = number_in r

-- how the newest call ended, if it was a run
abbrev pub newest_outcome : Log → Option Outcome
newest_outcome [] = None
newest_outcome (e ∷ log) = outcome e.1

-- the number of the newest call's refusal, 0 if it was not refused
abbrev pub newest_number : Log → ℕ
newest_number [] = 0
newest_number (e ∷ log) = refusal_number e.1
