-- What is guaranteed of the newest call of every history. Assumes nothing.
use Rattle.std.specs.Prelude.{◌≡◌, ◌↔◌, ◌⊎◌, ℕ, ◌^◌, ◌<◌, ◌≤◌, Bool, true, false, List, ◌∷◌, length, ℤ, Some}
use Rattle.std.specs.List.{list_any, list_all}
use Rattle.answers.specs.declared.run.Outcome.{Outcome}
use Rattle.answers.specs.declared.run.Outcome.TheVariants.{Met, NoneMeets, Spent, Full}
use Rattle.clauses.specs.Values.{assigned}
use Rattle.words.specs.Bits.{width}
use Rattle.clauses.specs.Literals.{names, met}
use Rattle.clauses.specs.Sets.{set_of}
use Rattle.clauses.specs.Clauses.{Signs, empty, same}
use Rattle.lines.specs.Lines.{clauses_in, givens_in}
use Rattle.clause_laws.specs.Facts.{FourFacts}
use Rattle.histories.specs.States.{Limits, Allowed, State}
use Rattle.histories.specs.Calls.{Call, Answer, does}
use Rattle.histories.specs.Logs.{Log, Reached, newest_outcome, newest_number}
use Rattle.histories.specs.Tallies.{Tally, tally}

-- the assignment meets all the clauses, as they were given
abbrev pub meets_all : List Bool → List (List ℤ) → Bool
meets_all a xss = list_all (met (assigned a)) xss

-- some assignment of the variables meets all accepted clauses
abbrev pub CanBeMet : Tally → Type 0
CanBeMet t = (a : List Bool) × (length a ≡ t.n) × (meets_all a t.clauses ≡ true)

abbrev pub is_verdict : Outcome → Bool
is_verdict Met = true
is_verdict NoneMeets = true
is_verdict Spent = false
is_verdict Full = false

-- the newest call was a run that ended so
abbrev pub Ended : Log → Outcome → Type 0
Ended log o = newest_outcome log ≡ Some o

-- the newest call was a run that ended in a verdict
abbrev pub Verdict : Log → Outcome → Type 0
Verdict log o = Ended log o × (is_verdict o ≡ true)

-- as a set, the clause is one of these
abbrev pub is_one_of : List (List ℤ) → Signs → Bool
is_one_of xss c = list_any (λ xs. same c (set_of xs)) xss

-- A derivation of the empty clause from clauses over n variables, at most 64:
-- some line is empty; each given line is one of these clauses; and the book
-- keeps the four facts, so each other line follows from the older lines that
-- it names.
pub record Refutes (n : ℕ) (xss : List (List ℤ)) (s : State) : Type 0 where
  pub few : n ≤ width
  pub named : list_all (list_all (names n)) xss ≡ true
  pub ends : list_any empty (clauses_in s.lines) ≡ true
  pub begins : list_all (is_one_of xss) (givens_in s.lines) ≡ true
  pub follows : FourFacts n s.lines

-- Two verdicts agree exactly when the clauses accepted before either can be
-- met, or neither's can.
abbrev pub Agree : Outcome → Tally → Outcome → Tally → Type 0
Agree o t o' t' = (o ≡ o') ↔ ((CanBeMet t × CanBeMet t') ⊎ ((CanBeMet t → ⊥) × (CanBeMet t' → ⊥)))

-- Of the newest call of a history, and the state that it left.
pub record Guaranteed (limits : Limits) (places : ℕ) (log : Log) (s : State) : Type 0 where
  -- Its answer and the state are those set out for it after the calls before.
  pub set_out : Reached limits places log s
  -- A verdict is met exactly when some assignment meets all accepted clauses.
  pub tells : (o : Outcome) → Verdict log o → (o ≡ Met) ↔ CanBeMet (tally log)
  -- Met bears its assignment, which meets them.
  pub bears :
      Ended log Met
      → (length s.assignment ≡ (tally log).n) × (meets_all s.assignment (tally log).clauses ≡ true)
  -- None bears its derivation.
  pub derives : Ended log NoneMeets → Refutes (tally log).n (tally log).clauses s
  -- It agrees so with each other verdict, of this session or of any other,
  -- whatever the limits, the places, the guides and the starts.
  pub agrees :
      (o : Outcome) → Verdict log o
      → (other : Limits) → Allowed other → (places' : ℕ) (log' : Log) (s' : State) (o' : Outcome)
      → Reached other places' log' s' → Verdict log' o' → Agree o (tally log) o' (tally log')
  -- Spent comes before 6^n steps since the tally's steps began.
  pub ends_in_time : Ended log Spent → (tally log).steps < 6 ^ (tally log).n
  -- Over a book of 3^n places a run never ends full, and no add and no load is
  -- refused for want of a place.
  pub has_room : 3 ^ (tally log).n ≤ places → (Ended log Full → ⊥) × (newest_number log ≡ 8 → ⊥)

-- All this of every history, under any limits that words and rows allow.
abbrev pub EveryHistory : Type 0
EveryHistory =
    (limits : Limits) → Allowed limits → (places : ℕ) (log : Log) (s : State)
    → Reached limits places log s → Guaranteed limits places log s

-- What a call does to a session: its answer and the state after it are those
-- set out, and so, whatever the history before it, all is guaranteed of the
-- history with it.
pub record Continues (limits : Limits) (places : ℕ) (before : State) (call : Call) (answer : Answer) (after : State) : Type 0 where
  pub does_so : does limits places before call ≡ (answer, after)
  pub guaranteed :
      (log : Log) → Reached limits places log before
      → Guaranteed limits places ((call, answer) ∷ log) after
