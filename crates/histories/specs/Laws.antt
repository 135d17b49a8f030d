-- What holds of the tally's test of ranks, of histories, of runs and of
-- derivations. Assumes nothing.
use Rattle.std.specs.Prelude.{◌≡◌, ◌↔◌, ℕ, ◌≤◌, Bool, true, List, ℤ, length, map, Some, None}
use Rattle.limits.specs.Limits.{most_lines}
use Rattle.guides.specs.Rows.{Counts, Fit}
use Rattle.guides.specs.Ranks.{Rank}
use Rattle.steps.specs.Moves.{Move}
use Rattle.histories.specs.States.{Limits, Allowed, State, WellFormed}
use Rattle.histories.specs.Runs.{verdict, due_move, run_by, run}
use Rattle.histories.specs.Calls.{Call}
use Rattle.histories.specs.Logs.{Log, Reached, played}
use Rattle.histories.specs.Tallies.{same_ranks}
use Rattle.histories.specs.Guarantees.{meets_all, Refutes}

-- Two guides have the same ranks just when these agree on every row.
abbrev pub SameOnEveryRow : Type 0
SameOnEveryRow =
    (held rank : Rank)
    → (same_ranks (Some held) rank ≡ true) ↔ ((cs : Counts) → Fit cs → held cs ≡ rank cs)

-- ---- histories

-- Whatever the calls, they have a history, and just one: that which they make.
abbrev pub AHistoryIsItsCalls : Type 0
AHistoryIsItsCalls =
    (limits : Limits) (places : ℕ)
    → ((calls : List Call)
    → Reached limits places (played limits places calls).0 (played limits places calls).1)
    × ((log : Log) (s : State) → Reached limits places log s
    → played limits places (map (λ e. e.0) log) ≡ (log, s))

-- What holds after every history.
abbrev pub HistoriesLeaveWellFormed : Type 0
HistoriesLeaveWellFormed =
    (limits : Limits) → Allowed limits → (places : ℕ) (log : Log) (s : State)
    → Reached limits places log s
    → WellFormed s × (length s.lines ≤ places) × ((s.n ≡ 0 → ⊥) → places ≤ most_lines)

-- ---- runs

-- A law about moves is a law about runs: what says the same move as a guide
-- wherever a run can come to without a verdict makes the same runs.
abbrev pub SameMovesSameRuns : Type 0
SameMovesSameRuns =
    (rank : Rank) (due : State → Move) (places : ℕ)
    → ((s : State) → WellFormed s → length s.lines ≤ places → verdict s ≡ None
    → due s ≡ due_move rank s)
    → (budget : ℕ) (s : State) → WellFormed s → length s.lines ≤ places
    → run_by due places budget s ≡ run rank places budget s

-- ---- derivations

-- A derivation of the empty clause shows, by itself, that no assignment meets
-- the clauses that it begins with.
abbrev pub ADerivationRefutes : Type 0
ADerivationRefutes =
    (n : ℕ) (xss : List (List ℤ)) (s : State) → Refutes n xss s
    → (a : List Bool) → meets_all a xss ≡ true → ⊥
