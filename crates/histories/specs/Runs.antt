-- A run: the looks and the steps, up to a budget. Assumes nothing.
use Rattle.std.specs.Prelude.{ℕ, zero, suc, Bool, true, false, cond, length, Some, None, Option, nat_lt}
use Rattle.std.specs.List.{list_any}
use Rattle.answers.specs.declared.run.Outcome.{Outcome}
use Rattle.answers.specs.declared.run.Outcome.TheVariants.{Met, NoneMeets, Spent, Full}
use Rattle.clauses.specs.Clauses.{empty}
use Rattle.lines.specs.Lines.{Candidate, clauses_in}
use Rattle.lines.specs.ReadingOff.{breaks}
use Rattle.guides.specs.Ranks.{Rank}
use Rattle.steps.specs.Flips.{flipped}
use Rattle.steps.specs.Moves.{Move, flip, write, accept, move}
use Rattle.histories.specs.States.{State, with_line, with_assignment}

-- how a run ends, the steps that it makes, and what it leaves
pub record Run : Type 0 where
  pub outcome : Outcome
  pub steps : ℕ
  pub left : State

abbrev pub ended : Outcome → State → Run
ended o s = record { outcome = o; steps = 0; left = s }

abbrev pub one_more : Run → Run
one_more r = record r { steps = suc r.steps }

-- The verdict that a look gives, if it gives one: none where a line is empty,
-- else met where no line is broken.
abbrev pub verdict : State → Option Outcome
verdict s =
    cond (list_any empty (clauses_in s.lines)) (Some NoneMeets)
    (cond (breaks s.assignment (clauses_in s.lines)) None (Some Met))

abbrev pub written : Bool → State → Candidate → Option State
written true s l = Some (with_line s l)
written false s l = None

-- What a move leaves over a book of so many places; nothing where a line is to
-- be written and no place is free.
abbrev pub made : ℕ → State → Move → Option State
made places s (flip v) = Some (with_assignment s (flipped v s.assignment))
made places s (write l) = written (nat_lt (length s.lines) places) s l
made places s (accept a) = Some (with_assignment s a)

-- at a verdict the run ends
abbrev pub unless_verdict : Option Outcome → State → (State → Run) → Run
unless_verdict (Some o) s go_on = ended o s
unless_verdict None s go_on = go_on s

-- where no place is free the run ends, and counts no step
abbrev pub unless_full : Option State → State → (State → Run) → Run
unless_full None s go_on = ended Full s
unless_full (Some t) s go_on = one_more (go_on t)

-- A run over whatever says the move that is due. Before each step it looks for
-- a verdict, and then whether the budget is used.
abbrev pub run_by : (State → Move) → ℕ → ℕ → State → Run
run_by due places zero s = unless_verdict (verdict s) s (ended Spent)
run_by due places (suc budget) s =
    unless_verdict (verdict s) s
    (λ t. unless_full (made places t (due t)) t (λ u. run_by due places budget u))

-- the move that is due under a rank
abbrev pub due_move : Rank → State → Move
due_move rank s = move rank (clauses_in s.lines) s.assignment

abbrev pub run : Rank → ℕ → ℕ → State → Run
run rank places budget s = run_by (due_move rank) places budget s
