-- The look before a step, and the step that the code tells. Assumes nothing.
use Rattle.std.specs.Prelude.{ℕ, Bool, List, if◌then◌else◌}
use Rattle.std.specs.List.{list_any}
use Rattle.clauses.specs.Values.{truths}
use Rattle.clauses.specs.Clauses.{Signs, empty}
use Rattle.lines.specs.Lines.{candidate_of}
use Rattle.lines.specs.ReadingOff.{breaks}
use Rattle.steps.specs.Moves.{Move, flip, write, accept}
use Rattle.search.specs.declared.due.Step.{Step}
use Rattle.search.specs.declared.due.Step.TheVariants.{Flip, Write, Accept}
use Rattle.search.specs.declared.looking.Seen.{Seen}
use Rattle.search.specs.declared.looking.Seen.TheVariants.{Refuted, Met, Undecided}

-- An empty line is looked for first, then a broken one.
abbrev pub look_at : List Signs → List Bool → Seen
look_at cs a = if list_any empty cs then Refuted else (if breaks a cs then Undecided else Met)

-- the move that the code tells, over n variables
abbrev pub move_of : ℕ → Step → Move
move_of n (Flip v) = flip v
move_of n (Write l) = write (candidate_of l)
move_of n (Accept a) = accept (truths n a.word)
