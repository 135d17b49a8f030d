-- The worked examples, by computation. Assumes nothing.
use Rattle.std.proofs.Common.{refl}
use Rattle.std.specs.Fmt.{digits}
use Rattle.words.specs.Bits.{bit}
use Rattle.clauses.specs.Values.{truths}
use Rattle.clauses.specs.Clauses.{bar}
use Rattle.clauses.specs.Sets.{set_of}
use Rattle.steps.specs.Rows.{row}
use Rattle.steps.specs.Flips.{flips}
use Rattle.steps.specs.Writing.{learnt, barred, swept}
use Rattle.steps.specs.Moves.{move}
use Rattle.histories.proofs.Examples.{worked}
use Rattle.session.proofs.Worked.{worked_pages}
use Rattle.solve.specs.Worked.{AllWorked}

pub all_worked : AllWorked
unfolding digits bit truths bar set_of row flips learnt barred swept move
all_worked = record {
  others = worked;
  pages = worked_pages;
  satisfiable = refl;
  no_clauses = refl;
  unsatisfiable = refl;
  unknown = refl;
  too_much_input = refl;
  too_much_input_by = refl;
  above_variables = refl;
  word_after = refl;
  no_variables = refl;
}
