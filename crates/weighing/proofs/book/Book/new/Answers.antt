use Rattle.std.proofs.Common.{arith}
use Rattle.weighing.proofs.Within.{all_lines}
use Rattle.weighing.proofs.book.Book.new.Goals as goal

pub invariant_of-result : goal.invariant_of-result
invariant_of-result c = record { few = omega arith; wide = omega arith; inside = grind (arith, all_lines) }
