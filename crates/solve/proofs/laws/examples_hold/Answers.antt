use Rattle.solve.proofs.Examples.{all_worked}
use Rattle.solve.proofs.laws.examples_hold.Goals as goal

pub returns : goal.returns
returns c = record { worked = all_worked }
