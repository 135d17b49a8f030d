use Rattle.std.proofs.Common.{◌≡◌, true, take}
use Rattle.std.specs.List.{list_all}
use Rattle.clauses.specs.Literals.{names}
use Rattle.clauses.specs.Sets.{SetOf}
use Rattle.clauses.specs.Words.{signs}
use Rattle.lines.proofs.given.gather.Given as goal

abbrev pub invariant-loop-number : goal.invariant-loop-number
invariant-loop-number l = (list_all (names l.n) (take l.number-index l.numbers) ≡ true) × SetOf (take l.number-index l.numbers) (signs l.clause)
