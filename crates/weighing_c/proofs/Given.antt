-- The lines that are made of pairs. Assumes nothing.
use Rattle.std.proofs.Common.{◌≡◌, List, [], ◌∷◌, map, refl, ap}
use Rattle.clauses.specs.Clauses.{Signs}
use Rattle.lines.specs.Lines.{clauses}
use Rattle.weighing_c.specs.declared.pair.Pair.{Pair}
use Rattle.weighing_c.specs.Pairs.{signs_of, line_of}

pub clauses-given : (ps : List Pair) → clauses (map line_of ps) ≡ map signs_of ps
clauses-given [] = refl
clauses-given (p ∷ ps) = ap {B = List Signs} (λ cs. signs_of p ∷ cs) (clauses-given ps)
