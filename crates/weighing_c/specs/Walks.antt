-- The flip step again and again. Assumes nothing.
use Rattle.std.specs.Prelude.{ℕ, zero, suc, Bool, List, Option, None, Some}
use Rattle.words.specs.Bits.{first}
use Rattle.clauses.specs.Clauses.{Signs}
use Rattle.guides.specs.Ranks.{Rank}
use Rattle.steps.specs.Flips.{flipped, flips}

-- the assignment with the variable flipped, if there is one to flip
abbrev pub turned : List Bool → Option ℕ → List Bool
turned a None = a
turned a (Some v) = flipped v a

-- k flip steps; one that finds no better neighbour leaves the assignment
abbrev pub walked : Rank → List Signs → ℕ → List Bool → List Bool
walked rank cs zero a = a
walked rank cs (suc k) a = let b = walked rank cs k a in turned b (first (flips rank cs b))
