-- The clause of some literals. Assumes nothing.
use Rattle.std.specs.Prelude.{◌≡◌, suc, List, ℤ, pos, negsuc}
use Rattle.words.specs.Bits.{width, listed}
use Rattle.clauses.specs.Literals.{among}
use Rattle.clauses.specs.Clauses.{Signs, sign, holds}

-- the set of these literals, over 64 variables
unfoldable pub set_of : List ℤ → Signs
set_of xs = listed width (λ k. sign (among (pos (suc k)) xs) (among (negsuc k) xs))

-- a clause holds just these literals
abbrev pub SetOf : List ℤ → Signs → Type 0
SetOf xs c = (l : ℤ) → holds l c ≡ among l xs
