-- The literals of a clause one by one. Assumes nothing.
use Rattle.std.specs.Prelude.{◌≡◌, List, [], ◌∷◌, ℤ, Some, None, Option}
use Rattle.clauses.specs.declared.clause.Clause.{Clause}
use Rattle.clauses.specs.Clauses.{literals}
use Rattle.clauses.specs.Words.{signs}

-- the first literal, and a clause of the others; none where there is none
abbrev pub Splits : List ℤ → Option (ℤ × Clause) → Type 0
Splits ls None = ls ≡ []
Splits ls (Some p) = ls ≡ p.0 ∷ literals (signs p.1)
