-- What is resolved from two clauses. Assumes nothing.
use Rattle.std.specs.Prelude.{◌≡◌, true, [], ◌∷◌, length, Some, None, Option}
use Rattle.lines.specs.declared.resolving.Resolvent.{Resolvent}
use Rattle.clauses.specs.Values.{Values}
use Rattle.clauses.specs.Clauses.{Signs, clean, meets, clashes, resolvent}
use Rattle.clauses.specs.Words.{signs}

-- In exactly one variable: what is left of both is told, and where neither
-- holds a variable both ways, what meets both meets it. In none or in more:
-- nothing is.
abbrev pub Resolves : Signs → Signs → Option Resolvent → Type 0
Resolves c d None = length (clashes c d) ≡ 1 → ⊥
Resolves c d (Some r) =
    (clashes c d ≡ r.variable ∷ []) × (signs r.clause ≡ resolvent r.variable c d)
    × (clean c ≡ true → clean d ≡ true → (m : Values) → meets m c ≡ true → meets m d ≡ true → meets m (signs r.clause) ≡ true)
