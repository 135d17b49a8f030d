-- The words that say clauses over n variables, and a writer's text of them. Assumes nothing.
use Rattle.std.specs.Prelude.{ℕ, ◌<◌, ◌≤◌, List, [], ◌∷◌, ◌++◌, length, ℤ, codes, decimal, unsigned_abs}
use Rattle.std.specs.List.{flat_map, AllByRecursion}
use Rattle.std.specs.Fmt.{signed_decimal}
use Rattle.limits.specs.Limits.{most_literals, most_clauses}

-- a literal of one of n variables: `unsigned_abs x` is its variable
abbrev pub Literal : ℕ → ℤ → Type 0
Literal n x = (0 < unsigned_abs x) × (unsigned_abs x ≤ n)

-- clauses that a text over n variables can hold
abbrev pub Writable : ℕ → List (List ℤ) → Type 0
Writable n cs =
    (n < 100000) × (length cs ≤ most_clauses)
    × AllByRecursion (λ c. (length c ≤ most_literals) × AllByRecursion (Literal n) c) cs

-- the words of a clause: its literals in decimal, and 0
abbrev pub clause_words : List ℤ → List (List ℕ)
clause_words [] = (48 ∷ []) ∷ []
clause_words (x ∷ xs) = signed_decimal x ∷ clause_words xs

-- the words p, cnf, n, m, and those of the m clauses
abbrev pub saying : ℕ → List (List ℤ) → List (List ℕ)
saying n cs = codes "p" ∷ codes "cnf" ∷ decimal n ∷ decimal (length cs) ∷ flat_map clause_words cs

-- a clause: each literal in decimal and a space, then 0 and LF
abbrev pub clause_line : List ℤ → List ℕ
clause_line [] = 48 ∷ 10 ∷ []
clause_line (x ∷ xs) = signed_decimal x ++ (32 ∷ clause_line xs)

-- the line `p cnf n m`, then each clause on its line
abbrev pub written : ℕ → List (List ℤ) → List ℕ
written n cs =
    codes "p cnf " ++ (decimal n ++ (32 ∷ (decimal (length cs) ++ (10 ∷ flat_map clause_line cs))))
