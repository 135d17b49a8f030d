-- Neighbours of an assignment, and the first step. Assumes nothing.
use Rattle.std.specs.Prelude.{ℕ, zero, suc, ◌<◌, ◌≤◌, Bool, not, ◌&&◌, List, [], ◌∷◌, length, filter}
use Rattle.std.specs.List.{list_all, range_with_len}
use Rattle.clauses.specs.Clauses.{Signs}
use Rattle.guides.specs.Ranks.{Ranked, Rank, better}
use Rattle.steps.specs.Rows.{ranked}

-- The assignment with variable v the other way: a neighbour. There is none
-- where v is no variable of it.
abbrev pub flipped : ℕ → List Bool → List Bool
flipped zero a = a
flipped (suc k) [] = []
flipped (suc zero) (b ∷ a) = not b ∷ a
flipped (suc (suc k)) (b ∷ a) = b ∷ flipped (suc k) a

-- what a guide ranks of the neighbour that differs in v
abbrev pub ranked_flipped : List Signs → List Bool → ℕ → Ranked
ranked_flipped cs a v = ranked cs (flipped v a)

-- the variables 1 to n
abbrev pub variables_to : ℕ → List ℕ
variables_to n = range_with_len 1 n

-- The neighbour that differs in v is better than the assignment.
abbrev pub improves : Rank → List Signs → List Bool → ℕ → Bool
improves rank cs a v = better rank (ranked_flipped cs a v) (ranked cs a)

-- No neighbour is better than the one that differs in v.
abbrev pub unbeaten : Rank → List Signs → List Bool → ℕ → Bool
unbeaten rank cs a v = list_all (λ u. not (better rank (ranked_flipped cs a u) (ranked_flipped cs a v))) (variables_to (length a))

-- 1. Flip. The variables, rising, whose neighbours are better than the
-- assignment, and than which no neighbour is better.
unfoldable pub flips : Rank → List Signs → List Bool → List ℕ
flips rank cs a = filter (λ v. improves rank cs a v && unbeaten rank cs a v) (variables_to (length a))

-- ---- what the first of these is

-- no neighbour is better than the assignment
abbrev pub NoneBetter : Rank → List Signs → List Bool → Type 0
NoneBetter rank cs a = (u : ℕ) → 0 < u → u ≤ length a → rank (ranked cs a) ≤ rank (ranked_flipped cs a u)

-- the neighbour that differs in v is better than the assignment, none has a
-- lower rank, and none of a lower variable has as low a one
pub record Best (rank : Rank) (cs : List Signs) (a : List Bool) (v : ℕ) : Type 0 where
  pub named : (0 < v) × (v ≤ length a)
  pub lower : rank (ranked_flipped cs a v) < rank (ranked cs a)
  pub lowest : (u : ℕ) → 0 < u → u ≤ length a → rank (ranked_flipped cs a v) ≤ rank (ranked_flipped cs a u)
  pub earliest : (u : ℕ) → 0 < u → u < v → rank (ranked_flipped cs a v) < rank (ranked_flipped cs a u)
