-- Guides as ranks, and the ranks of the two guides. Assumes nothing.
use Rattle.std.specs.Prelude.{◌≡◌, ℕ, ◌+◌, ◌*◌, ◌^◌, ◌<◌, ◌≤◌, Bool, List, [], ◌∷◌, sum, nat_lt}
use Rattle.guides.specs.Rows.{Counts, count, Fit}

-- What a guide ranks: one row.
abbrev pub Ranked : Type 0
Ranked = Counts

-- A guide means a rank: one whole number for each of them.
abbrev pub Rank : Type 0
Rank = Ranked → ℕ

-- a is better than b: its rank is lower
abbrev pub better : Rank → Ranked → Ranked → Bool
better rank a b = nat_lt (rank a) (rank b)

-- ---- longest first

-- the sum of count j × 65,537 to the power j, where the first count is for
-- length k
abbrev pub weighted_from : ℕ → List ℕ → ℕ
weighted_from k [] = 0
weighted_from k (x ∷ xs) = x * 65537 ^ k + weighted_from (k + 1) xs

abbrev pub longest_first : Rank
longest_first cs = weighted_from 0 cs

-- at the largest length where they differ, the first has the smaller count
abbrev pub FewerAtTheLongest : Counts → Counts → Type 0
FewerAtTheLongest a b = (k : ℕ) × (count k a < count k b) × ((j : ℕ) → k < j → count j a ≡ count j b)

-- A rank that puts length before number: fewer at one length, and no more at
-- any greater length, ranks lower.
abbrev pub PutsLengthFirst : Rank → Type 0
PutsLengthFirst rank =
    (a b : Counts) → Fit a → Fit b → (k : ℕ) → count k a < count k b → ((j : ℕ) → k < j → count j a ≤ count j b) → rank a < rank b

-- ---- fewest broken

-- the sum of the counts
abbrev pub fewest_broken : Rank
fewest_broken cs = sum cs
