-- The worked examples, by computation. Assumes nothing.
use Rattle.std.specs.Prelude.{◌≡◌, true, false, ◌∷◌, replicate}
use Rattle.guides.specs.Rows.{Counts}
use Rattle.guides.specs.Ranks.{better, longest_first, fewest_broken}

-- three broken lines of length 1
abbrev pub three_short : Counts
three_short = 0 ∷ 3 ∷ replicate 63 0

-- one broken line of length 2
abbrev pub one_long : Counts
one_long = 0 ∷ 0 ∷ 1 ∷ replicate 62 0

-- Longest first takes three short lines before a longer one, fewest broken the
-- one before the three, and equal rows beat neither way.
abbrev pub Examples : Type 0
Examples =
    (better longest_first three_short one_long ≡ true)
    × (better longest_first one_long three_short ≡ false)
    × (better fewest_broken one_long three_short ≡ true)
    × (better fewest_broken three_short one_long ≡ false)
    × (better longest_first one_long one_long ≡ false)
    × (better fewest_broken one_long one_long ≡ false)
