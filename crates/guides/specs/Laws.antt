-- What holds of the two ranks, said of all rows. Assumes nothing.
use Rattle.std.specs.Prelude.{◌≡◌, ◌↔◌, false, IsTrue}
use Rattle.guides.specs.Rows.{Counts, Fit}
use Rattle.guides.specs.Ranks.{Ranked, Rank, better, longest_first, FewerAtTheLongest}

-- The lower weighted sum and the smaller count at the largest length where two
-- rows differ are the same order of rows.
abbrev pub LongestFirstReadBothWays : Type 0
LongestFirstReadBothWays = (a b : Counts) → Fit a → Fit b → IsTrue (better longest_first a b) ↔ FewerAtTheLongest a b

-- Of equal rows neither is better, whatever ranks them.
abbrev pub EqualRowsBeatNeitherWay : Type 0
EqualRowsBeatNeitherWay = (rank : Rank) (a : Ranked) → better rank a a ≡ false
