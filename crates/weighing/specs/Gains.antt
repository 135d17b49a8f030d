-- A row that is told only where it is better than the best so far. Assumes
-- nothing.
use Rattle.std.specs.Prelude.{◌≡◌, true, false, Some, None, Option}
use Rattle.guides.specs.declared.row.Row.{Row}
use Rattle.guides.specs.Ranks.{Ranked, Rank, better}
use Rattle.guides.specs.Counted.{ranked_row}

abbrev pub Gains : Rank → Ranked → Ranked → Option Row → Type 0
Gains rank here best None = better rank here best ≡ false
Gains rank here best (Some r) = (ranked_row r ≡ here) × (better rank here best ≡ true)
