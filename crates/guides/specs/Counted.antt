-- What the definitions see of a row. Assumes nothing.
use Rattle.guides.specs.declared.row.Row.{Row}
use Rattle.guides.specs.Rows.{Counts}
use Rattle.guides.specs.Ranks.{Ranked}

-- its entries
abbrev pub counts : Row → Counts
counts r = r.counts

-- what a guide ranks of it
abbrev pub ranked_row : Row → Ranked
ranked_row r = counts r
