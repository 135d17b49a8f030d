-- The row of an assignment over some clauses. Assumes nothing.
use Rattle.std.specs.Prelude.{ℕ, Bool, ◌&&◌, List, ◌==◌, count_by, map}
use Rattle.std.specs.List.{range_with_len}
use Rattle.clauses.specs.Values.{Values, assigned}
use Rattle.clauses.specs.Clauses.{Signs, size, broken}
use Rattle.limits.specs.Limits.{lengths}
use Rattle.guides.specs.Rows.{Counts}
use Rattle.guides.specs.Ranks.{Ranked}

-- broken, and of length k
abbrev pub broken_of_length : Values → ℕ → Signs → Bool
broken_of_length m k c = broken m c && (size c == k)

-- Entry k, from 0 to 64, is the number of broken clauses of length k.
unfoldable pub row : List Signs → List Bool → Counts
row cs a = map (λ k. count_by (broken_of_length (assigned a) k) cs) (range_with_len 0 lengths)

-- What a guide ranks of an assignment: its row.
abbrev pub ranked : List Signs → List Bool → Ranked
ranked cs a = row cs a
