-- What a row counts. Assumes nothing.
use Rattle.std.specs.Prelude.{◌≡◌, ℕ, ◌≤◌, List, length, sum, slice_index}
use Rattle.limits.specs.Limits.{lengths, most_lines}

-- The entries of a row: how many lines of each length are broken, length 0
-- first, up to 64.
abbrev pub Counts : Type 0
Counts = List ℕ

-- how many have length k: none where k is past the last entry
abbrev pub count : ℕ → Counts → ℕ
count k cs = slice_index cs k

-- 65 entries, in all at most 65,536
abbrev pub Fit : Counts → Type 0
Fit cs = (length cs ≡ lengths) × (sum cs ≤ most_lines)
