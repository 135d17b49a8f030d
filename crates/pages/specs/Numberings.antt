-- How many given lines stand before a place of the book. Assumes nothing.
use Rattle.std.specs.Prelude.{◌≡◌, ℕ, ◌*◌, ◌<◌, true, List, take, slice_index}
use Rattle.lines.specs.declared.line.Line.{Line}
use Rattle.lines.specs.Lines.{candidates}
use Rattle.pages.specs.Says.{count_of}

-- of the first k lines
abbrev pub given_before : List Line → ℕ → ℕ
given_before ls k = count_of true (take k (candidates ls))

-- The table tells it for each 64th place.
abbrev pub Counted : List ℕ → List Line → ℕ → Type 0
Counted table ls b = (j : ℕ) → j < b → slice_index table j ≡ given_before ls (j * 64)
