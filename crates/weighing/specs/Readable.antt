-- Which lines a book can be made of. Assumes nothing.
use Rattle.std.specs.Prelude.{ℕ, Bool, ◌&&◌, List, length, nat_le}
use Rattle.std.specs.List.{list_all}
use Rattle.limits.specs.Limits.{most_lines}
use Rattle.words.specs.Bits.{width}
use Rattle.clauses.specs.Clauses.{within}
use Rattle.lines.specs.declared.line.Line.{Line}
use Rattle.lines.specs.Lines.{clauses}

-- so few lines that a row can count them, so few variables that a word has
-- them all, and no line has others
abbrev pub readable : ℕ → List Line → Bool
readable n ls = (nat_le (length ls) most_lines && nat_le n width) && list_all (within n) (clauses ls)
