-- What a pair of words stands for. Assumes nothing.
use Rattle.clauses.specs.Clauses.{Signs}
use Rattle.clauses.specs.Words.{signs}
use Rattle.lines.specs.Lines.{given_line}
use Rattle.lines.specs.declared.line.Line.{Line}
use Rattle.weighing_c.specs.declared.pair.Pair.{Pair}

-- its clause
abbrev pub signs_of : Pair → Signs
signs_of p = signs (record { pos = p.pos; neg = p.neg })

-- the line of that clause, as given
abbrev pub line_of : Pair → Line
line_of p = given_line (record { pos = p.pos; neg = p.neg })
