use Rattle.std.proofs.Common.{◌≡◌, take}
use Rattle.clauses.specs.Values.{truths}
use Rattle.lines.specs.Lines.{clauses}
use Rattle.steps.specs.Rows.{row}
use Rattle.weighing.proofs.weighing.weigh.Given as goal

-- the row of the lines looked at
abbrev pub invariant-loop-line : goal.invariant-loop-line
invariant-loop-line l = l.counts ≡ row (take l.line-index (clauses l.book.lines.now)) (truths l.book.n l.assignment.word)
