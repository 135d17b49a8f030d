use Rattle.std.proofs.Common.{◌≡◌, ◌+◌, ◌-◌, ◌≤◌}
use Rattle.clauses.specs.Values.{truths}
use Rattle.guides.specs.Counted.{counts}
use Rattle.steps.specs.Rows.{row}
use Rattle.steps.specs.Flips.{ranked_flipped}
use Rattle.steps.proofs.Flips.{SoFar, beaten, near, here}
use Rattle.weighing.specs.Books.{standing}
use Rattle.search.proofs.flipping.flip.Given as goal

-- the best neighbour so far with its row, and the assignment as it was
abbrev pub invariant-loop-v : goal.invariant-loop-v
invariant-loop-v g l = record {
  best :
      let a = truths l.fn.book.n l.fn.assignment.word in
      let rank = g.G.Guide.rank l.fn.guide in
      SoFar (near rank (standing l.fn.book) a) (here rank (standing l.fn.book) a) (l.v - 1) l.best;
  row :
      let a = truths l.fn.book.n l.fn.assignment.word in
      counts l.best_row ≡ beaten (row (standing l.fn.book) a) (ranked_flipped (standing l.fn.book) a) l.best;
  same : l.assignment ≡ l.fn.assignment;
  reached : l.v ≤ l.fn.book.n + 1;
}
