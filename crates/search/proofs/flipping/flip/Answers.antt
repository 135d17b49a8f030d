use Rattle.std.proofs.Common.{◌-◌, arith}
use Rattle.clauses.specs.Values.{truths}
use Rattle.guides.specs.Counted.{counts}
use Rattle.steps.proofs.Flips.{SoFar, near, here}
use Rattle.weighing.specs.Books.{standing}
use Rattle.clauses.proofs.Listed.{length_truths}
use Rattle.search.proofs.Best.{kept, taken, all_weighed, all_best}
use Rattle.search.proofs.flipping.flip.Given.{Over}
use Rattle.search.proofs.flipping.flip.Goals as goal
use Rattle.search.proofs.flipping.flip.Goals.{in-Some, in_default}

pub returns-clause-value : goal.returns-clause-value
returns-clause-value g c =
    all_weighed (g.G.Guide.rank c.args.guide.now) (standing c.args.book.now) (truths c.args.book.now.n c.args.assignment.now.word) (c.loop-v.v - 1) c.loop-v.best
    (omega (arith, length_truths c.args.book.now.n c.args.assignment.now.word)) c.loop-v.invariant.best

pub returns-clause-best : goal.returns-clause-best
returns-clause-best g c =
    all_best (g.G.Guide.rank c.args.guide.now) (standing c.args.book.now) (truths c.args.book.now.n c.args.assignment.now.word) (c.loop-v.v - 1) c.loop-v.best
    (omega (arith, length_truths c.args.book.now.n c.args.assignment.now.word)) c.loop-v.invariant.best

-- what is lowest once the last neighbour is weighed
after : (g : Over) (c : goal.Else-v-v-end g)
    → SoFar (near (g.G.Guide.rank c.args.guide.now) (standing c.args.book.now) (truths c.args.book.now.n c.args.assignment.now.word))
    (here (g.G.Guide.rank c.args.guide.now) (standing c.args.book.now) (truths c.args.book.now.n c.args.assignment.now.word)) c.loop-v.v c.match-weigh_neighbour.best
after g c =
    let rank = g.G.Guide.rank c.args.guide.now in
    let cs = standing c.args.book.now in
    let a = truths c.args.book.now.n c.args.assignment.now.word in
    elim c.match-weigh_neighbour.branch [
      | in-Some w ↦
          rw w.best-is
          (taken rank cs a c.loop-v.v c.loop-v.best (counts c.loop-v.best_row) w.in-Some.better c.loop-v.auto.v (c.loop-v.invariant.best, c.loop-v.invariant.row) (rw (← c.loop-v.invariant.same) w.in-Some.ensures.row))
      | in_default w ↦
          rw w.best-is
          (kept rank cs a c.loop-v.v c.loop-v.best (counts c.loop-v.best_row) c.loop-v.auto.v (c.loop-v.invariant.best, c.loop-v.invariant.row) (rw (← c.loop-v.invariant.same) w.in_default.ensures.row))
    ]

pub returns-after-weigh_neighbour-clause-value : goal.returns-after-weigh_neighbour-clause-value
returns-after-weigh_neighbour-clause-value g c =
    all_weighed (g.G.Guide.rank c.args.guide.now) (standing c.args.book.now) (truths c.args.book.now.n c.args.assignment.now.word) c.loop-v.v c.match-weigh_neighbour.best
    (omega (arith, length_truths c.args.book.now.n c.args.assignment.now.word)) (after g c)

pub returns-after-weigh_neighbour-clause-best : goal.returns-after-weigh_neighbour-clause-best
returns-after-weigh_neighbour-clause-best g c =
    all_best (g.G.Guide.rank c.args.guide.now) (standing c.args.book.now) (truths c.args.book.now.n c.args.assignment.now.word) c.loop-v.v c.match-weigh_neighbour.best
    (omega (arith, length_truths c.args.book.now.n c.args.assignment.now.word)) (after g c)
