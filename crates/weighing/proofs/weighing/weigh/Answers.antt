use Rattle.std.proofs.Common.{◌≡◌, ◌≤◌, length, get_or, arith, sym, ◌∙◌}
use Rattle.steps.proofs.Rows.{row_none}
use Rattle.weighing.proofs.Standing.{short, weighed-more, entry-le, all_weighed, row-fit}
use Rattle.weighing.proofs.weighing.weigh.Goals as goal
use Rattle.weighing.proofs.weighing.weigh.Goals.{then-is_broken, else-is_broken}

pub loop-line-init : goal.loop-line-init
loop-line-init c = sym (row_none _)

pub bounds-counts-length : goal.bounds-counts-length
bounds-counts-length c =
    let l = short c.args.book.now c.args.assignment.now.word c.loop-line.line-index _ c.clause-clause.result _ c.loop-line-test.true c.clause-clause.ensures.value (sym c.if-is_broken.ensures.value) in
    omega arith

pub bounds-counts-length-then-is_broken : goal.bounds-counts-length-then-is_broken
bounds-counts-length-then-is_broken c =
    let l = short c.args.book.now c.args.assignment.now.word c.loop-line.line-index _ c.clause-clause.result _ c.loop-line-test.true c.clause-clause.ensures.value (sym c.if-is_broken.ensures.value) in
    omega arith

pub overflow_add-counts : goal.overflow_add-counts
overflow_add-counts c =
    let l = short c.args.book.now c.args.assignment.now.word c.loop-line.line-index _ c.clause-clause.result _ c.loop-line-test.true c.clause-clause.ensures.value (sym c.if-is_broken.ensures.value) in
    let e : get_or c.loop-line.counts c.length.result 0 ≤ c.loop-line.line-index =
    rw c.loop-line.invariant (entry-le c.args.book.now c.args.assignment.now.word c.loop-line.line-index c.length.result c.loop-line.auto.line-index-end (omega arith)) in
    let f = c.args.book.now.few in
    omega arith

pub loop-line-preserved : goal.loop-line-preserved
loop-line-preserved c =
    elim c.if-is_broken.branch [
      | then-is_broken w ↦
          let m = weighed-more c.args.book.now c.args.assignment.now.word c.loop-line.line-index _ c.clause-clause.result c.is_broken.result c.loop-line-test.true c.clause-clause.ensures.value c.is_broken.ensures.value in
          w.counts-is ∙ sym (rw (w.if-is_broken.true, ← w.length.ensures.value, ← c.loop-line.invariant) at m)
      | else-is_broken w ↦
          let m = weighed-more c.args.book.now c.args.assignment.now.word c.loop-line.line-index _ c.clause-clause.result c.is_broken.result c.loop-line-test.true c.clause-clause.ensures.value c.is_broken.ensures.value in
          w.counts-is ∙ c.loop-line.invariant ∙ sym (rw w.if-is_broken.false at m)
    ]

pub invariant_of-result : goal.invariant_of-result
invariant_of-result c =
    let i : c.loop-line.line-index ≡ length c.args.book.now.lines.now = omega arith in
    record { fit = rw (c.loop-line.invariant, i, all_weighed c.args.book.now c.args.assignment.now.word) (row-fit c.args.book.now c.args.assignment.now.word) }

pub returns : goal.returns
returns c =
    let i : c.loop-line.line-index ≡ length c.args.book.now.lines.now = omega arith in
    record { row = rw (c.loop-line.invariant, i) (all_weighed c.args.book.now c.args.assignment.now.word) }
