use Rattle.std.proofs.Common.{length, map, true, ◌++◌, inl, inr, refl, sym, ◌∙◌, arith}
use Rattle.protocol.specs.Said.{said}
use Rattle.replay.specs.Lists.{told, PlaysLines}
use Rattle.replay.proofs.Lists.{appends_more, left_at, none_left, passes_over, answers, ends}
use Rattle.replay.proofs.replaying.play_lines.Goals as goal

pub loop-i-preserved-then-is_passed_over : goal.loop-i-preserved-then-is_passed_over
loop-i-preserved-then-is_passed_over g c =
    let at = c.loop-i.invariant in (
      at.0,
      at.1,
      passes_over (PlaysLines (map (λ w. w.now) c.args.lines.now) c.args.made c.args.session.now) at.0 _ _ _ c.args.made c.loop-i.session
          (left_at (λ w. w.now) c.args.lines.now c.loop-i.i _ c.loop-i-test.true) at.2
          (sym c.is_passed_over.ensures.value ∙ c.if-is_passed_over.true),
    )

pub returns-in-Some-clause-plays : goal.returns-in-Some-clause-plays
returns-in-Some-clause-plays g c =
    let at = c.loop-i.invariant in
    let a = said c.play_line-answer.result.0 in
    let renews = rw c.in-Some.is at c.play_line-answer.ensures.answered in (
      at.0 ++ told a,
      appends_more _ _ _ at.0 (told a) at.1 c.in_ok-write_answer.ensures.written,
      λ is new. answers (PlaysLines (map (λ w. w.now) c.args.lines.now) c.args.made c.args.session.now) at.0 _ _ _ c.args.made true c.loop-i.session is a
          (left_at (λ w. w.now) c.args.lines.now c.loop-i.i _ c.loop-i-test.true) at.2
          (sym c.is_passed_over.ensures.value ∙ c.if-is_passed_over.false)
          (inr ((length c.in-Some.book.items, renews, new), refl)),
    )

pub loop-i-preserved : goal.loop-i-preserved
loop-i-preserved g c =
    let at = c.loop-i.invariant in
    let a = said c.play_line-answer.result.0 in
    let stays = rw c.in_default.is at c.play_line-answer.ensures.answered in (
      at.0 ++ told a,
      appends_more _ _ _ at.0 (told a) at.1 c.in_ok-write_answer.ensures.written,
      answers (PlaysLines (map (λ w. w.now) c.args.lines.now) c.args.made c.args.session.now) at.0 _ _ _ c.args.made c.args.made c.loop-i.session c.play_line-answer.new.session a
          (left_at (λ w. w.now) c.args.lines.now c.loop-i.i _ c.loop-i-test.true) at.2
          (sym c.is_passed_over.ensures.value ∙ c.if-is_passed_over.false)
          (inl (stays, refl)),
    )

pub returns-clause-plays : goal.returns-clause-plays
returns-clause-plays g c =
    let at = c.loop-i.invariant in (
      at.0,
      at.1,
      ends (PlaysLines (map (λ w. w.now) c.args.lines.now) c.args.made c.args.session.now) at.0 _ c.args.made c.loop-i.session
          (none_left (λ w. w.now) c.args.lines.now c.loop-i.i (omega arith)) at.2,
    )
