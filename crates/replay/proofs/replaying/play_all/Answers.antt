use Rattle.std.proofs.Common.{◌++◌, [], length, map, ap, ◌∙◌, arith}
use Rattle.replay.specs.Lists.{IsNew, PlaysAll}
use Rattle.replay.proofs.Lists.{appends_none, appends_more, starts, rest_left, within_rest, renews, finishes}
use Rattle.replay.proofs.replaying.play_all.Goals as goal

pub loop-book-init : goal.loop-book-init
loop-book-init g c = record {
  within = omega arith;
  so_far = ([], appends_none _, starts (map (λ w. w.now) c.args.lines.now) _ (ap length c.new-book.ensures.items));
}

pub returns-in_default : goal.returns-in_default
returns-in_default g c =
    let new : IsNew c.new-session.result (length c.loop-book.book.items) =
    record { fresh = c.new-session.ensures.unopened; room = ap length (c.new-session.ensures.places ∙ c.deref_mut.ensures.value) } in
    let all = map (λ w. w.now) c.args.lines.now in
    let so_far = c.loop-book.invariant.so_far in
    let played = c.in_ok-played.ensures.plays in
    record {
      plays = (
        so_far.0 ++ played.0,
        appends_more _ _ _ so_far.0 played.0 so_far.1 played.1,
        finishes (PlaysAll all) so_far.0 played.0 _ _ c.loop-book.made _ c.new-session.result
            (rest_left (λ w. w.now) c.args.lines.now c.loop-book.at) so_far.2 new (rw c.in_default.is at played.2),
      );
    }

pub loop-book-preserved : goal.loop-book-preserved
loop-book-preserved g c =
    let new : IsNew c.new-session.result (length c.loop-book.book.items) =
    record { fresh = c.new-session.ensures.unopened; room = ap length (c.new-session.ensures.places ∙ c.deref_mut.ensures.value) } in
    let all = map (λ w. w.now) c.args.lines.now in
    let so_far = c.loop-book.invariant.so_far in
    let played = c.in_ok-played.ensures.plays in
    record {
      within = within_rest c.args.lines.now c.loop-book.at c.in-Some.played c.loop-book.invariant.within (rw c.in-Some.is at c.in_ok-played.ensures.within);
      so_far = (
        so_far.0 ++ played.0,
        appends_more _ _ _ so_far.0 played.0 so_far.1 played.1,
        renews (PlaysAll all) so_far.0 played.0 all _ c.loop-book.at c.in-Some.played c.loop-book.made _ _ c.new-session.result
            (rest_left (λ w. w.now) c.args.lines.now c.loop-book.at) so_far.2 new (rw c.in-Some.is at played.2),
      );
    }
