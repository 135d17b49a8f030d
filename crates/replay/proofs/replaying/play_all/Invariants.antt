use Rattle.std.proofs.Common.{◌≤◌, ◌-◌, length, map, drop}
use Rattle.replay.specs.Lists.{PlaysAll, Writes, GoesOnAnew}
use Rattle.replay.proofs.replaying.play_all.Given as goal

abbrev pub invariant-loop-book : goal.invariant-loop-book
invariant-loop-book g l = record {
  within : l.at ≤ length l.lines;
  so_far :
      Writes (g.W.Write.contents l.initial.writer) (g.W.Write.contents l.writer)
      (λ out. GoesOnAnew (PlaysAll (map (λ w. w.now) l.lines)) out
      (drop l.at (map (λ w. w.now) l.lines)) l.made (length l.book.items));
}

abbrev pub decreases-loop-book : goal.decreases-loop-book
decreases-loop-book g l = length l.lines - l.at
