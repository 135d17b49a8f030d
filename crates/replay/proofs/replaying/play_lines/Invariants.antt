use Rattle.std.proofs.Common.{drop, map}
use Rattle.replay.specs.Lists.{PlaysLines, Writes, GoesOn}
use Rattle.replay.proofs.replaying.play_lines.Given as goal

abbrev pub invariant-loop-i : goal.invariant-loop-i
invariant-loop-i g l =
    Writes (g.W.Write.contents l.initial.writer) (g.W.Write.contents l.writer)
    (λ out. GoesOn (PlaysLines (map (λ w. w.now) l.lines) l.made l.initial.session) out
    (PlaysLines (drop l.i (map (λ w. w.now) l.lines)) l.made l.session))
