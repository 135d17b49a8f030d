use Rattle.std.proofs.Common.{get_or, pos, w32, SFits, rules, arith}
use Rattle.std.proofs.lemmas.Grind.{common_steps}
use Rattle.std.proofs.lemmas.Int.{to_z-of_z}
use Rattle.lines.proofs.Gathering.{one_more}
use Rattle.lines.proofs.given.gather.Goals as goal

pub loop-number-preserved : goal.loop-number-preserved
loop-number-preserved c =
    let fits : SFits w32 (get_or c.args.numbers.now c.loop-number.number-index (pos 0)) = search rules in
    (grind (arith, common_steps), grind (arith, common_steps, one_more, to_z-of_z))
