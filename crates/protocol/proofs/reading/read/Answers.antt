use Rattle.std.proofs.Common.{◌≡◌, IfOk, ℕ, List, map, arith, lit<, subst}
use Rattle.std.proofs.lemmas.Grind.{common_steps}
use Rattle.std.proofs.lemmas.Iterator.Consumers.{map_from_collect}
use Rattle.std.proofs.lemmas.Iterator.Splits.{YieldsList-from_str_split}
use Rattle.protocol.specs.Commands.{words_of}
use Rattle.protocol.proofs.reading.read.Goals as goal

pub returns-in-Some : goal.returns-in-Some
returns-in-Some c =
    let split = c.split.ensures in
    let line : List ℕ = c.args.line.now in
    let cut = YieldsList-from_str_split 32 line (lit< tt) split.text split.has_more split.pattern in
    let all = map_from_collect c.collect.result c.collect.ensures.ran cut in
    let words =
    subst (λ r. IfOk r (λ v. map (λ w. w.now) v.items ≡ words_of c.args.line.now))
    c.in_ok-words.was all in
    grind (arith, common_steps)
