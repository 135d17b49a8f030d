use Rattle.std.proofs.Common.{◌≡◌, ℕ, List, IfOk, map, lit<, ap, subst, ◌∙◌, arith}
use Rattle.std.specs.Str.Lossy.{utf8_lossy}
use Rattle.std.proofs.lemmas.Iterator.Consumers.{map_from_collect}
use Rattle.std.proofs.lemmas.Iterator.Splits.{YieldsList-from_str_split}
use Rattle.replay.specs.Lists.{lines_of}
use Rattle.replay.proofs.Input.{played_text}
use Rattle.replay.proofs.replaying.play_text.Goals as goal

pub returns : goal.returns
returns g c =
    let text : List ℕ = utf8_lossy c.args.text.now in
    let cut =
    YieldsList-from_str_split 10 text (lit< tt) (c.split.ensures.text ∙ c.as_str.ensures.value ∙ c.in_ok-text.ensures.lossy) c.split.ensures.has_more c.split.ensures.pattern in
    let all = map_from_collect c.collect.result c.collect.ensures.ran cut in
    let lines = subst (λ r. IfOk r (λ v. map (λ w. w.now) v.items ≡ lines_of c.args.text.now)) c.in_ok-lines.was all in
    record {
      replays = played_text c.play_all.result _ _ c.args.text.now _ c.play_all.ensures.plays
          (ap (map (λ w. w.now)) c.as_slice.ensures.value ∙ lines) (omega arith);
    }
