use Rattle.std.proofs.Common.{ap, ◌∙◌}
use Rattle.words.specs.Bits.{sole}
use Rattle.clauses.specs.Clauses.{clashes, meets}
use Rattle.clauses.specs.Words.{signs}
use Rattle.lines.proofs.Resolution.{sole_clash, sole-some, resolution_sound}
use Rattle.lines.proofs.Paired.{resolvent-words}
use Rattle.lines.proofs.resolving.resolve.Goals as goal

pub returns : goal.returns
returns c =
    let a = c.args.a.now in
    let b = c.args.b.now in
    let v = c.in_ok-variable.variable in
    let one = sole-some (clashes (signs a) (signs b)) v (c.in_ok-variable.ensures.value ∙ ap sole c.clash.ensures.value) in
    let left = resolvent-words a b v c.one-others.result c.one-others.type_inv c.one-others.ensures.bits in
    record { resolves = (one, left, λ ka kb m ma mb. ap (meets m) left ∙ resolution_sound v (signs a) (signs b) m ka kb (sole_clash (signs a) (signs b) v one) ma mb) }
