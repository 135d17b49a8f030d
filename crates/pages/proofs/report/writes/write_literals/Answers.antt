use Rattle.std.proofs.Common.{rules, ◌≡◌, SFits, w32, to_z-of_z, refl, subst, arith}
use Rattle.std.specs.List.{flat_map}
use Rattle.clauses.specs.Values.{truths}
use Rattle.writing.specs.Pages.{Tells}
use Rattle.writing.proofs.Joining.{tells_more}
use Rattle.pages.specs.Says.{literal_items}
use Rattle.pages.specs.Reports.{true_literals}
use Rattle.pages.proofs.Rows.{signed_told}
use Rattle.pages.proofs.Trues.{no_true, true_told}
use Rattle.pages.proofs.report.writes.write_literals.Goals as goal

pub loop-k-init : goal.loop-k-init
loop-k-init c = no_true c.args.word c.args.page.now

pub loop-k-preserved : goal.loop-k-preserved
loop-k-preserved c =
    let more = c.loop-k-test.true in
    let wide = c.requires in
    let x = c.literal.result in
    let fits : SFits w32 x = search rules in
    let now = signed_told _ x _ _ (to_z-of_z {w = w32} {z = x} fits) c.signed.ensures.tells in
    true_told c.loop-k.k _ c.args.word c.has.result x _ _ _ refl (omega arith) c.ranges.word.fits c.has.ensures.value c.literal.ensures.value c.loop-k.invariant (tells_more _ _ _ _ _ now c.space.ensures.tells)

pub returns : goal.returns
returns c =
    let done = c.loop-k-test.false in let most = c.loop-k.auto.k-end in
    let all : c.loop-k.k ≡ c.args.n = omega arith in
    record {
      tells = tells_more _ _ _ _ _ (subst (λ m. Tells (flat_map literal_items (true_literals 1 (truths m c.args.word))) c.args.page.now c.loop-k.page) all c.loop-k.invariant)
          (tells_more _ _ _ _ _ c.number.ensures.tells c.end.ensures.tells);
    }
