use Rattle.std.proofs.Common.{◌≡◌, ◌+◌, ◌<◌, slice_index_or, arith, ap, ◌∙◌}
use Rattle.pages.specs.Numberings.{given_before}
use Rattle.pages.proofs.numbering.Numbering.given_before.Goals as goal

told : (c : goal.After-between) → slice_index_or c.args.self.now.before c.min-i.result 0 + c.between.result ≡ given_before c.args.self.now.lines.now c.args.k
told c =
    let i : c.min-i.result < 1024 = omega arith in
    ap (λ n. n + c.between.result) (c.args.self.now.counted c.min-i.result i) ∙ c.between.ensures.value

pub overflow_add-result : goal.overflow_add-result
overflow_add-result c = let t = told c in let m = c.between.ensures.most in let f = c.between.ensures.fits in omega arith

pub returns : goal.returns
returns c = let t = told c in let m = c.between.ensures.most in record { value = t; most = omega arith }
