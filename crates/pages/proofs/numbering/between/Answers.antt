use Rattle.std.proofs.Common.{◌+◌, ap, ◌∙◌}
use Rattle.pages.specs.Numberings.{given_before}
use Rattle.pages.proofs.Counting.{counted_between, before_most}
use Rattle.pages.proofs.numbering.between.Goals as goal

pub returns-clause-value : goal.returns-clause-value
returns-clause-value c =
    let ls = c.args.lines.now in
    ap (λ n. given_before ls c.args.from + n) c.count.ensures.value ∙ counted_between ls c.args.from c.args.to c.min.result c.min-end.result c.requires.order c.min-end.ensures c.min.ensures

pub returns-clause-most : goal.returns-clause-most
returns-clause-most c = before_most c.args.lines.now c.args.to
