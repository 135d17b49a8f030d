use Rattle.std.proofs.Common.{◌+◌, ◌-◌, ap, sym, ◌∙◌}
use Rattle.pages.proofs.Counting.{number_other}
use Rattle.pages.proofs.numbering.Numbering.number.Goals as goal

pub returns : goal.returns
returns c =
    let ls = c.args.self.now.lines.now in
    record {
      value = ap (λ n. c.given.result + (c.min.result - n)) c.given_before-before.ensures.value
          ∙ number_other ls c.args.k c.given.result c.min.result (sym c.is_given_at.ensures.value ∙ c.if-is_given_at.false) c.given.ensures.value c.min.ensures;
    }
