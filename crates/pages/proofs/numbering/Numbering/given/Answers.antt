use Rattle.std.proofs.Common.{◌∙◌, arith}
use Rattle.pages.proofs.Counting.{before_all}
use Rattle.pages.proofs.numbering.Numbering.given.Goals as goal

pub returns : goal.returns
returns c = let m = c.given_before.ensures.most in record { value = c.given_before.ensures.value ∙ before_all c.args.self.now.lines.now; most = omega arith }
