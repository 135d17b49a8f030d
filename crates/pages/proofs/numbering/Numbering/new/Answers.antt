use Rattle.std.proofs.Common.{arith}
use Rattle.pages.proofs.numbering.Numbering.new.Goals as goal

pub overflow_add-total : goal.overflow_add-total
overflow_add-total c = let t = c.loop-i.invariant.total in let v = c.between-total.ensures.value in let m = c.between-total.ensures.most in let f = c.between-total.ensures.fits in omega arith
