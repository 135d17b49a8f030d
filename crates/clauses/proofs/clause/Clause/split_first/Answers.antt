use Rattle.std.proofs.Common.{◌≡◌, pos, cond, neg_ℤ, arith, w32, to_z}
use Rattle.std.proofs.lemmas.Int.{ints}
use Rattle.clauses.proofs.Splits.{split_some}
use Rattle.clauses.proofs.clause.Clause.split_first.Goals as goal
use Rattle.clauses.proofs.clause.Clause.split_first.Goals.{then-holds, else-holds+in_ok-literal}

pub returns : goal.returns
returns c =
    let v = c.in_ok-v.field-0 in
    let named = c.in_ok-v.ensures.named in
    let small : to_z w32 v ≡ pos v = omega (arith, ints) in
    let is : to_z w32 c.if-holds.literal-bits ≡ cond c.holds.result (pos v) (neg_ℤ (pos v)) =
    elim c.if-holds.branch [ then-holds w ↦ rw w.if-holds.true (grind (arith, ints)) | else-holds+in_ok-literal w ↦ rw w.if-holds.false (grind (arith, ints)) ] in
    record { splits = grind (arith, split_some) }
