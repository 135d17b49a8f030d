use Rattle.std.proofs.Common.{◌+◌, ◌-◌, arith}
use lib.Bits.{bit_or}
use Rattle.weighing.specs.Books.{standing}
use Rattle.search.proofs.ReadingOff.{Read, read_none, read_next, read_all}
use Rattle.search.proofs.reading.read_off.Goals as goal
use Rattle.search.proofs.reading.read_off.Goals.{then-is_none, else-is_none}

pub loop-v-init : goal.loop-v-init
loop-v-init c = read_none c.args.book.now.n (standing c.args.book.now)

pub loop-v-preserved : goal.loop-v-preserved
loop-v-preserved c =
    let r = read_next c.args.book.now c.loop-v.v c.one-bit.result c.is_none.result c.loop-v.invariant c.loop-v.auto.v c.loop-v-test.true c.one-bit.type_inv c.one-bit.ensures.bits c.oldest_broken.ensures.value c.is_none.ensures in
    elim c.if-is_none.branch [ then-is_none w ↦ rw w.word-is (rw w.if-is_none.true at r) | else-is_none w ↦ rw w.word-is (rw w.if-is_none.false at r) ]

-- what is known once the last variable is read off
after : (c : goal.Else-v-v-end) → Read c.args.book.now.n (c.loop-v.v + 1 - 1) (standing c.args.book.now) (bit_or c.loop-v.set c.one-bit.result) c.if-is_none.word
after c =
    let r = read_next c.args.book.now c.loop-v.v c.one-bit.result c.is_none.result c.loop-v.invariant c.loop-v.auto.v c.loop-v-test.true c.one-bit.type_inv c.one-bit.ensures.bits c.oldest_broken.ensures.value c.is_none.ensures in
    elim c.if-is_none.branch [ then-is_none w ↦ rw w.word-is (rw w.if-is_none.true at r) | else-is_none w ↦ rw w.word-is (rw w.if-is_none.false at r) ]

pub returns-after-is_none-clause-value : goal.returns-after-is_none-clause-value
returns-after-is_none-clause-value c = (read_all (after c) (omega arith)).0

pub returns-after-is_none-clause-within : goal.returns-after-is_none-clause-within
returns-after-is_none-clause-within c = (read_all (after c) (omega arith)).1
