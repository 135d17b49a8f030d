use Rattle.std.proofs.Common.{arith}
use Rattle.std.proofs.lemmas.Bool.Decides.{nat_tests}
use Rattle.protocol.proofs.Numerals.{natural_read}
use Rattle.protocol.proofs.reading.numbers.natural.Goals as goal

pub returns-in_err-n : goal.returns-in_err-n
returns-in_err-n c =
    let read = natural_read c.args.most c.args.word.now _ c.parse.ensures.value.0 (omega arith) in
    grind (arith, nat_tests)

pub returns-then-n-most : goal.returns-then-n-most
returns-then-n-most c =
    let read = natural_read c.args.most c.args.word.now _ c.parse.ensures.value.0 (omega arith) in
    grind (arith, nat_tests)

pub returns-else-eq : goal.returns-else-eq
returns-else-eq c =
    let read = natural_read c.args.most c.args.word.now _ c.parse.ensures.value.0 (omega arith) in
    grind (arith, nat_tests)
