use Rattle.std.proofs.Common.{sym}
use Rattle.lines.proofs.Found.{some_found}
use Rattle.clauses.specs.Words.{signs}
use Rattle.lines.proofs.book.number.Goals as goal

pub returns : goal.returns
returns c =
    let some = rw c.given.ensures.value at c.in_ok-i.ensures.first in
    record { value = sym (some_found 1 (signs c.args.clause.now) c.args.lines.now c.in_ok-i.i some.0 some.1 some.2) }
