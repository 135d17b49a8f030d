use Rattle.std.proofs.Common.{Ok, subst}
use Rattle.lines.specs.Given.{Becomes}
use Rattle.lines.proofs.Becoming.{becomes}
use Rattle.lines.proofs.given.given_line.Goals as goal

pub returns : goal.returns
returns c =
    let line = becomes c.min.result c.args.numbers.now c.in_ok-clause.clause c.given.result c.then_some.result c.is_tautology.result
    c.is_tautology.ensures.value c.then_some.ensures c.given.ensures.value c.in_ok-clause.ensures.gathers in
    record { becomes = subst (λ n. Becomes n c.args.numbers.now (Ok c.then_some.result)) c.min.ensures line }
