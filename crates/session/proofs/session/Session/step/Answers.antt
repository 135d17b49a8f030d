use Rattle.std.proofs.Common.{arith}
use Rattle.clauses.proofs.Listed.{length_truths}
use Rattle.session.proofs.Pushing.{pushed_places}
use Rattle.session.proofs.Stepping.{flip_below}
use Rattle.session.proofs.session.Session.step.Goals as goal

pub invariant_of-self-clause-inside : goal.invariant_of-self-clause-inside
invariant_of-self-clause-inside g c =
    let s = c.args.self.now in
    let named = c.in-Flip.ensures.helps.named in
    let size = length_truths s.n s.assignment.word in
    rw c.due.ensures.same (flip_below s.n c.in-Flip.v s.assignment.word c.one.result s.wide named.0 (omega (arith, named.1)) s.inside c.one.type_inv c.one.ensures.bits)

pub returns-in-Write-clause-keeps : goal.returns-in-Write-clause-keeps
returns-in-Write-clause-keeps g c = pushed_places _ _ c.in-Write.line c.push.result c.push.ensures.after
