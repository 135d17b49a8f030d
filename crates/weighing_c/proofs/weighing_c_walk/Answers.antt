use Rattle.std.proofs.Common.{◌∙◌}
use Rattle.weighing_c.proofs.Given.{clauses-given}
use Rattle.weighing_c.proofs.weighing_c_walk.Goals as goal

-- the lines that are weighed are the given ones
pub returns-clause-walked : goal.returns-clause-walked
returns-clause-walked c t =
    let e = c.in-Some.ensures.same.0 ∙ c.deref.ensures.value ∙ c.in-Ok.ensures.lines in
    rw (c.in-Some.ensures.same.1, e, clauses-given c.args.given.now) at c.walk.ensures.walked
