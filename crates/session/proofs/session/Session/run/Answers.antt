use Rattle.session.specs.Sessions.{state, places}
use Rattle.histories.proofs.Histories.{continues}
use Rattle.session.proofs.Calls.{runs_do}
use Rattle.session.proofs.session.Session.run.Goals as goal

pub returns-clause-guaranteed : goal.returns-clause-guaranteed
returns-clause-guaranteed g c =
    let s = c.args.self.now in
    continues _ _ _ _ _
    (runs_do (places s) (state s) (state c.go.new.self) c.if-self-eq0.false (g.G.Guide.rank c.args.guide.now) c.args.budget c.go.result c.if-budget-gt-MOST_STEPS.false c.go.ensures.runs)
