use Rattle.session.specs.Sessions.{state, places}
use Rattle.histories.proofs.Histories.{continues}
use Rattle.session.proofs.Calls.{adds_do}
use Rattle.session.proofs.session.Session.add.Goals as goal

pub returns-clause-guaranteed : goal.returns-clause-guaranteed
returns-clause-guaranteed c =
    let s = c.args.self.now in
    continues _ _ _ _ _ (adds_do (places s) (state s) (state c.accept.new.self) c.if-self-eq0.false c.args.numbers.now c.accept.result c.if-numbers-gt-MOST_LITERALS.false c.accept.ensures.accepts)
