use Rattle.std.proofs.Common.{◌≡◌, ◌+◌, true, length, Ok, sym, ap, ◌∙◌, subst, arith, refl}
use Rattle.text.specs.Reading.{clauses_of}
use Rattle.text.specs.Unread.{unread}
use Rattle.text.proofs.Counts.{few_clauses}
use Rattle.histories.specs.Calls.{take_up}
use Rattle.histories.specs.Readings.{Proper}
use Rattle.session.specs.Sessions.{state, places, Loads}
use Rattle.histories.proofs.Histories.{continues}
use Rattle.session.proofs.Calls.{loads_do}
use Rattle.session.proofs.Pushing.{same_keeps, then_keeps}
use Rattle.histories.proofs.Texts.{reading_proper}
use Rattle.session.proofs.session.Session.load.Goals as goal

pub clauses-init : goal.clauses-init
clauses-init c =
    let s = c.args.self.now in
    let e = c.new-reader.ensures.unread in
    let some = c.if-self-eq0.false in
    let most = few_clauses s.n c.args.text.now in
    record {
      on = ap (take_up (places s) 0 (state s)) (sym e);
      proper = subst (Proper s.n) (sym e) (reading_proper s.n c.args.text.now);
      few = omega (arith, ap (λ r. length (clauses_of r)) e);
      opened = omega arith;
      kept = same_keeps s;
      lent = refl;
    }

pub clauses-preserved : goal.clauses-preserved
clauses-preserved c =
    let was = c.clauses.self in
    let is = c.load_next.new.self in
    let left = unread c.load_next.new.reader in
    let inv = c.clauses.invariant in
    let result : c.load_next.result ≡ Ok true = c.in-Ok-true.is ∙ ap Ok c.in-Ok-true.field-0-test in
    let went = subst (λ r. Loads (places was) (state was) (unread c.clauses.reader) r (state is) left) result c.load_next.ensures.loads in
    let given = went.0.2 in
    let proper = subst (Proper was.n) given inv.proper in
    let n_same = c.load_next.ensures.same in
    let opened_now = inv.opened in
    record {
      on = inv.on ∙ went.1 c.clauses.taken ∙ ap (λ p. take_up p (c.clauses.taken + 1) (state is) left) (sym c.load_next.ensures.keeps.count);
      proper = subst (λ n. Proper n left) (sym n_same) proper.1;
      few = omega (arith, inv.few, ap (λ r. length (clauses_of r)) given);
      opened = omega arith;
      kept = then_keeps c.args.self.now was is inv.kept c.load_next.ensures.keeps;
      lent = c.load_next.ensures.lent ∙ inv.lent;
    }

pub returns-in-Ok-false-clause-keeps : goal.returns-in-Ok-false-clause-keeps
returns-in-Ok-false-clause-keeps c = then_keeps c.args.self.now c.clauses.self c.load_next.new.self c.clauses.invariant.kept c.load_next.ensures.keeps

pub returns-in-Err-clause-keeps : goal.returns-in-Err-clause-keeps
returns-in-Err-clause-keeps c = then_keeps c.args.self.now c.clauses.self c.load_next.new.self c.clauses.invariant.kept c.load_next.ensures.keeps

pub returns-in-Err-clause-guaranteed : goal.returns-in-Err-clause-guaranteed
returns-in-Err-clause-guaranteed c =
    let s = c.args.self.now in
    let inv = c.clauses.invariant in
    continues _ _ _ _ _ (loads_do (places s) (state s) (state c.load_next.new.self) c.if-self-eq0.false c.args.text.now _ (inv.on ∙ c.in-Err.ensures.loads c.clauses.taken))

pub returns-in-Ok-false-clause-lent : goal.returns-in-Ok-false-clause-lent
returns-in-Ok-false-clause-lent c = c.load_next.ensures.lent ∙ c.clauses.invariant.lent

pub returns-in-Err-clause-lent : goal.returns-in-Err-clause-lent
returns-in-Err-clause-lent c = c.load_next.ensures.lent ∙ c.clauses.invariant.lent
