use Rattle.std.proofs.Common.{◌≡◌, Some, [], sym, ap, ◌∙◌}
use Rattle.words.specs.Bits.{first}
use Rattle.clauses.specs.Values.{truths}
use Rattle.clauses.specs.Listing.{untold}
use Rattle.lines.specs.Lines.{candidate_of}
use Rattle.steps.specs.Writing.{learnt}
use Rattle.steps.proofs.Written.{learnt_broken}
use Rattle.weighing.specs.Books.{standing}
use Rattle.weighing.proofs.Standing.{reads-broken}
use Rattle.search.proofs.Left.{at}
use Rattle.search.proofs.Learnt.{learnt_is, passed, opened, uncritical, unresolved, found, begun, next_told, learn_keeps}
use Rattle.search.proofs.learning.learn.Goals as goal

pub loop-g-init : goal.loop-g-init
loop-g-init c = learnt_is (standing c.args.book.now) (truths c.args.book.now.n c.args.assignment.now.word)

pub loop-g-preserved-then-not-is_broken : goal.loop-g-preserved-then-not-is_broken
loop-g-preserved-then-not-is_broken c =
    passed c.args.book.now c.args.assignment.now.word _ [] c.loop-g.g _ c.clause-broken.result c.loop-g-test.true c.clause-broken.ensures.value c.if-not-is_broken.ensures.value c.loop-g.invariant

pub loop-literal-init : goal.loop-literal-init
loop-literal-init c =
    let ls = ap untold c.into_iter-literal-iterator.ensures.into_iter_gives ∙ c.literals-literal-items.ensures.untold in
    let o = opened c.args.book.now c.args.assignment.now.word _ [] c.loop-g.g _ c.clause-broken.result c.loop-g-test.true c.clause-broken.ensures.value _ ls c.if-not-is_broken.ensures.value c.loop-g.invariant in
    (tt, o.0, o.1)

pub loop-h-init : goal.loop-h-init
loop-h-init c =
    let t = next_told c.args.book.now c.args.assignment.now.word c.loop-g.g _ _ c.in-Some.literal c.loop-g-test.true c.in-Some.ensures.steps c.loop-literal.invariant.1 in
    begun c.args.book.now c.args.assignment.now.word _ _ (at (standing c.args.book.now) c.loop-g.g) _ _ c.in-Some.literal _ c.in-Some.ensures.steps t.literal c.loop-literal.invariant.2

pub loop-h-preserved-then-not-is_critical_against : goal.loop-h-preserved-then-not-is_critical_against
loop-h-preserved-then-not-is_critical_against c =
    uncritical c.args.book.now c.args.assignment.now.word _ _ c.loop-h.h _ c.clause.result c.loop-h-test.true c.clause.ensures.value (at (standing c.args.book.now) c.loop-g.g) _
    c.if-not-is_critical_against.ensures.value c.loop-h.invariant

pub loop-h-preserved : goal.loop-h-preserved
loop-h-preserved c =
    let t = next_told c.args.book.now c.args.assignment.now.word c.loop-g.g _ _ c.in-Some.literal c.loop-g-test.true c.in-Some.ensures.steps c.loop-literal.invariant.1 in
    let b = reads-broken c.args.book.now c.args.assignment.now.word c.loop-g.g _ c.clause-broken.result c.loop-g-test.true c.clause-broken.ensures.value in
    unresolved c.args.book.now c.args.assignment.now.word _ _ c.loop-h.h _ c.clause.result c.loop-h-test.true c.clause.ensures.value (at (standing c.args.book.now) c.loop-g.g) _
    (sym (c.if-not-is_broken.ensures.value ∙ b)) t.held c.if-not-is_critical_against.ensures.value c.in_default.ensures.value c.loop-h.invariant

-- the line that is found is the first of all
first_learnt : (c : goal.In-Some-new_resolvent)
    → first (learnt (standing c.args.book.now) (truths c.args.book.now.n c.args.assignment.now.word)) ≡ Some (candidate_of c.in-Some-new_resolvent.line)
first_learnt c =
    let t = next_told c.args.book.now c.args.assignment.now.word c.loop-g.g _ _ c.in-Some.literal c.loop-g-test.true c.in-Some.ensures.steps c.loop-literal.invariant.1 in
    let b = reads-broken c.args.book.now c.args.assignment.now.word c.loop-g.g _ c.clause-broken.result c.loop-g-test.true c.clause-broken.ensures.value in
    found c.args.book.now c.args.assignment.now.word _ _ c.loop-h.h _ c.clause.result c.loop-h-test.true c.clause.ensures.value (at (standing c.args.book.now) c.loop-g.g) _ _
    (sym (c.if-not-is_broken.ensures.value ∙ b)) t.held c.if-not-is_critical_against.ensures.value c.in-Some-new_resolvent.ensures.value c.loop-h.invariant

pub returns-in-Some-new_resolvent-clause-value : goal.returns-in-Some-new_resolvent-clause-value
returns-in-Some-new_resolvent-clause-value c = sym (first_learnt c)

pub returns-in-Some-new_resolvent-clause-keeps : goal.returns-in-Some-new_resolvent-clause-keeps
returns-in-Some-new_resolvent-clause-keeps c = learn_keeps c.args.book.now c.args.assignment.now.word c.in-Some-new_resolvent.line (first_learnt c)

pub returns-in-Some-new_resolvent-clause-broken : goal.returns-in-Some-new_resolvent-clause-broken
returns-in-Some-new_resolvent-clause-broken c =
    learnt_broken (standing c.args.book.now) (truths c.args.book.now.n c.args.assignment.now.word) (candidate_of c.in-Some-new_resolvent.line) (first_learnt c)
