use Rattle.std.proofs.Common.{rules, ◌≡◌, option_map, sym, ◌∙◌}
use Rattle.words.specs.Bits.{first}
use Rattle.clauses.specs.Values.{truths}
use Rattle.lines.specs.Lines.{candidate_of}
use Rattle.steps.specs.Writing.{barred}
use Rattle.steps.proofs.Written.{barred_broken}
use Rattle.weighing.specs.Books.{standing}
use Rattle.search.specs.Laws.{KeepsTheFacts, IsBroken}
use Rattle.search.proofs.New.{if_found}
use Rattle.search.proofs.Bars.{no_bar, bar_line, bar_keeps}
use Rattle.search.proofs.barring.bar.Goals as goal

pub returns-in_err-from-clause-value : goal.returns-in_err-from-clause-value
returns-in_err-from-clause-value c =
    rw c.from_residual.ensures (sym (no_bar c.args.book.now c.args.assignment.now.word (sym c.oldest_broken.ensures.value ∙ c.in_err-from.was)))

-- the line that is answered is the first bar
barred_is : (c : goal.After-if_new) → option_map candidate_of c.if_new.result ≡ first (barred (standing c.args.book.now) (truths c.args.book.now.n c.args.assignment.now.word))
barred_is c =
    c.if_new.ensures.value
    ∙ bar_line c.args.book.now c.args.assignment.now.word c.in_ok-from.from c.bar-clause.result _ (sym c.oldest_broken.ensures.value ∙ c.in_ok-from.was) c.bar-clause.ensures.value (search rules)

pub returns-clause-value : goal.returns-clause-value
returns-clause-value c = barred_is c

pub returns-clause-keeps : goal.returns-clause-keeps
returns-clause-keeps c =
    if_found (KeepsTheFacts c.args.book.now.n c.args.book.now.lines.now) c.if_new.result (first (barred (standing c.args.book.now) (truths c.args.book.now.n c.args.assignment.now.word))) (barred_is c)
    (bar_keeps c.args.book.now c.args.assignment.now.word)

pub returns-clause-broken : goal.returns-clause-broken
returns-clause-broken c =
    let a = truths c.args.book.now.n c.args.assignment.now.word in
    if_found (IsBroken a) c.if_new.result (first (barred (standing c.args.book.now) a)) (barred_is c)
    (λ l e. barred_broken (standing c.args.book.now) a (candidate_of l) e)
