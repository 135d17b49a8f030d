use Rattle.std.proofs.Common.{sym, ap, ◌∙◌}
use Rattle.guides.specs.Ranks.{longest_first}
use Rattle.histories.specs.Calls.{opened, added, ran}
use Rattle.session_tests.proofs.Chained.{before, reached, meets}
use Rattle.session_tests.proofs.calling.schedule.Goals as goal

pub returns-in-Met : goal.returns-in-Met
returns-in-Met c =
    let xs = c.args.clause.now in
    let by_then = reached 3 0 1000 xs c.in_ok-add.field-0 longest_first _ _ _ _ _ _ _ _ c.new-session.ensures.unopened
    (sym (c.add.ensures.keeps.count ∙ c.open.ensures.keeps.count)) (sym c.add.ensures.keeps.count) (ap opened c.in_ok-open.was) (ap added c.in_ok-add.was)
    c.open.ensures.guaranteed.does_so c.add.ensures.guaranteed.does_so in
    record {
      meets = meets 3 0 1000 xs c.in_ok-add.field-0 longest_first _ _ c.in_ok-ran.ran c.assignment.result _ (ap ran c.in_ok-ran.was) c.in-Met.is
          (c.run.ensures.guaranteed.guaranteed (before 3 0 1000 xs c.in_ok-add.field-0 longest_first) by_then) c.assignment.ensures.value;
    }
