use Rattle.std.specs.List.{flat_map}
use Rattle.clauses.specs.Values.{truths}
use Rattle.writing.specs.Pages.{Tells}
use Rattle.pages.specs.Says.{literal_items}
use Rattle.pages.specs.Reports.{true_literals}
use Rattle.pages.proofs.report.writes.write_literals.Given as goal

-- the literals of the first k variables are told
abbrev pub invariant-loop-k : goal.invariant-loop-k
invariant-loop-k l = Tells (flat_map literal_items (true_literals 1 (truths l.k l.word))) l.initial.page l.page
