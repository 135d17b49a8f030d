use Rattle.std.proofs.Common.{◌≡◌}
use Rattle.clauses.specs.Values.{truths}
use Rattle.weighing.specs.Books.{standing}
use Rattle.weighing_c.specs.Walks.{walked}
use Rattle.weighing_c.proofs.walking.walk.Given as goal

-- the steps taken so far
abbrev pub invariant-loop-taken : goal.invariant-loop-taken
invariant-loop-taken g l =
    truths l.fn.book.n l.assignment.word ≡ walked (g.G.Guide.rank l.fn.guide) (standing l.fn.book) l._taken (truths l.fn.book.n l.fn.assignment.word)
