use Rattle.std.proofs.Common.{◌≡◌, true, ◌+◌, ◌++◌}
use Rattle.std.specs.List.{flat_map, list_all}
use Rattle.clauses.specs.Values.{truths}
use Rattle.clauses.specs.Clauses.{holds}
use Rattle.clauses.specs.Listing.{untold}
use Rattle.steps.specs.Writing.{learnt}
use Rattle.weighing.specs.Books.{standing}
use Rattle.search.proofs.Left.{left, at}
use Rattle.search.proofs.Learnt.{by_pair, by_literal, by_line}
use Rattle.search.proofs.learning.learn.Given as goal

-- all candidates are those that are left: of the lines from g on
abbrev pub invariant-loop-g : goal.invariant-loop-g
invariant-loop-g l =
    let cs = standing l.book in
    let a = truths l.book.n l.assignment.word in
    learnt cs a ≡ flat_map (by_line cs a) (left cs l.g)

-- of the literals of this line that are still to be told, and the lines after it
abbrev pub invariant-loop-literal : goal.invariant-loop-literal
invariant-loop-literal l =
    let cs = standing l.book in
    let a = truths l.book.n l.assignment.word in
    (goal.iterator-loop-literal).can_next l.literal-iterator
    × (list_all (λ k. holds k (at cs l.g).1) (untold l.literal-iterator) ≡ true)
    × (learnt cs a ≡ flat_map (by_literal cs a (at cs l.g)) (untold l.literal-iterator) ++ flat_map (by_line cs a) (left cs (l.g + 1)))

-- of this literal with the lines from h on, the literals still to be told, and
-- the lines after this one
abbrev pub invariant-loop-h : goal.invariant-loop-h
invariant-loop-h l =
    let cs = standing l.book in
    let a = truths l.book.n l.assignment.word in
    learnt cs a
    ≡ flat_map (by_pair cs a (at cs l.g) l.literal) (left cs l.h) ++ (flat_map (by_literal cs a (at cs l.g)) (untold l.literal-iterator) ++ flat_map (by_line cs a) (left cs (l.g + 1)))
