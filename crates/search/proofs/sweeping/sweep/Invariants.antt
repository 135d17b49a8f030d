use Rattle.std.proofs.Common.{◌≡◌, ◌+◌, ◌++◌}
use Rattle.std.specs.List.{flat_map}
use Rattle.steps.specs.Writing.{younger, resolved_from, swept}
use Rattle.weighing.specs.Books.{standing}
use Rattle.search.proofs.Left.{left, at}
use Rattle.search.proofs.sweeping.sweep.Given as goal

-- all candidates are those that are left: of this line with the lines from j
-- on, and of the lines after it
abbrev pub invariant-loop-j : goal.invariant-loop-j
invariant-loop-j l =
    let cs = standing l.book in
    swept cs ≡ flat_map (resolved_from cs (at cs l.i)) (left cs l.j) ++ flat_map (λ i. flat_map (resolved_from cs i) (younger cs i.0)) (left cs (l.i + 1))

abbrev pub invariant-loop-i : goal.invariant-loop-i
invariant-loop-i l =
    let cs = standing l.book in
    swept cs ≡ flat_map (λ i. flat_map (resolved_from cs i) (younger cs i.0)) (left cs l.i)
