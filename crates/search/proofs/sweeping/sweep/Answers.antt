use Rattle.std.proofs.Common.{arith, refl, sym, ap, ◌∙◌, ◌+◌, ◌++◌}
use Rattle.std.specs.List.{flat_map}
use Rattle.lines.proofs.Stated.{length-clauses}
use Rattle.lines.specs.Lines.{candidate_of}
use Rattle.steps.specs.Writing.{swept, younger, resolved_from}
use Rattle.steps.proofs.Written.{swept_keeps}
use Rattle.steps.proofs.Closing.{swept_closed}
use Rattle.weighing.specs.Books.{standing}
use Rattle.search.proofs.Left.{left, at, candidates_more, candidates_none, younger-left, first_found}
use Rattle.search.proofs.sweeping.sweep.Goals as goal

pub loop-i-init : goal.loop-i-init
unfolding swept
loop-i-init c = refl

pub loop-j-init : goal.loop-j-init
loop-j-init c =
    let cs = standing c.args.book.now in
    c.loop-i.invariant
    ∙ candidates_more (λ i. flat_map (resolved_from cs i) (younger cs i.0)) cs c.loop-i.i (omega (arith, length-clauses c.args.book.now.lines.now))
    ∙ ap (λ js. flat_map (resolved_from cs (at cs c.loop-i.i)) js ++ flat_map (λ i. flat_map (resolved_from cs i) (younger cs i.0)) (left cs (c.loop-i.i + 1))) (younger-left cs c.loop-i.i)

pub returns-in-Some-clause-keeps : goal.returns-in-Some-clause-keeps
returns-in-Some-clause-keeps c =
    let cs = standing c.args.book.now in
    λ k. swept_keeps c.args.book.now.n c.args.book.now.lines.now c.in-Some.line k
    (first_found (resolved_from cs (at cs c.loop-i.i)) cs c.loop-j.j (swept cs) _ (candidate_of c.in-Some.line) (omega (arith, length-clauses c.args.book.now.lines.now)) c.loop-j.invariant (sym c.in-Some.ensures.value))

pub returns-clause-closed : goal.returns-clause-closed
returns-clause-closed c =
    let cs = standing c.args.book.now in
    λ k. swept_closed cs k (c.loop-i.invariant ∙ candidates_none (λ i. flat_map (resolved_from cs i) (younger cs i.0)) cs c.loop-i.i (omega (arith, length-clauses c.args.book.now.lines.now)))
