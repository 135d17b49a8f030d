use Rattle.std.proofs.Common.{◌≤◌, length, Ok, sym, ap, ◌∙◌, subst}
use Rattle.limits.specs.Limits.{most_bytes}
use Rattle.text.specs.Unread.{brings, Took}
use Rattle.tokens.specs.Scanning.{coming, piece_at}
use Rattle.text.proofs.Unread.{unread_clause}
use Rattle.text.proofs.reader.Reader.next_clause.Goals as goal

pub returns-in-Some-ended-clause-gave : goal.returns-in-Some-ended-clause-gave
returns-in-Some-ended-clause-gave c =
    let r = c.loop-piece.self in
    let is = c.take.new.self in
    let inv = c.loop-piece.invariant in
    let x = piece_at c.in-Some.piece in
    let told = c.in-Some.ensures.steps in
    let short : length r.tokens.text.now ≤ most_bytes = subst (λ t. length t.text.now ≤ most_bytes) inv.0 inv.2 in
    let took = subst (λ o. Took (brings r x) (Ok o) r is) c.in-Some-ended.is c.in_ok-ended.ensures.took in
    let text = told.0 ∙ ap (λ t. t.text.now) inv.0 in
    sym c.begin.ensures.same ∙ unread_clause _ r is c.next.new.self x c.in-Some-ended.end inv.1 short (ap coming (sym inv.0) ∙ told.1) text c.in_ok-ended.ensures.alike took
