use Rattle.std.proofs.Common.{◌-◌, ◌<◌, ℕ, length, get_or, sym, ap, subst, ◌∙◌}
use Rattle.lines.specs.declared.line.Line.{Line}
use Rattle.lines.specs.Lines.{given}
use Rattle.pages.proofs.Counting.{given_some}
use Rattle.pages.proofs.numbering.Numbering.is_given_at.Goals as goal

pub returns-in-Some : goal.returns-in-Some
returns-in-Some c =
    let ls = c.args.self.now.lines.now in
    let d = c.in-Some.line.now in
    let found = c.in-Some.ensures.lookup.3 in
    let at = c.saturating_sub.ensures in
    let h : c.args.k - 1 < length ls = subst (λ (i : ℕ). i < length ls) at found.0 in
    record { value = c.is_given.ensures.value ∙ ap (λ (x : Line). given x.origin) (found.1 d ∙ ap (λ i. get_or ls i d) at) ∙ sym (given_some ls c.args.k d h) }
