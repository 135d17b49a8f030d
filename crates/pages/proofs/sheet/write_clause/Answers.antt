use Rattle.std.proofs.Common.{rules, [], ◌∷◌, ◌++◌, SFits, w32, to_z-of_z, ap, sym, subst, ◌∙◌}
use Rattle.std.proofs.lemmas.List.{append-nil, append_assoc}
use Rattle.std.specs.List.{flat_map}
use Rattle.clauses.specs.Listing.{untold}
use Rattle.writing.specs.Pages.{Tells}
use Rattle.writing.proofs.Joining.{tells_more}
use Rattle.pages.specs.Says.{literal_items}
use Rattle.pages.proofs.Rows.{literal_told, signed_told}
use Rattle.pages.proofs.sheet.write_clause.Goals as goal

pub loop-literal-preserved : goal.loop-literal-preserved
loop-literal-preserved c =
    let inv = c.loop-literal.invariant.1 in
    let x = c.in-Some.literal in
    let fits : SFits w32 x = search rules in
    let now = signed_told _ x _ _ (to_z-of_z {w = w32} {z = x} fits) c.signed.ensures.tells in (
      tt,
      (
        inv.0 ++ (x ∷ []),
        append_assoc inv.0 (x ∷ []) (untold c.next.new.self) ∙ ap (λ xs. inv.0 ++ xs) (sym c.in-Some.ensures.steps) ∙ inv.1,
        literal_told inv.0 x _ _ _ inv.2 (tells_more _ _ _ _ _ now c.space.ensures.tells),
      ),
    )

pub returns : goal.returns
returns c =
    let inv = c.loop-literal.invariant.1 in
    let all = sym (append-nil inv.0) ∙ ap (λ xs. inv.0 ++ xs) (sym c.in-None.ensures.steps.0) ∙ inv.1 in
    record { tells = tells_more _ _ _ _ _ (subst (λ xs. Tells (flat_map literal_items xs) c.args.page.now c.loop-literal.page) all inv.2) c.write_count.ensures.tells }
