-- A derivation of the empty clause refutes what it begins with. Assumes
-- nothing.
use Rattle.std.proofs.Common.{◌≡◌, ℕ, ◌≤◌, Bool, true, List, [], ◌∷◌, ℤ, refl, sym, ◌∙◌}
use Rattle.std.specs.List.{list_all}
use Rattle.std.proofs.lemmas.Bool.{true≢false, and_parts, and_from}
use Rattle.words.specs.Bits.{width}
use Rattle.clauses.specs.Values.{assigned}
use Rattle.clauses.specs.Literals.{names, met}
use Rattle.clauses.specs.Sets.{set_of}
use Rattle.clauses.specs.Clauses.{Signs, meets, same}
use Rattle.lines.specs.Lines.{givens_in}
use Rattle.lines.proofs.Resolution.{same_meets}
use Rattle.clause_laws.proofs.Books.{empty_refutes}
use Rattle.clause_laws.proofs.Facts.{four_facts}
use Rattle.clause_laws.proofs.Found.{found}
use Rattle.histories.specs.Guarantees.{meets_all, is_one_of}
use Rattle.histories.specs.Laws.{ADerivationRefutes}
use Rattle.histories.proofs.Given.{set_meets}

module _ (n : ℕ) (xss : List (List ℤ)) (few : n ≤ width) (named : list_all (list_all (names n)) xss ≡ true) (a : List Bool) (all : meets_all a xss ≡ true) where
  -- what is one of the clauses is met
  one_met : (c : Signs) → is_one_of xss c ≡ true → meets (assigned a) c ≡ true
  one_met c h =
      let d = found (λ xs. same c (set_of xs)) xss h in
      same_meets c (set_of d.0) (assigned a) d.1 ∙ set_meets n d.0 (d.2 (list_all (names n)) named) few (assigned a) ∙ d.2 (met (assigned a)) all

  ones_met : (cs : List Signs) → list_all (is_one_of xss) cs ≡ true → list_all (meets (assigned a)) cs ≡ true
  ones_met [] h = refl
  ones_met (c ∷ cs) h =
      let p = and_parts (is_one_of xss c) (list_all (is_one_of xss) cs) h in
      and_from (meets (assigned a) c) (list_all (meets (assigned a)) cs) (one_met c p.0) (ones_met cs p.1)

pub derivation_refutes : ADerivationRefutes
derivation_refutes n xss s h a all =
    true≢false (sym (ones_met n xss h.few h.named a all (givens_in s.lines) h.begins) ∙ empty_refutes n s.lines (assigned a) ((four_facts n s.lines).1 h.follows) h.ends)
