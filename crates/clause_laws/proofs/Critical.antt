-- A clause of two literals of which neither is false is critical on nothing.
-- Assumes nothing.
use Rattle.std.proofs.Common.{◌≡◌, false, true, ◌||◌, [], ◌∷◌, ℤ, sym, ◌∙◌, subst}
use mathlib.Core.Bool.{or-false}
use Rattle.std.specs.List.{list_all}
use Rattle.std.proofs.lemmas.Bool.{false≢true, and_parts, false_from_ne_true}
use Rattle.clauses.specs.Values.{Values, is_false}
use Rattle.clauses.specs.Literals.{same_literal, value_of}
use Rattle.clauses.specs.Clauses.{Signs, literals, critical}
use Rattle.clauses.proofs.Literals.{literal_eq, literal_self, critical-literals}

module _ (m : Values) (l : ℤ) where
  -- a literal that isn't false is the one that all others are false beside
  only : (k : ℤ) → is_false (value_of m k) ≡ false
      → (same_literal k l || is_false (value_of m k)) ≡ true → k ≡ l
  only k e h =
      literal_eq k l
      (sym (or-false (same_literal k l)) ∙ subst (λ b. (same_literal k l || b) ≡ true) e h)

  pub critical_on_nothing : (c : Signs) (i k : ℤ) → literals c ≡ i ∷ k ∷ []
      → is_false (value_of m i) ≡ false → is_false (value_of m k) ≡ false
      → same_literal i k ≡ false → critical m l c ≡ false
  critical_on_nothing c i k two i_stands k_stands differ =
      false_from_ne_true (critical m l c) (λ h.
      let all = (and_parts _ _ (sym (critical-literals m l c) ∙ h)).1 in
      let each = subst
      (λ xs. list_all (λ j. same_literal j l || is_false (value_of m j)) xs ≡ true) two all in
      let at_i = and_parts _ _ each in
      let at_k = and_parts _ _ at_i.1 in
      let alike = only i i_stands at_i.0 ∙ sym (only k k_stands at_k.0) in
      false≢true
      (sym differ ∙ subst (λ j. same_literal i j ≡ true) alike (literal_self i)))
