-- Where a literal stands among a customer's numbers. Assumes nothing.
use Rattle.std.proofs.Common.{◌≡◌, ℕ, suc, Bool, true, false, List, [], ◌∷◌, length, get_or, ℤ, pos, Some, None, Option, int_eq, ap, ◌≤◌, sym, ◌∙◌, refl, subst, arith}
use Rattle.std.specs.List.{list_all}
use Rattle.std.specs.Option.{is_some}
use Rattle.std.proofs.lemmas.Bool.{and_parts, true≢false}
use Rattle.std.proofs.lemmas.Bool.Decides.{Decides-int_eq, same_from_decides, nat_tests}
use Rattle.std.proofs.lemmas.List.Folds.{list_any_at}
use Rattle.table.specs.Search.{NoneOf, FirstEqual}
use Rattle.words.specs.Bits.{width}
use Rattle.clauses.specs.Literals.{names, same_literal, among}
use Rattle.clauses.proofs.Literals.{literal_eq, literal_self}

-- literals are the same where they are the same number
same_number : (l x : ℤ) → same_literal l x ≡ int_eq x l
same_number l x =
    same_from_decides (same_literal l x) (int_eq x l)
    (λ h. sym (literal_eq l x h), λ e. subst (λ y. same_literal l y ≡ true) (sym e) (literal_self l))
    (Decides-int_eq x l)

-- a number of the list or none is the literal
module _ (l : ℤ) where
  abbrev IsIt : ℤ → Bool → Type 0
  IsIt x b = b ≡ int_eq x l

  none_among : (xs : List ℤ) → NoneOf IsIt xs (length xs) → among l xs ≡ false
  none_among [] h = refl
  none_among (x ∷ xs) h =
      rw (same_number l x, sym (h 0 (omega arith) x)) (none_among xs (λ k b. h (suc k) (omega arith)))

  pub found_among : (xs : List ℤ) (r : Option ℕ) → FirstEqual IsIt xs r → is_some r ≡ among l xs
  found_among xs None h = sym (none_among xs h)
  found_among xs (Some i) h =
      sym (list_any_at (same_literal l) xs i (pos 0) h.0 (same_number l (get_or xs i (pos 0)) ∙ sym (h.1 (pos 0))))

not_true : (b : Bool) → (b ≡ true → ⊥) → b ≡ false
not_true true h = absurd (h refl)
not_true false h = refl

-- of no variable, it is none of a list of literals
pub unnamed_among : (l : ℤ) (xs : List ℤ) → names width l ≡ false → list_all (names width) xs ≡ true
    → among l xs ≡ false
unnamed_among l [] unnamed named = refl
unnamed_among l (x ∷ xs) unnamed named =
    let both = and_parts (names width x) (list_all (names width) xs) named in
    let other : same_literal l x ≡ false =
    not_true _ (λ e. true≢false (sym both.0 ∙ ap (names width) (sym (literal_eq l x e)) ∙ unnamed)) in
    rw other (unnamed_among l xs unnamed both.1)

-- literals of fewer variables are literals of all
pub all_named : (n : ℕ) (xs : List ℤ) → n ≤ width → list_all (names n) xs ≡ true
    → list_all (names width) xs ≡ true
all_named n [] h named = refl
all_named n (x ∷ xs) h named =
    let both = and_parts (names n x) (list_all (names n) xs) named in
    let here : names width x ≡ true = grind (arith, nat_tests) in
    rw here (all_named n xs h both.1)
