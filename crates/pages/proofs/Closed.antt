-- Numbers and 0 in one line, and what comes after it. Assumes nothing.
use Rattle.std.proofs.Common.{◌≡◌, ◌^◌, ◌<◌, Bool, true, false, List, [], ◌∷◌, ◌++◌, get_or, drop, ℤ, pos, nat_abs, refl, sym, ap, ap₂, ◌∙◌, arith}
use Rattle.std.specs.List.{AllByRecursion}
use Rattle.std.proofs.lemmas.Bool.{false≢true}
use Rattle.std.proofs.lemmas.List.{append-nil}
use Rattle.writing.specs.Items.{number, space, bytes}
use Rattle.writing.specs.Told.{numbers_items, Small}
use Rattle.writing.proofs.Apart.{numbers_told}
use Rattle.pages.specs.Says.{clause_items}

abbrev pub closed : List ℤ → List (ℤ × Bool) → List (ℤ × Bool)
closed [] r = (pos 0, true) ∷ r
closed (x ∷ xs) r = (x, false) ∷ closed xs r

abbrev pub Short : List ℤ → Type 0
Short xs = AllByRecursion (λ x. nat_abs x < 2 ^ 63) xs

pub closed_items : (xs : List ℤ) (r : List (ℤ × Bool)) → clause_items xs ++ numbers_items r ≡ numbers_items (closed xs r)
closed_items [] r = refl
closed_items (x ∷ xs) r = ap (λ is. number x ∷ space ∷ is) (closed_items xs r)

pub closed_small : (xs : List ℤ) (r : List (ℤ × Bool)) → Short xs → Small r → Small (closed xs r)
closed_small [] r h k = (omega arith, k)
closed_small (x ∷ xs) r h k = (h.0, closed_small xs r h.1 k)

abbrev first : List (ℤ × Bool) → ℤ × Bool
first r = get_or {A = ℤ × Bool} r 0 (pos 0, true)

pub closed_told : (xs ys : List ℤ) (r s : List (ℤ × Bool)) → closed xs r ≡ closed ys s → (xs ≡ ys) × (r ≡ s)
closed_told [] [] r s e = (refl, ap (drop 1) e)
closed_told [] (y ∷ ys) r s e = absurd (false≢true (sym (ap (λ r. (first r).1) e)))
closed_told (x ∷ xs) [] r s e = absurd (false≢true (ap (λ r. (first r).1) e))
closed_told (x ∷ xs) (y ∷ ys) r s e =
    let t = closed_told xs ys r s (ap (drop 1) e) in
    (ap₂ {C = List ℤ} (λ x xs. x ∷ xs) (ap (λ r. (first r).0) e) t.0, t.1)

-- alone on a page
pub page_told : (xs ys : List ℤ) → Short xs → Short ys → bytes (clause_items xs) ≡ bytes (clause_items ys) → xs ≡ ys
page_told xs ys h k e =
    (closed_told xs ys [] []
    (numbers_told (closed xs []) (closed ys []) (closed_small xs [] h tt) (closed_small ys [] k tt) (sym (same xs) ∙ e ∙ same ys))).0
  where
    same : (zs : List ℤ) → bytes (clause_items zs) ≡ bytes (numbers_items (closed zs []))
    same zs = ap bytes (sym (append-nil (clause_items zs)) ∙ closed_items zs [])
