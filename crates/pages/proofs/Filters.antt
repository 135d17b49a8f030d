-- Where what a filter keeps comes from. Assumes nothing.
use Rattle.std.proofs.Common.{◌≡◌, ℕ, zero, suc, ◌<◌, Bool, true, false, cond, List, [], ◌∷◌, length, get_or, take, refl, ap, ◌∙◌, arith}
use Rattle.std.specs.List.{filter}
use Rattle.std.proofs.lemmas.Bool.{false≢true}

module _ {X : Type 0} (p : X → Bool) where
  -- an element that passes, and how many before it do
  step : (b : Bool) (x y d : X) (fs ks : List X) → (length ks < length fs) × (get_or fs (length ks) d ≡ y)
      → (length (cond b (x ∷ ks) ks) < length (cond b (x ∷ fs) fs)) × (get_or (cond b (x ∷ fs) fs) (length (cond b (x ∷ ks) ks)) d ≡ y)
  step true x y d fs ks h = (let l = h.0 in omega arith, h.1)
  step false x y d fs ks h = h

  begin : (b : Bool) (x d : X) (fs : List X) → b ≡ true → (0 < length (cond b (x ∷ fs) fs)) × (get_or (cond b (x ∷ fs) fs) 0 d ≡ x)
  begin true x d fs e = (omega arith, refl)
  begin false x d fs e = absurd (false≢true e)

  pub filter_at : (xs : List X) (i : ℕ) (d : X) → i < length xs → p (get_or xs i d) ≡ true
      → (length (filter p (take i xs)) < length (filter p xs)) × (get_or (filter p xs) (length (filter p (take i xs))) d ≡ get_or xs i d)
  filter_at [] i d h e = absurd (omega arith)
  filter_at (x ∷ xs) zero d h e = begin (p x) x d (filter p xs) e
  filter_at (x ∷ xs) (suc i) d h e = step (p x) x (get_or xs i d) d (filter p xs) (filter p (take i xs)) (filter_at xs i d (omega arith) e)

  abbrev Source : List X → ℕ → Type 0
  Source xs m = (i : ℕ) × (i < length xs) × (length (filter p (take i xs)) ≡ m) × ((d : X) → p (get_or xs i d) ≡ true)

  source_in : (b : Bool) (x : X) (xs : List X) (m : ℕ) → p x ≡ b → ((m : ℕ) → m < length (filter p xs) → Source xs m) → m < length (cond b (x ∷ filter p xs) (filter p xs)) → Source (x ∷ xs) m
  source_in true x xs zero e go h = (0, omega arith, refl, λ d. e)
  source_in true x xs (suc m) e go h =
      let s = go m (omega arith) in
      (suc s.0, let l = s.1 in omega arith, ap (λ b. length (cond b (x ∷ filter p (take s.0 xs)) (filter p (take s.0 xs)))) e ∙ ap suc s.2, s.3)
  source_in false x xs m e go h =
      let s = go m h in
      (suc s.0, let l = s.1 in omega arith, ap (λ b. length (cond b (x ∷ filter p (take s.0 xs)) (filter p (take s.0 xs)))) e ∙ s.2, s.3)

  -- each kept element stands somewhere
  pub filter_from : (xs : List X) (m : ℕ) → m < length (filter p xs) → Source xs m
  filter_from [] m h = absurd (omega arith)
  filter_from (x ∷ xs) m h = source_in (p x) x xs m refl (λ k l. filter_from xs k l) h
