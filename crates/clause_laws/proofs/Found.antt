-- The elements at which a test of a list passes, or fails. Assumes nothing.
use Rattle.std.proofs.Common.{◌≡◌, Bool, true, false, not, List, [], ◌∷◌, refl}
use Rattle.std.proofs.lemmas.Bool.{false≢true, and_parts, and_from, or_parts, not_from_false}
use Rattle.std.specs.List.{list_any, list_all}

-- It is one of the list, said so: it passes each test that all of them pass.
abbrev pub Of : {A : Type 0} → List A → A → Type 0
Of {A} xs x = (g : A → Bool) → list_all g xs ≡ true → g x ≡ true

-- one of the list that passes the test
abbrev pub Found : {A : Type 0} → (A → Bool) → List A → Type 0
Found {A} f xs = (x : A) × (f x ≡ true) × Of xs x

pub found : {A : Type 0} (f : A → Bool) (xs : List A) → list_any f xs ≡ true → Found f xs
found f [] h = absurd (false≢true h)
found f (x ∷ xs) h = go (λ e. found f xs e) (f x) refl
  where
    go : (list_any f xs ≡ true → Found f xs) → (t : Bool) → f x ≡ t → Found f (x ∷ xs)
    go rest true e = (x, e, λ g k. (and_parts (g x) (list_all g xs) k).0)
    go rest false e = let y = rest (rw e at h) in (y.0, y.1, λ g k. y.2 g (and_parts (g x) (list_all g xs) k).1)

pub none : {A : Type 0} (f : A → Bool) (xs : List A) → list_any f xs ≡ false → list_all (λ x. not (f x)) xs ≡ true
none f [] h = refl
none f (x ∷ xs) h =
    let p = or_parts (f x) (list_any f xs) h in
    and_from (not (f x)) (list_all (λ y. not (f y)) xs) (not_from_false (f x) p.0) (none f xs p.1)
