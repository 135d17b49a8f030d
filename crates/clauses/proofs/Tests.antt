-- Tests of the elements of a list, and when two tests agree. Assumes nothing.
use Rattle.std.proofs.Common.{◌≡◌, Bool, true, false, not, ◌&&◌, ◌||◌, List, [], ◌∷◌, map, get_or, sym, refl, ap}
use mathlib.Core.Bool.{and-true, and_assoc, or-false, or_assoc}
use Rattle.std.proofs.Math.Path.{fun_ext}
use Rattle.std.proofs.lemmas.List.Folds.{list_any_none}
use Rattle.std.proofs.lemmas.Bool.Decides.{same_from_decides}
use Rattle.words.specs.Bits.{keep}
use Rattle.std.specs.List.{list_any, list_all}

pub iff : (x y : Bool) → (x ≡ true → y ≡ true) → (y ≡ true → x ≡ true) → x ≡ y
iff x y f g = same_from_decides x y (f, g) (λ e. e, λ e. e)

pub any_ext : {A : Type 0} (f g : A → Bool) → ((x : A) → f x ≡ g x) → (xs : List A) → list_any f xs ≡ list_any g xs
any_ext f g e xs = ap (λ t. list_any t xs) (fun_ext e)

pub all_ext : {A : Type 0} (f g : A → Bool) → ((x : A) → f x ≡ g x) → (xs : List A) → list_all f xs ≡ list_all g xs
all_ext f g e xs = ap (λ t. list_all t xs) (fun_ext e)

pub none_any : {A : Type 0} (f : A → Bool) → ((x : A) → f x ≡ false) → (xs : List A) → list_any f xs ≡ false
none_any f e xs = list_any_none f xs (λ k d l. e (get_or xs k d))

pub any-map : {A B : Type 0} (t : B → Bool) (f : A → B) (xs : List A) → list_any t (map f xs) ≡ list_any (λ x. t (f x)) xs
any-map t f [] = refl
any-map t f (x ∷ xs) = ap (λ b. t (f x) || b) (any-map t f xs)

-- two elements kept in front of the others
pub any-keep : {A : Type 0} (t : A → Bool) (p q : Bool) (x y : A) (xs : List A)
    → list_any t (keep p x (keep q y xs)) ≡ (((p && t x) || (q && t y)) || list_any t xs)
any-keep t true true x y xs = sym (or_assoc (t x) (t y) (list_any t xs))
any-keep t true false x y xs = ap (λ b. b || list_any t xs) (sym (or-false (t x)))
any-keep t false true x y xs = refl
any-keep t false false x y xs = refl

pub all_keep : {A : Type 0} (t : A → Bool) (p q : Bool) (x y : A) (xs : List A)
    → list_all t (keep p x (keep q y xs)) ≡ (((not p || t x) && (not q || t y)) && list_all t xs)
all_keep t true true x y xs = sym (and_assoc (t x) (t y) (list_all t xs))
all_keep t true false x y xs = ap (λ b. b && list_all t xs) (sym (and-true (t x)))
all_keep t false true x y xs = refl
all_keep t false false x y xs = refl
