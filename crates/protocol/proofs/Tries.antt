-- What a try that found something shows of its steps. Assumes nothing.
use Rattle.std.proofs.Common.{◌≡◌, Bool, true, false, cond, ◌⊎◌, inl, inr, ◌&&◌, Option, Some, None, option_map, option_and_then, refl}

pub both-left : (a b : Bool) → (a && b) ≡ true → a ≡ true
both-left true b h = refl
both-left false b h = h

pub both-right : (a b : Bool) → (a && b) ≡ true → b ≡ true
both-right true b h = h
both-right false b h = absurd (cc)

pub both : (a b : Bool) → a ≡ true → b ≡ true → (a && b) ≡ true
both true b p q = q
both false b p q = p

-- under a test, and else nothing
pub cond-some : {A : Type 0} (b : Bool) (o : Option A) (n : A) → cond b o None ≡ Some n
    → (b ≡ true) × (o ≡ Some n)
cond-some true o n h = (refl, h)
cond-some false o n h = absurd (cc)

-- under a test, or else from the rest
pub cond-either : {A : Type 0} (b : Bool) (o rest : Option A) (n : A) → cond b o rest ≡ Some n
    → ((b ≡ true) × (o ≡ Some n)) ⊎ ((b ≡ false) × (rest ≡ Some n))
cond-either true o rest n h = inl (refl, h)
cond-either false o rest n h = inr (refl, h)

-- first one, and then the other
pub then-some : {A B : Type 0} (f : A → Option B) (o : Option A) (y : B)
    → option_and_then f o ≡ Some y → (x : A) × (o ≡ Some x) × (f x ≡ Some y)
then-some f (Some x) y h = (x, refl, h)
then-some f None y h = absurd (cc)

pub map-some : {A B : Type 0} (f : A → B) (o : Option A) (y : B) → option_map f o ≡ Some y
    → (x : A) × (o ≡ Some x) × (f x ≡ y)
map-some f (Some x) y h = (x, refl, cc)
map-some f None y h = absurd (cc)

pub same-some : {A : Type 0} (x y : A) → Some x ≡ Some y → x ≡ y
same-some x y h = cc
