-- What is said of a word place by place: its variables, how many, the lowest and the only one. Assumes nothing.
use Rattle.std.proofs.Common.{◌≡◌, ℕ, zero, suc, ◌+◌, ◌-◌, ◌/◌, ◌^◌, ◌<◌, ◌≤◌, Bool, true, false, ◌&&◌, ◌||◌, eqb, List, [], ◌∷◌, length, not, Some, None, ⊎_elim, sym, refl, ap, ◌∙◌, ap₂, arith, w64}
use Rattle.std.specs.Bool.{then_some}
use mathlib.Core.Bool.{or-false}
use Rattle.std.specs.List.{list_any}
use lib.Count.{ones, ones-le, ones_step, count_trailing_zeros}
use Rattle.std.proofs.lemmas.Nat.Bits.{bit_at-trailing_zeros}
use Rattle.std.proofs.lemmas.Bool.{and_right, cases_eq, eq-eqb, ne_eqb, or_from}
use Rattle.words.specs.Bits.{width, bit, BitsWhere, later, listed, keep, numbers, variables, first, sole}
use Rattle.words.specs.Laws.{OnesCountsTheVariables}
use Rattle.words.proofs.Bits.{digit, bit_low, bit_half, bit-zero, half_lt, same_bits}

pub listed_same : {A : Type 0} (w : ℕ) (f g : ℕ → A) → ((k : ℕ) → k < w → f k ≡ g k) → listed w f ≡ listed w g
listed_same zero f g same = refl
listed_same (suc w) f g same = ap₂ ◌∷◌ (same 0 (omega arith)) (listed_same w (later f) (later g) (λ k h. same (suc k) (omega arith)))

pub numbers-same : (v w : ℕ) (f g : ℕ → Bool) → ((k : ℕ) → k < w → f k ≡ g k) → numbers v w f ≡ numbers v w g
numbers-same v zero f g same = refl
numbers-same v (suc w) f g same =
    ap₂ (λ (p : Bool) (xs : List ℕ). keep p v xs) (same 0 (omega arith)) (numbers-same (suc v) w (later f) (later g) (λ k h. same (suc k) (omega arith)))

pub variables_where : (f : ℕ → Bool) (word : ℕ) → BitsWhere f word → variables word ≡ numbers 1 width f
unfolding variables
variables_where f word at = numbers-same 1 width (λ k. bit k word) f at

-- ---- the lowest bit and the half

halved : (v w a : ℕ) → numbers v (suc w) (λ k. bit k a) ≡ keep (bit 0 a) v (numbers (suc v) w (λ k. bit k (a / 2)))
halved v w a = ap (keep (bit 0 a) v) (numbers-same (suc v) w (λ k. bit (suc k) a) (λ k. bit k (a / 2)) (λ k _. bit_half k a))

length-keep : (p : Bool) (x : ℕ) (xs : List ℕ) → length (keep p x xs) ≡ digit p + length xs
length-keep p x xs = grind arith

ones_below : (v w a : ℕ) → a < 2 ^ w → ones a ≡ length (numbers v w (λ k. bit k a))
ones_below v zero a small = omega (arith, ones-le 0 a small)
ones_below v (suc w) a small =
    ones_step a ∙ ap₂ ◌+◌ (bit_low a) (ones_below (suc v) w (a / 2) (half_lt w a small)) ∙ sym (ap length (halved v w a) ∙ length-keep (bit 0 a) v _)

pub ones_variables : OnesCountsTheVariables
unfolding variables
ones_variables = ones_below 1 width

first_at : (v w k : ℕ) (f : ℕ → Bool) → k < w → f k ≡ true → ((j : ℕ) → j < k → f j ≡ false) → first (numbers v w f) ≡ Some (k + v)
first_at v zero k f h on off = absurd (omega arith)
first_at v (suc w) zero f h on off = rw on (ap Some (omega arith))
first_at v (suc w) (suc k) f h on off =
    rw (off 0 (omega arith)) (first_at (suc v) w k (later f) (omega arith) on (λ j l. off (suc j) (omega arith)) ∙ ap Some (omega arith))

lowest_place : (a : ℕ) → 0 < a → a < 2 ^ width → first (variables a) ≡ Some (count_trailing_zeros width a + 1)
unfolding variables bit
lowest_place a some small =
    let t = bit_at-trailing_zeros w64 a some small in
    first_at 1 width (count_trailing_zeros width a) (λ k. bit k a) t.0 (rw t.1 refl) (λ j l. rw (t.2 j l) refl)

-- ---- no places, and one alone

numbers-none : (v w : ℕ) (f : ℕ → Bool) → ((k : ℕ) → k < w → f k ≡ false) → numbers v w f ≡ []
numbers-none v zero f none = refl
numbers-none v (suc w) f none =
    ap (λ (p : Bool). keep p v (numbers (suc v) w (later f))) (none 0 (omega arith)) ∙ numbers-none (suc v) w (later f) (λ k h. none (suc k) (omega arith))

pub no_variables : variables 0 ≡ []
no_variables = variables_where (λ k. false) 0 (λ k _. bit-zero k) ∙ numbers-none 1 width (λ k. false) (λ k _. refl)

pub lowest_variable : (a : ℕ) → a < 2 ^ width → then_some (not (eqb a 0)) (count_trailing_zeros width a + 1) ≡ first (variables a)
lowest_variable a small =
    ⊎_elim
    (λ z. rw z (ap first (sym no_variables)))
    (λ n. rw (ne_eqb a 0 n) (sym (lowest_place a (omega arith) small)))
    (cases_eq a 0)

sole_at : (v w k : ℕ) (f : ℕ → Bool) → k < w → f k ≡ true → ((j : ℕ) → j < w → (j ≡ k → ⊥) → f j ≡ false) → sole (numbers v w f) ≡ Some (k + v)
sole_at v zero k f h on off = absurd (omega arith)
sole_at v (suc w) zero f h on off =
    rw (on, numbers-none (suc v) w (later f) (λ j l. off (suc j) (omega arith) (λ e. omega arith))) (ap Some (omega arith))
sole_at v (suc w) (suc k) f h on off =
    rw (off 0 (omega arith) (λ e. omega arith)) (sole_at (suc v) w k (later f) (omega arith) on (λ j l n. off (suc j) (omega arith) (λ e. n (omega arith))) ∙ ap Some (omega arith))

sole_from : (a v : ℕ) → 0 < v → v ≤ width → BitsWhere (λ k. eqb (suc k) v) a → sole (variables a) ≡ Some v
unfolding variables
sole_from a v some small at =
    sole_at 1 width (v - 1) (λ k. bit k a) (omega arith) (at (v - 1) (omega arith) ∙ eq-eqb _ v (omega arith))
    (λ j l n. at j l ∙ ne_eqb _ v (λ e. n (omega arith))) ∙ ap Some (omega arith)

member-keep : (x : ℕ) (p : Bool) (y : ℕ) (ys : List ℕ) → list_any (eqb x) (keep p y ys) ≡ ((p && eqb x y) || list_any (eqb x) ys)
member-keep x p y ys = grind arith

member_below : (v w : ℕ) (f : ℕ → Bool) (x : ℕ) → x < v → list_any (eqb x) (numbers v w f) ≡ false
member_below v zero f x h = refl
member_below v (suc w) f x h =
    member-keep x (f 0) v _ ∙ or_from _ _ (and_right (f 0) _ (ne_eqb x v (λ e. omega arith))) (member_below (suc v) w (later f) x (omega arith))

member-at : (v w : ℕ) (f : ℕ → Bool) (k x : ℕ) → x ≡ k + v → k < w → list_any (eqb x) (numbers v w f) ≡ f k
member-at v zero f k x e h = absurd (omega arith)
member-at v (suc w) f zero x e h =
    let b = member_below (suc v) w (later f) x (omega arith) in
    let t = eq-eqb x v (omega arith) in
    member-keep x (f 0) v _ ∙ grind arith
member-at v (suc w) f (suc k) x e h =
    let b = member-at (suc v) w (later f) k x (omega arith) (omega arith) in
    let t = ne_eqb x v (λ same. omega arith) in
    member-keep x (f 0) v _ ∙ grind arith

pub sole_bits : (a v : ℕ) → sole (variables a) ≡ Some v → BitsWhere (λ k. eqb (suc k) v) a
unfolding variables
sole_bits a v e k h = sym (member-at 1 width (λ j. bit j a) k (suc k) (omega arith) h) ∙ go (variables a) e
  where
    go : (l : List ℕ) → sole l ≡ Some v → list_any (eqb (suc k)) l ≡ eqb (suc k) v
    go [] is = let z : ◌≡◌ {A = ℕ} 0 1 = cc in absurd (omega arith)
    go (y ∷ []) is = let same : y ≡ v = cc in or-false (eqb (suc k) y) ∙ ap (eqb (suc k)) same
    go (y ∷ z ∷ zs) is = let z : ◌≡◌ {A = ℕ} 0 1 = cc in absurd (omega arith)

sole_none : (vs : List ℕ) (v : ℕ) → first vs ≡ Some v → (sole vs ≡ Some v → ⊥) → sole vs ≡ None
sole_none [] v e no-sole = refl
sole_none (x ∷ []) v e no-sole = absurd (no-sole e)
sole_none (x ∷ y ∷ ys) v e no-sole = refl

-- a word has just one variable if it is the word of its lowest
pub sole_word : (a one v : ℕ) → a < 2 ^ width → one < 2 ^ width → first (variables a) ≡ Some v → 0 < v → v ≤ width → BitsWhere (λ k. eqb (suc k) v) one
    → then_some (eqb a one) v ≡ sole (variables a)
sole_word a one v small small' low some named at =
    ⊎_elim
    (λ e. rw (eq-eqb a one e) (sym (sole_from a v some named (λ k h. ap (bit k) e ∙ at k h))))
    (λ n. rw (ne_eqb a one n) (sym (sole_none (variables a) v low (λ s. n (same_bits a one small small' (λ k h. sole_bits a v s k h ∙ sym (at k h)))))))
    (cases_eq a one)
