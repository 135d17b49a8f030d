-- What a resolvent holds, and in what order clashes and literals are told.
-- Assumes nothing.
use Rattle.std.proofs.Common.{◌≡◌, ℕ, zero, suc, ◌+◌, ◌<◌, ◌≤◌, Bool, true, false, cond, not, ◌&&◌, ◌||◌, eqb, List, [], ◌∷◌, map, ℤ, pos, negsuc, nat_abs, sym, refl, ap, ◌∙◌, ap₂, arith}
use mathlib.Core.Bool.{and-true, and-false}
use lib.Dec.{eqb-zero-suc, eqb-suc-zero, eqb-suc-suc}
use Rattle.std.specs.List.Sorted.{IsStrictlyIncreasing}
use Rattle.std.proofs.lemmas.Bool.{false≢true, or_left, or_from, eq-eqb, ne_eqb}
use Rattle.words.specs.Bits.{keep}
use Rattle.std.specs.List.{list_any}
use Rattle.clauses.specs.Clauses.{Sign, sign, Signs, blank, holds_plus, holds_minus, sign_at, holds, literals_from, clean, opposed, clash_in, clashes_from, union, changed, no_plus, no_minus}
use Rattle.lines.proofs.Gathering.{holds-union}
use Rattle.clause_laws.specs.Facts.{of_variable, AResolventHoldsTheRest, ToldInRisingOrder}

-- ---- the resolvent

cleared : (k : ℕ) (c : Signs) (j : ℕ)
    → sign_at (changed k no_plus (changed k no_minus c)) j ≡ cond (eqb j k) blank (sign_at c j)
cleared k [] j = go (eqb j k)
  where
    go : (b : Bool) → blank ≡ cond b blank blank
    go true = refl
    go false = refl
cleared zero (sign p q ∷ c) zero = refl
cleared zero (s ∷ c) (suc j) = rw (eqb-suc-zero j)
cleared (suc k) (s ∷ c) zero = rw (eqb-zero-suc k)
cleared (suc k) (s ∷ c) (suc j) = rw (eqb-suc-suc j k) (cleared k c j)

blank-plus : (b : Bool) (s : Sign) → holds_plus (cond b blank s) ≡ (holds_plus s && not b)
blank-plus true s = sym (and-false (holds_plus s))
blank-plus false s = sym (and-true (holds_plus s))

blank-minus : (b : Bool) (s : Sign) → holds_minus (cond b blank s) ≡ (holds_minus s && not b)
blank-minus true s = sym (and-false (holds_minus s))
blank-minus false s = sym (and-true (holds_minus s))

rest-holds : (v : ℕ) (c : Signs) (l : ℤ)
    → holds l (changed v no_plus (changed v no_minus c)) ≡ (holds l c && not (of_variable (suc v) l))
rest-holds v c (pos zero) = refl
rest-holds v c (pos (suc k)) = rw (eqb-suc-suc k v) (ap holds_plus (cleared v c k) ∙ blank-plus (eqb k v) (sign_at c k))
rest-holds v c (negsuc k) = rw (eqb-suc-suc k v) (ap holds_minus (cleared v c k) ∙ blank-minus (eqb k v) (sign_at c k))

-- 0 is no variable
none_out : (c : Signs) (l : ℤ) → holds l c ≡ (holds l c && not (of_variable 0 l))
none_out c (pos zero) = refl
none_out c (pos (suc k)) = rw (eqb-suc-zero k) (sym (and-true (holds_plus (sign_at c k))))
none_out c (negsuc k) = rw (eqb-suc-zero k) (sym (and-true (holds_minus (sign_at c k))))

pub resolvent-holds : AResolventHoldsTheRest
resolvent-holds zero c d l = none_out (union c d) l ∙ ap (λ b. b && not (of_variable 0 l)) (holds-union c d l)
resolvent-holds (suc v) c d l = rest-holds v (union c d) l ∙ ap (λ b. b && not (of_variable (suc v) l)) (holds-union c d l)

-- ---- rising numbers

-- each is above the one before, and the first not below i
abbrev Rising : ℕ → List ℕ → Type 0
Rising i [] = Unit {0}
Rising i (x ∷ xs) = (i ≤ x) × Rising (suc x) xs

rising_lower : (i : ℕ) (xs : List ℕ) → Rising (suc i) xs → Rising i xs
rising_lower i [] r = tt
rising_lower i (x ∷ xs) r = (omega (arith, r.0), r.1)

rising_keep : (b : Bool) (i : ℕ) (xs : List ℕ) → Rising (suc i) xs → Rising i (keep b i xs)
rising_keep true i xs r = (omega arith, r)
rising_keep false i xs r = rising_lower i xs r

rising_climbs : (i : ℕ) (xs : List ℕ) → Rising i xs → IsStrictlyIncreasing xs
rising_climbs i [] r k h = absurd (omega arith)
rising_climbs i (x ∷ []) r k h = absurd (omega arith)
rising_climbs i (x ∷ y ∷ xs) r zero h = omega (arith, r.1.0)
rising_climbs i (x ∷ y ∷ xs) r (suc k) h =
    let next : suc k + 1 ≡ suc (k + 1) = omega arith in
    rw next (rising_climbs (suc x) (y ∷ xs) r.1 k (omega arith))

none_below : (v i : ℕ) (xs : List ℕ) → Rising i xs → v < i → list_any (eqb v) xs ≡ false
none_below v i [] r h = refl
none_below v i (x ∷ xs) r h =
    or_from (eqb v x) (list_any (eqb v) xs) (ne_eqb v x (λ e. omega (arith, r.0))) (none_below v (suc x) xs r.1 (omega (arith, r.0)))

-- ---- clashes

clashes_rise : (i : ℕ) (c d : Signs) → Rising i (clashes_from i c d)
clashes_rise i [] d = tt
clashes_rise i (s ∷ c) [] = tt
clashes_rise i (s ∷ c) (t ∷ d) = rising_keep (opposed s t) i (clashes_from (suc i) c d) (clashes_rise (suc i) c d)

kept : (b : Bool) (i : ℕ) (xs : List ℕ) → Rising (suc i) xs → list_any (eqb (i + 0)) (keep b i xs) ≡ b
kept true i xs r = or_left (eqb (i + 0) i) (list_any (eqb (i + 0)) xs) (eq-eqb (i + 0) i (omega arith))
kept false i xs r = none_below (i + 0) (suc i) xs r (omega arith)

passed : (b : Bool) (v i : ℕ) (xs : List ℕ) → i < v → list_any (eqb v) (keep b i xs) ≡ list_any (eqb v) xs
passed true v i xs h = rw (ne_eqb v i (λ e. omega arith))
passed false v i xs h = refl

clashes-at : (i j : ℕ) (c d : Signs) → list_any (eqb (i + j)) (clashes_from i c d) ≡ clash_in (suc j) c d
clashes-at i j [] d = refl
clashes-at i j (s ∷ c) [] =
    sym (ap₂ {C = Bool} (λ x y. x || y) (and-false (holds_plus (sign_at (s ∷ c) j))) (and-false (holds_minus (sign_at (s ∷ c) j))))
clashes-at i zero (sign p q ∷ c) (sign r u ∷ d) =
    kept (opposed (sign p q) (sign r u)) i (clashes_from (suc i) c d) (clashes_rise (suc i) c d)
clashes-at i (suc j) (s ∷ c) (t ∷ d) =
    let next : i + suc j ≡ suc i + j = omega arith in
    passed (opposed s t) (i + suc j) i (clashes_from (suc i) c d) (omega arith)
    ∙ ap (λ (v : ℕ). list_any (eqb v) (clashes_from (suc i) c d)) next
    ∙ clashes-at (suc i) j c d

clashes_are : (c d : Signs) (v : ℕ) → list_any (eqb v) (clashes_from 1 c d) ≡ clash_in v c d
clashes_are c d zero = none_below 0 1 (clashes_from 1 c d) (clashes_rise 1 c d) (omega arith)
clashes_are c d (suc j) =
    let at : suc j ≡ 1 + j = omega arith in
    ap (λ (v : ℕ). list_any (eqb v) (clashes_from 1 c d)) at ∙ clashes-at 1 j c d

-- ---- literals

literals_rise : (k : ℕ) (c : Signs) → clean c ≡ true → Rising (suc k) (map nat_abs (literals_from k c))
literals_rise k [] h = tt
literals_rise k (sign true true ∷ c) h = absurd (false≢true h)
literals_rise k (sign true false ∷ c) h = (omega arith, literals_rise (suc k) c h)
literals_rise k (sign false true ∷ c) h = (omega arith, literals_rise (suc k) c h)
literals_rise k (sign false false ∷ c) h = rising_lower (suc k) (map nat_abs (literals_from (suc k) c)) (literals_rise (suc k) c h)

pub told_rising : ToldInRisingOrder
told_rising = (
  λ c d. (clashes_are c d, rising_climbs 1 (clashes_from 1 c d) (clashes_rise 1 c d)),
  λ c h. rising_climbs 1 (map nat_abs (literals_from 0 c)) (literals_rise 0 c h),
)
