-- A word and the number that it is. Assumes nothing.
use Rattle.std.proofs.Common.{◌≡◌, ℕ, ◌^◌, ◌-◌, ◌<◌, ◌≤◌, ◌≢◌, Bool, true, false, cond, ◌&&◌, nat_le, nat_lt, ℤ, pos, negsuc, neg_ℤ, decimal, suc, drop, List, [], ◌∷◌, Some, None, Result, Ok, Err, refl, sym, ap, subst, ◌∙◌, get_or, arith}
use mir.Syntax.{w32}
use mir.Val.{SFits as FitsSigned}
use Rattle.std.specs.Int.Signed.{mag}
use Rattle.std.specs.Fmt.{digits, signed_decimal}
use Rattle.std.specs.Char.{digit_value}
use Rattle.std.specs.Str.{bytes_eq}
use Rattle.std.specs.Str.Parse.{IsNumeral, digits_value, ParsesUnsigned, without_leading_plus, signed_digits_value, ParsesSigned, starts_with_minus}
use Rattle.std.specs.Result.{OkIff, result_ok}
use Rattle.std.specs.declared.num.ParseIntError.{ParseIntError}
use Rattle.std.proofs.lemmas.Map.Entries.{option_filter}
use Rattle.std.proofs.Math.Nat.{pow-le-pow_left}
use Rattle.std.proofs.lemmas.Result.{Ok-from_Ok_iff}
use Rattle.std.proofs.lemmas.Fmt.{digits_is_IsNumeral, decimal_is_IsNumeral, parse-signed_decimal}
use Rattle.std.proofs.lemmas.Str.Parse.{without_leading_plus_none}
use Rattle.std.proofs.lemmas.Slice.Eq.{bytes_eq-Decides}
use Rattle.std.proofs.lemmas.Bool.Decides.{nat_tests}
use Rattle.protocol.proofs.Tries.{both-left, both-right, both, cond-some, same-some}
use Rattle.protocol.specs.Reading.{numeral_of, integer_of}

kept_ok : {A : Type 0} (t : A → Bool) (v n : A) (a b : Bool) → t v ≡ a → t n ≡ b
    → (a ≡ true → n ≡ v) → (b ≡ true → n ≡ v)
    → cond a (Some v) None ≡ cond b (Some n) None
kept_ok t v n true true p q f g = ap Some (sym (f refl))
kept_ok t v n true false p q f g = let e = f refl in absurd (cc)
kept_ok t v n false true p q f g = let e = g refl in absurd (cc)
kept_ok t v n false false p q f g = refl

kept_err : {A : Type 0} (a : Bool) (v : A) → (a ≡ true → ⊥) → cond a (Some v) None ≡ None
kept_err true v wrong = absurd (wrong refl)
kept_err false v wrong = refl

-- a test picks the value v of a word from what was parsed of it
pub kept-parsed : {A E : Type 0} (t : A → Bool) (v : A) (r : Result A E)
    → (t v ≡ true → r ≡ Ok v) → ((n : A) → r ≡ Ok n → t n ≡ true → n ≡ v)
    → cond (t v) (Some v) None ≡ option_filter t (result_ok r)
kept-parsed t v (Ok n) found same =
    kept_ok t v n (t v) (t n) refl refl (λ h. let e = found h in cc) (same n refl)
kept-parsed t v (Err e) found same = kept_err (t v) v (λ h. let e = found h in cc)

at_most : (n most : ℕ) → nat_le n most ≡ true → n ≤ most
at_most n most h = grind (arith, nat_tests)

test_most : (n most : ℕ) → n ≤ most → nat_le n most ≡ true
test_most n most h = grind (arith, nat_tests)

-- ---- without a sign

-- a sign is no digit
no_sign : (base sign : ℕ) (w : List ℕ) → base ≤ 16 → digit_value sign ≡ 36 → IsNumeral base w
    → get_or w 0 0 ≢ sign
no_sign base sign [] small none h e = absurd (omega arith)
no_sign base sign (c ∷ w) small none h e =
    let d : digit_value c < base = h.1.0 in
    let v : digit_value c ≡ digit_value sign = ap digit_value e in
    absurd (omega arith)

-- the test that a parsed number passes
abbrev pub prints : ℕ → ℕ → List ℕ → ℕ → Bool
prints base most w n = bytes_eq w (digits base false n) && nat_le n most

module _ (base : ℕ) (low : 2 ≤ base) (high : base ≤ 16) where
  -- the numeral of a number that 64 bits hold
  written : (n : ℕ) → n < 2 ^ 64
      → IsNumeral base (digits base false n) × (digits_value base (digits base false n) ≡ n)
  written n small =
      let wide : n < base ^ 64 = omega (arith, pow-le-pow_left low 64) in
      digits_is_IsNumeral base false low high n wide

  -- what was printed is parsed
  parsed : {E : Type 0} (n : ℕ) (w : List ℕ) (r : Result ℕ E) → n < 2 ^ 64
      → w ≡ digits base false n → ParsesUnsigned 64 base w r → r ≡ Ok n
  parsed n w r small e h =
      let ds : List ℕ = digits base false n in
      let k = written n small in
      let plain = without_leading_plus_none ds (no_sign base 43 ds high refl k.0) in
      let here : ParsesUnsigned 64 base ds r = subst (λ l. ParsesUnsigned 64 base l r) e h in
      let read = subst
      (λ l. OkIff r (IsNumeral base l × (digits_value base l < 2 ^ 64)) (digits_value base l))
      plain here in
      Ok-from_Ok_iff r _ _ read (k.0, omega (arith, k.1)) ∙ ap Ok k.1

  prints-number : (most n : ℕ) (w : List ℕ) → prints base most w n ≡ true
      → (w ≡ digits base false n) × (n ≤ most)
  prints-number most n w h = (
    (bytes_eq-Decides w (digits base false n)).0 (both-left _ (nat_le n most) h),
    at_most n most (both-right (bytes_eq w (digits base false n)) _ h),
  )

  pub numeral_of-parsed : {E : Type 0} (most : ℕ) (w : List ℕ) (r : Result ℕ E) → most < 2 ^ 64
      → ParsesUnsigned 64 base w r
      → numeral_of base most w ≡ option_filter (prints base most w) (result_ok r)
  unfolding numeral_of
  numeral_of-parsed most w r small h =
      kept-parsed (prints base most w) (digits_value base w) r
      (λ t. let p = prints-number most _ w t in parsed _ w r (omega (arith, p.1)) p.0 h)
      (λ n e t.
      let p = prints-number most n w t in
      sym (written n (omega (arith, p.1))).1 ∙ sym (ap (digits_value base) p.0))

  -- a word is a number where it is printed so
  pub numeral_of-some : (most n : ℕ) (w : List ℕ) → numeral_of base most w ≡ Some n
      → (w ≡ digits base false n) × (n ≤ most)
  unfolding numeral_of
  numeral_of-some most n w h =
      let p = cond-some _ _ n h in
      let same = same-some _ n p.1 in
      subst (λ m. (w ≡ digits base false m) × (m ≤ most)) same (prints-number most _ w p.0)

  pub numeral_of-digits : (most n : ℕ) → most < 2 ^ 64 → n ≤ most
      → numeral_of base most (digits base false n) ≡ Some n
  unfolding numeral_of
  numeral_of-digits most n small below =
      let ds : List ℕ = digits base false n in
      let k = written n (omega arith) in
      let holds : prints base most ds n ≡ true =
      both (bytes_eq ds ds) _ ((bytes_eq-Decides ds ds).1 refl) (test_most n most below) in
      subst (λ m. cond (prints base most ds m) (Some m) None ≡ Some n) (sym k.1)
      (ap (λ b. cond b (Some n) None) holds)

-- ---- with a sign

-- the test that a parsed number passes
abbrev pub prints_signed : List ℕ → ℤ → Bool
prints_signed w z = bytes_eq w (signed_decimal z) && nat_lt (mag z) (2 ^ 31)

less : (m n : ℕ) → nat_lt m n ≡ true → m < n
less m n h = grind (arith, nat_tests)

test_less : (m n : ℕ) → m < n → nat_lt m n ≡ true
test_less m n h = grind (arith, nat_tests)

prints_signed-number : (w : List ℕ) (z : ℤ) → prints_signed w z ≡ true
    → (w ≡ signed_decimal z) × FitsSigned w32 z
prints_signed-number w z h = (
  (bytes_eq-Decides w (signed_decimal z)).0 (both-left _ (nat_lt (mag z) (2 ^ 31)) h),
  record { sfits = less (mag z) (2 ^ 31) (both-right (bytes_eq w (signed_decimal z)) _ h) },
)

-- without a sign the value is that of the digits
unsigned_value : (ds : List ℕ) → IsNumeral 10 ds
    → signed_digits_value 10 ds ≡ pos (digits_value 10 ds)
unsigned_value ds h =
    let minus = no_sign 10 45 ds (omega arith) refl h in
    let plain = without_leading_plus_none ds (no_sign 10 43 ds (omega arith) refl h) in
    let m : starts_with_minus ds ≡ false = grind (arith, nat_tests) in
    let P : Bool → ℤ = λ b.
    let rest : List ℕ = cond b (drop 1 ds) (without_leading_plus ds) in
    cond b (neg_ℤ (pos (digits_value 10 rest))) (pos (digits_value 10 rest)) in
    ap P m ∙ ap (λ l. pos (digits_value 10 l)) plain

-- what is printed has the number as its value
signed_value : (z : ℤ) → mag z < 2 ^ 31 → signed_digits_value 10 (signed_decimal z) ≡ z
signed_value (pos n) small =
    let k = decimal_is_IsNumeral n (omega arith) in
    unsigned_value (decimal n) k.0 ∙ ap (λ m. pos m) k.1
signed_value (negsuc n) small =
    ap (λ m. neg_ℤ (pos m)) (decimal_is_IsNumeral (suc n) (omega arith)).1

both-known : (a b : Bool) → b ≡ true → (a && b) ≡ a
both-known true b h = h
both-known false b h = refl

fitting : {E : Type 0} (w : List ℕ) (r : Result ℤ E) → ParsesSigned w32 10 w r
    → option_filter (prints_signed w) (result_ok r)
    ≡ option_filter (λ z. bytes_eq w (signed_decimal z)) (result_ok r)
fitting w (Ok z) h =
    let fits : FitsSigned w32 z = subst (FitsSigned w32) (sym h.1) h.0.1 in
    ap (λ b. cond b (Some z) None) (both-known _ _ (test_less _ _ fits.sfits))
fitting w (Err e) h = refl

-- what is parsed has 32 bits
pub integer_of-parsed : {E : Type 0} (w : List ℕ) (r : Result ℤ E) → ParsesSigned w32 10 w r
    → integer_of w ≡ option_filter (λ z. bytes_eq w (signed_decimal z)) (result_ok r)
unfolding integer_of
integer_of-parsed w r h =
    kept-parsed (prints_signed w) (signed_digits_value 10 w) r
    (λ t.
    let p = prints_signed-number w _ t in
    parse-signed_decimal w32 _ w r p.1 (omega (arith, p.1.sfits)) p.0 h)
    (λ z e t.
    let p = prints_signed-number w z t in
    sym (signed_value z p.1.sfits) ∙ sym (ap (signed_digits_value 10) p.0))
    ∙ fitting w r h

pub integer_of-some : (z : ℤ) (w : List ℕ) → integer_of w ≡ Some z
    → (w ≡ signed_decimal z) × FitsSigned w32 z
unfolding integer_of
integer_of-some z w h =
    let p = cond-some _ _ z h in
    let same = same-some _ z p.1 in
    subst (λ y. (w ≡ signed_decimal y) × FitsSigned w32 y) same (prints_signed-number w _ p.0)

pub integer_of-signed : (z : ℤ) → FitsSigned w32 z → integer_of (signed_decimal z) ≡ Some z
unfolding integer_of
integer_of-signed z fits =
    let ds : List ℕ = signed_decimal z in
    let holds : prints_signed ds z ≡ true =
    both (bytes_eq ds ds) _ ((bytes_eq-Decides ds ds).1 refl) (test_less _ _ fits.sfits) in
    subst (λ y. cond (prints_signed ds y) (Some y) None ≡ Some z) (sym (signed_value z fits.sfits))
    (ap (λ b. cond b (Some z) None) holds)

pub natural_read : (most : ℕ) (w : List ℕ) (r : Result ℕ ParseIntError) → ParsesUnsigned 64 10 w r
    → most < 2 ^ 64 → numeral_of 10 most w ≡ option_filter (prints 10 most w) (result_ok r)
natural_read most w r h small = numeral_of-parsed 10 (omega arith) (omega arith) most w r small h

pub hexadecimal_read : (w : List ℕ) (r : Result ℕ ParseIntError) → ParsesUnsigned 64 16 w r
    → numeral_of 16 (2 ^ 64 - 1) w ≡ option_filter (prints 16 (2 ^ 64 - 1) w) (result_ok r)
hexadecimal_read w r =
    numeral_of-parsed 16 (omega arith) (omega arith) (2 ^ 64 - 1) w r (omega arith)

pub integer_read : (w : List ℕ) (r : Result ℤ ParseIntError) → ParsesSigned w32 10 w r
    → integer_of w ≡ option_filter (λ z. bytes_eq w (signed_decimal z)) (result_ok r)
integer_read = integer_of-parsed
