-- Number words are the decimals of at most five digits. Assumes nothing.
use Rattle.std.proofs.Common.{◌≡◌, ℕ, zero, suc, ◌<◌, ◌≤◌, true, eqb, List, [], ◌∷◌, length, get_or, ℤ, pos, negsuc, nat_abs, Some, None, decimal, Option, sym, ap, ◌∙◌, subst, arith, rules}
use Rattle.std.specs.Fmt.{signed_decimal}
use Rattle.std.proofs.lemmas.Fmt.{decimal_digit, decimal-digits_value, decimal_nonempty, digits_decimal, first_decimal, length-decimal-le, digits_value-decimal}
use Rattle.std.proofs.lemmas.Str.Parse.{IsNumeralModel, numerals_by_fold, digits_value_short}
use Rattle.std.proofs.lemmas.Bool.{cond_both, eqb-true, false≢true}
use Rattle.std.proofs.lemmas.Bool.Decides.{nat_tests}
use Rattle.text_laws.specs.Laws.{NumberWordsAreDecimals}
use Rattle.tokens.specs.Numbers.{all_digits, value_after, is_plain, plain_value, positive, negative, is_zero, number_word}

-- the test for digits and their value are those of the shelf
pub own : IsNumeralModel (λ ds. all_digits ds ≡ true) (value_after 0)
own = numerals_by_fold _ (search rules) value_after (search rules)

-- a plain word is the decimal of its value
plain_is_decimal : (w : List ℕ) → is_plain w ≡ true → (w ≡ decimal (value_after 0 w)) × (0 < value_after 0 w) × (value_after 0 w < 100000)
plain_is_decimal w h =
    let some : 0 < length w = grind (arith, nat_tests) in
    let short : length w ≤ 5 = grind (arith, nat_tests) in
    let first : get_or w 0 0 ≡ 48 → ⊥ = grind (arith, nat_tests) in
    let digits : all_digits w ≡ true = grind (arith, nat_tests) in
    let small = digits_value_short own w 5 digits short in
    let same = decimal-digits_value own w digits some (λ e. absurd (first e)) (omega arith) in
    let more : value_after 0 w ≡ 0 → ⊥ = λ e. first (ap (λ d. get_or d 0 0) (sym same ∙ ap decimal e ∙ decimal_digit 0 (omega arith))) in
    (sym same, omega arith, small)

-- and the other way
decimal_is_plain : (n : ℕ) → 0 < n → n < 100000 → plain_value (decimal n) ≡ Some n
decimal_is_plain n some small =
    let l = decimal_nonempty n (omega arith) in
    let r = length-decimal-le 5 n (omega arith) small (omega arith) in
    let f = first_decimal n some (omega arith) in
    let d = digits_decimal own n (omega arith) in
    let v = digits_value-decimal own n (omega arith) in
    grind (arith, nat_tests)

-- if there is a number, w writes it
abbrev Tells : List ℕ → Option ℤ → Type 0
Tells w None = Unit {0}
Tells w (Some x) = (w ≡ signed_decimal x) × (nat_abs x < 100000)

zero_tells : (w : List ℕ) → is_zero w ≡ true → Tells w (Some (pos 0))
zero_tells [] h = absurd (false≢true h)
zero_tells (b ∷ []) h = (ap (λ c. c ∷ []) (eqb-true b 48 h) ∙ sym (decimal_digit 0 (omega arith)), omega arith)
zero_tells (b ∷ c ∷ w) h = absurd (grind (arith, nat_tests))

minus_tells : (b : ℕ) (ds : List ℕ) (n : ℕ) → b ≡ 45 → (ds ≡ decimal n) × (0 < n) × (n < 100000) → Tells (b ∷ ds) (negative (Some n))
minus_tells b ds zero m h = absurd (omega arith)
minus_tells b ds (suc n) m h = (cc, h.2)

-- a number word is the decimal of its number
number_tells : (w : List ℕ) → Tells w (number_word w)
number_tells [] = tt
number_tells (b ∷ ds) =
    let w = b ∷ ds in
    cond_both (is_zero w) _ _ (Tells w) (zero_tells w)
    (λ z. cond_both (eqb b 45) _ _ (Tells w)
    (λ m. cond_both (is_plain ds) _ _ (λ o. Tells w (negative o)) (λ p. minus_tells b ds _ (eqb-true b 45 m) (plain_is_decimal ds p)) (λ p. tt))
    (λ m. cond_both (is_plain w) _ _ (λ o. Tells w (positive o)) (λ p. let k = plain_is_decimal w p in (k.0, k.2)) (λ p. tt)))

-- and the other way
signed_is_number : (x : ℤ) → nat_abs x < 100000 → number_word (signed_decimal x) ≡ Some x
signed_is_number (pos zero) small = ap number_word (decimal_digit 0 (omega arith))
signed_is_number (pos (suc n)) small =
    let p = decimal_is_plain (suc n) (omega arith) small in
    let f = first_decimal (suc n) (omega arith) (omega arith) in
    grind (arith, nat_tests)
signed_is_number (negsuc n) small =
    let p = decimal_is_plain (suc n) (omega arith) small in
    let l = decimal_nonempty (suc n) (omega arith) in
    grind (arith, nat_tests)

pub number_words : NumberWordsAreDecimals
number_words w x = (λ h. subst (Tells w) h (number_tells w), λ e small. ap number_word e ∙ signed_is_number x small)
