-- The laws of the bits, from std's of the bit at a place. Assumes nothing.
use Rattle.std.proofs.Common.{◌≡◌, ℕ, zero, suc, ◌-◌, ◌*◌, ◌/◌, ◌%◌, ◌^◌, ◌<◌, ◌≤◌, Bool, true, false, not, ◌&&◌, eqb, ltb, sym, refl, ap, ◌∙◌, ap₂, ⊎_elim, arith, pow-suc, w64}
use mathlib.Core.Bool.{and-false}
use Rattle.std.proofs.lemmas.Nat.{one_shl}
use lib.Bits.{bit_and, and_le_l}
use Rattle.std.specs.Int.{bit_at}
use Rattle.std.proofs.lemmas.Nat.Bits.{bit_at_lowest, bit_at_and, bit_at_or, bit_at_xor, bit_at_not, bit_at-zero, bit_at_above, bit_at-pow_same, bit_at-pow_other, bit_at_ones, bit_at_ones_above, bit_at-lt, bit_at-suc, same_from_bits_below}
use Rattle.std.proofs.lemmas.Bool.{and_from, and_parts, both_ways, cases_lt, cases_eq, eq-eqb, ne_eqb, not-true}
use Rattle.std.proofs.lemmas.Bool.Decides.{nat_tests, Decides-eqb, same_from_decides}
use Rattle.words.specs.Bits.{width, bit, BitsWhere, one_to, alike, later, every, in_word}
use Rattle.words.specs.Laws.{AndHasWhatBothHave, OrHasWhatEitherHas, XorHasWhatOneAloneHas, NotHasTheOthers, PowerHasOneBit, MaskHasTheLowest, ZeroHasNone, SameBitsSameWord, EqualWordsHaveLikeBits}

abbrev pub digit : Bool → ℕ
digit true = 1
digit false = 0

-- a bit as std has it
pub bit_digit : (k n : ℕ) → bit_at n k ≡ digit (bit k n)
unfolding bit
bit_digit k n = let l = bit_at-lt n k in grind arith

pub bit-and : AndHasWhatBothHave
unfolding bit
bit-and k a b = let x = bit_at-lt a k in let y = bit_at-lt b k in rw (bit_at_and a b k) (grind (arith, nat_tests))

pub bit-or : OrHasWhatEitherHas
unfolding bit
bit-or k a b = let x = bit_at-lt a k in let y = bit_at-lt b k in rw (bit_at_or a b k) (grind (arith, nat_tests))

pub bit-xor : XorHasWhatOneAloneHas
unfolding bit
bit-xor k a b = let x = bit_at-lt a k in let y = bit_at-lt b k in rw (bit_at_xor a b k) (grind (arith, nat_tests))

pub bit_not : NotHasTheOthers
unfolding bit
bit_not k a h small = let x = bit_at-lt a k in rw (bit_at_not w64 a k small h) (grind (arith, nat_tests))

pub bit-zero : (k : ℕ) → bit k 0 ≡ false
unfolding bit
bit-zero k = rw (bit_at-zero k) refl

pub bit_past : (k a : ℕ) → a < 2 ^ width → width ≤ k → bit k a ≡ false
unfolding bit
bit_past k a small past = rw (bit_at_above a width k small past) refl

pub bit_power : PowerHasOneBit
unfolding bit
bit_power k j =
    ⊎_elim (λ e. ap (λ (i : ℕ). eqb (bit_at (2 ^ i) k) 1) (sym e) ∙ rw (bit_at-pow_same k) (sym (eq-eqb k j e))) (λ n. rw (bit_at-pow_other j k n) (sym (ne_eqb k j n))) (cases_eq k j)

pub bit_mask : MaskHasTheLowest
unfolding bit
bit_mask k n = ⊎_elim (λ h. rw (bit_at_ones n k h) (grind (arith, nat_tests))) (λ h. rw (bit_at_ones_above n k h) (grind (arith, nat_tests))) (cases_lt k n)

pub same_bits : SameBitsSameWord
same_bits a b la lb same = same_from_bits_below width a b la lb (λ k h. bit_digit k a ∙ ap digit (same k h) ∙ sym (bit_digit k b))

pub bit_low : (n : ℕ) → n % 2 ≡ digit (bit 0 n)
bit_low n = sym (bit_at_lowest n) ∙ bit_digit 0 n

pub bit_half : (k n : ℕ) → bit (suc k) n ≡ bit k (n / 2)
unfolding bit
bit_half k n = ap (λ (q : ℕ). eqb q 1) (bit_at-suc n k)

pub half_lt : (w n : ℕ) → n < 2 ^ suc w → n / 2 < 2 ^ w
half_lt w n h = let p = pow-suc 2 w in omega arith

-- ---- every place

pub every-same : (w : ℕ) (f g : ℕ → Bool) → ((k : ℕ) → k < w → f k ≡ g k) → every w f ≡ every w g
every-same zero f g same = refl
every-same (suc w) f g same = ap₂ ◌&&◌ (same 0 (omega arith)) (every-same w (later f) (later g) (λ k h. same (suc k) (omega arith)))

pub every-at : (w : ℕ) (f : ℕ → Bool) → every w f ≡ true → (k : ℕ) → k < w → f k ≡ true
every-at zero f e k h = absurd (omega arith)
every-at (suc w) f e zero h = (and_parts (f 0) (every w (later f)) e).0
every-at (suc w) f e (suc k) h = every-at w (later f) (and_parts (f 0) (every w (later f)) e).1 k (omega arith)

pub every_from : (w : ℕ) (f : ℕ → Bool) → ((k : ℕ) → k < w → f k ≡ true) → every w f ≡ true
every_from zero f at = refl
every_from (suc w) f at = and_from (f 0) (every w (later f)) (at 0 (omega arith)) (every_from w (later f) (λ k h. at (suc k) (omega arith)))

-- two words are the same where a test at each place says so
same_by : (a b : ℕ) (f : ℕ → Bool) → a < 2 ^ width → b < 2 ^ width → ((k : ℕ) → f k ≡ true → bit k a ≡ bit k b)
    → (a ≡ b → (k : ℕ) → f k ≡ true) → eqb a b ≡ every width f
same_by a b f la lb to from =
    same_from_decides _ _ (Decides-eqb a b) (λ e. same_bits a b la lb (λ k h. to k (every-at width f e k h)), λ e. every_from width f (λ k _. from e k))

pub zero_bits : ZeroHasNone
zero_bits a small =
    same_by a 0 (λ k. not (bit k a)) small (omega arith) (λ k e. not-true (bit k a) e ∙ sym (bit-zero k)) (λ z k. ap not (ap (bit k) z ∙ bit-zero k))

-- ---- what other crates compare

pub bit-without : (k a b : ℕ) → k < width → b < 2 ^ width → bit k (bit_and a (2 ^ width - 1 - b)) ≡ (bit k a && not (bit k b))
bit-without k a b h small = bit-and k a (2 ^ width - 1 - b) ∙ ap (λ (p : Bool). bit k a && p) (bit_not k b h small)

pub in_word-bit : (k word : ℕ) → word < 2 ^ width → in_word (suc k) word ≡ bit k word
in_word-bit k word small =
    let first : suc k - 1 ≡ k = omega arith in
    ⊎_elim
    (λ h. let named : one_to width (suc k) ≡ true = grind (arith, nat_tests) in rw (named, first))
    (λ h. let past : one_to width (suc k) ≡ false = grind (arith, nat_tests) in rw past (sym (bit_past k word small h)))
    (cases_lt k width)

pub and_cross : (a b c d : Bool) → ((a && b) && (c && d)) ≡ ((a && c) && (b && d))
and_cross true true c d = refl
and_cross true false c d = sym (and-false c)
and_cross false b c d = refl

pub every-and : (w : ℕ) (f g : ℕ → Bool) → every w (λ k. f k && g k) ≡ (every w f && every w g)
every-and zero f g = refl
every-and (suc w) f g = ap (◌&&◌ (f 0 && g 0)) (every-and w (later f) (later g)) ∙ and_cross (f 0) (g 0) (every w (later f)) (every w (later g))

pub alike_same : (p q : Bool) → alike p q ≡ true → p ≡ q
alike_same true q e = sym e
alike_same false true e = e
alike_same false false e = refl

alike_self : (p : Bool) → alike p p ≡ true
alike_self true = refl
alike_self false = refl

pub equal_bits : EqualWordsHaveLikeBits
equal_bits a b la lb =
    same_by a b (λ k. alike (bit k a) (bit k b)) la lb (λ k. alike_same (bit k a) (bit k b)) (λ z k. ap (λ (x : ℕ). alike (bit k a) (bit k x)) (sym z) ∙ alike_self (bit k a))

-- ---- what the code computes

pub one_word : (k v : ℕ) → 0 < v → v ≤ width → bit k (1 * 2 ^ (v - 1) % 2 ^ width) ≡ eqb (suc k) v
one_word k v some small = rw (one_shl (v - 1) width (omega arith), bit_power k (v - 1)) (grind (arith, nat_tests))

pub ruleset one_words = (one_word, bit-zero, nat_tests)

pub mask_word : (k n : ℕ) → n < width → bit k (1 * 2 ^ n % 2 ^ width - 1) ≡ ltb k n
mask_word k n small = rw (one_shl n width small) (bit_mask k n)

pub whole_word : (k : ℕ) → bit k (2 ^ width - 1) ≡ ltb k width
whole_word k = bit_mask k width

pub ruleset mask_words = (mask_word, whole_word, nat_tests)

-- a word has a variable if it has a bit in common with the variable's word
pub common_bit : (a one v : ℕ) → a < 2 ^ width → BitsWhere (λ k. eqb (suc k) v) one → not (eqb (bit_and a one) 0) ≡ in_word v a
common_bit a one v small at = go (in_word v a) refl
  where
    apart : in_word v a ≡ false → (k : ℕ) → k < width → (bit k a && bit k one) ≡ false
    apart e k h = let here = at k h in grind (arith, nat_tests)

    go : (b : Bool) → in_word v a ≡ b → not (eqb (bit_and a one) 0) ≡ b
    go true e =
        let parts = and_parts (one_to width v) (bit (v - 1) a) e in
        let ranged : one_to width v ≡ true = parts.0 in
        let place : (v - 1 < width) × (suc (v - 1) ≡ v) = grind (arith, nat_tests) in
        let here = at (v - 1) place.0 ∙ eq-eqb (suc (v - 1)) v place.1 in
        let on = bit-and (v - 1) a one ∙ and_from (bit (v - 1) a) (bit (v - 1) one) parts.1 here in
        ap not (ne_eqb (bit_and a one) 0 (λ none. both_ways (bit (v - 1) (bit_and a one)) (ap (bit (v - 1)) none ∙ bit-zero (v - 1)) on))
    go false e =
        let low : bit_and a one < 2 ^ width = omega (arith, and_le_l a one) in
        ap not (eq-eqb (bit_and a one) 0 (same_bits (bit_and a one) 0 low (omega arith) (λ k h. bit-and k a one ∙ apart e k h ∙ sym (bit-zero k))))
