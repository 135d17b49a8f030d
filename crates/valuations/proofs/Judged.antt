-- Broken clauses and the bar as words. Assumes nothing.
use Rattle.std.proofs.Common.{◌≡◌, ℕ, ◌-◌, ◌^◌, ◌<◌, Bool, true, false, cond, not, ◌&&◌, ◌||◌, eqb, ltb, sym, refl, ap, ◌∙◌, ap₂, arith}
use mathlib.Core.Bool.{and-true, not-not}
use lib.Bits.{bit_and, bit_or, and_le_l, or_lt}
use Rattle.std.proofs.lemmas.Bool.{and_right}
use Rattle.words.specs.Bits.{width, bit, BitsWhere}
use Rattle.words.proofs.Bits.{bit-without, bit-and, bit-or, zero_bits, every-same}
use Rattle.clauses.specs.declared.clause.Clause.{Clause}
use Rattle.clauses.specs.declared.value.Value.{Value}
use Rattle.clauses.specs.Values.{Values, is_true, is_false}
use Rattle.clauses.specs.Clauses.{sign, blank, false_at, broken, bar}
use Rattle.clauses.specs.Words.{signs}
use Rattle.clauses.proofs.Listed.{broken-listed}
use Rattle.clauses.proofs.Words.{sign_of, signs-listed, signs_by}

de_morgan : (p x q y : Bool) → not ((p && not x) || (q && not y)) ≡ ((not p || x) && (not q || y))
de_morgan true true true y = not-not y
de_morgan true true false y = refl
de_morgan true false q y = refl
de_morgan false x true y = not-not y
de_morgan false x false y = refl

pub broken_words : (m : Values) (c : Clause) (t f : ℕ) → c.pos < 2 ^ width → c.neg < 2 ^ width → t < 2 ^ width → f < 2 ^ width
    → BitsWhere (λ k. is_true (m k)) t → BitsWhere (λ k. is_false (m k)) f
    → eqb (bit_or (bit_and c.pos (2 ^ width - 1 - f)) (bit_and c.neg (2 ^ width - 1 - t))) 0 ≡ broken m (signs c)
broken_words m c t f ps qs ts fs true_at false_at =
    let x = bit_and c.pos (2 ^ width - 1 - f) in
    let y = bit_and c.neg (2 ^ width - 1 - t) in
    let small : bit_or x y < 2 ^ width = or_lt width x y (omega (arith, and_le_l c.pos (2 ^ width - 1 - f))) (omega (arith, and_le_l c.neg (2 ^ width - 1 - t))) in
    zero_bits (bit_or x y) small
    ∙ every-same width _ _ (λ k h.
    ap not (bit-or k x y
    ∙ ap₂ ◌||◌ (bit-without k c.pos f h fs ∙ ap (λ (b : Bool). bit k c.pos && not b) (false_at k h))
    (bit-without k c.neg t h ts ∙ ap (λ (b : Bool). bit k c.neg && not b) (true_at k h)))
    ∙ de_morgan (bit k c.pos) (is_false (m k)) (bit k c.neg) (is_true (m k)))
    ∙ sym (ap (broken m) (signs-listed c) ∙ broken-listed width m (sign_of c))

-- ---- the bar

barred : (b : Bool) (x : Value) → sign (is_false x && b) (is_true x && b) ≡ cond b (sign (is_false x) (is_true x)) blank
barred true x = ap₂ sign (and-true (is_false x)) (and-true (is_true x))
barred false x = ap₂ sign (and_right (is_false x) false refl) (and_right (is_true x) false refl)

pub bar_words : (n : ℕ) (m : Values) (t f mask : ℕ)
    → BitsWhere (λ k. is_true (m k)) t → BitsWhere (λ k. is_false (m k)) f → BitsWhere (λ k. ltb k n) mask
    → signs (record { pos = bit_and f mask; neg = bit_and t mask }) ≡ bar n m
unfolding bar
bar_words n m t f mask true_at false_at low =
    signs_by _ _ (λ k h. ap₂ sign (bit-and k f mask ∙ ap₂ ◌&&◌ (false_at k h) (low k h)) (bit-and k t mask ∙ ap₂ ◌&&◌ (true_at k h) (low k h)) ∙ barred (ltb k n) (m k))
