-- Two clauses as words: where they clash, and what is left of both; and
-- whether one holds a variable both ways. Assumes nothing.
use Rattle.std.proofs.Common.{◌≡◌, ℕ, zero, suc, ◌-◌, ◌^◌, ◌<◌, Bool, true, not, ◌&&◌, ◌||◌, eqb, pos, neg_ℤ, sym, ap, ◌∙◌, ap₂, arith}
use mathlib.Core.Bool.{and-true}
use lib.Bits.{bit_and, bit_or, and_le_l}
use lib.Dec.{eqb-suc-zero, eqb-suc-suc}
use Rattle.words.specs.Bits.{width, bit, BitsWhere, listed, variables}
use Rattle.words.proofs.Bits.{bit-without, bit-and, bit-or, zero_bits, every-same}
use Rattle.words.proofs.Variables.{variables_where}
use Rattle.clauses.specs.declared.clause.Clause.{Clause}
use Rattle.clauses.specs.Clauses.{Sign, sign, Signs, clean, opposed, clashes, either, union, without, resolvent}
use Rattle.clauses.specs.Words.{signs}
use Rattle.clauses.proofs.Listed.{union-listed, clashes-listed, clean-listed}
use Rattle.clauses.proofs.Words.{sign_of, signs-listed, signs_by, less, lone, without-listed}

pub clash_words : (a b : Clause) → variables (bit_or (bit_and a.pos b.neg) (bit_and a.neg b.pos)) ≡ clashes (signs a) (signs b)
clash_words a b =
    variables_where (λ k. opposed (sign_of a k) (sign_of b k)) _
    (λ k _. bit-or k (bit_and a.pos b.neg) (bit_and a.neg b.pos) ∙ ap₂ ◌||◌ (bit-and k a.pos b.neg) (bit-and k a.neg b.pos))
    ∙ sym (ap₂ clashes (signs-listed a) (signs-listed b) ∙ clashes-listed width 1 (sign_of a) (sign_of b))

pub clean-words : (c : Clause) → c.pos < 2 ^ width → eqb (bit_and c.pos c.neg) 0 ≡ clean (signs c)
clean-words c small =
    zero_bits (bit_and c.pos c.neg) (omega (arith, and_le_l c.pos c.neg))
    ∙ every-same width _ _ (λ k _. ap not (bit-and k c.pos c.neg))
    ∙ sym (ap clean (signs-listed c) ∙ clean-listed width (sign_of c))

-- ---- the resolvent

-- v and -v are taken off one after the other, or both at once
both_off : (v k : ℕ) (x y : Bool) → sign (x && not (eqb (suc k) v)) (y && not (eqb (suc k) v)) ≡ less (less (sign x y) (lone (neg_ℤ (pos v)) k)) (lone (pos v) k)
both_off zero k x y =
    let e = eqb-suc-zero k in
    rw e (sym (ap₂ sign (and-true (x && true)) (and-true (y && true))))
both_off (suc j) k x y =
    ap₂ sign (ap (λ (z : Bool). z && not (eqb (suc k) (suc j))) (sym (and-true x))) (ap (λ (b : Bool). y && not b) (eqb-suc-suc k j) ∙ sym (and-true (y && not (eqb k j))))

pub resolvent-words : (a b : Clause) (v one : ℕ) → one < 2 ^ width → BitsWhere (λ k. eqb (suc k) v) one
    → signs (record { pos = bit_and (bit_or a.pos b.pos) (2 ^ width - 1 - one); neg = bit_and (bit_or a.neg b.neg) (2 ^ width - 1 - one) })
    ≡ resolvent v (signs a) (signs b)
resolvent-words a b v one small at =
    let off : (x y k : ℕ) → k < width → bit k (bit_and (bit_or x y) (2 ^ width - 1 - one)) ≡ ((bit k x || bit k y) && not (eqb (suc k) v)) =
    λ x y k h. bit-without k (bit_or x y) one h small ∙ ap₂ (λ (p q : Bool). p && not q) (bit-or k x y) (at k h) in
    let f : ℕ → Sign = λ k. either (sign_of a k) (sign_of b k) in
    let u : union (signs a) (signs b) ≡ listed width f = ap₂ union (signs-listed a) (signs-listed b) ∙ union-listed width (sign_of a) (sign_of b) in
    signs_by _ _ (λ k h. ap₂ sign (off a.pos b.pos k h) (off a.neg b.neg k h) ∙ both_off v k _ _)
    ∙ sym (ap (λ (c : Signs). without (pos v) (without (neg_ℤ (pos v)) c)) u ∙ ap (without (pos v)) (without-listed width (neg_ℤ (pos v)) f) ∙ without-listed width (pos v) (λ k. less (f k) (lone (neg_ℤ (pos v)) k)))
