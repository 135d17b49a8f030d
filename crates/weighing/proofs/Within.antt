-- A clause's variables tested by words. Assumes nothing.
use Rattle.std.proofs.Common.{◌≡◌, ℕ, zero, suc, ◌-◌, ◌^◌, ◌<◌, Bool, true, false, not, ◌&&◌, ◌||◌, eqb, ltb, List, refl, sym, ap, ap₂, ◌∙◌, arith}
use mathlib.Core.Bool.{or-true}
use lib.Bits.{bit_and, bit_or, and_le_l, or_lt}
use Rattle.std.specs.List.{list_all}
use Rattle.std.proofs.lemmas.Bool.Decides.{nat_tests}
use Rattle.lines.proofs.Stated.{all-clauses}
use Rattle.words.specs.Bits.{width, bit, BitsWhere, later, every, listed}
use Rattle.words.proofs.Bits.{bit-or, bit-without, zero_bits, every-same}
use Rattle.clauses.specs.declared.clause.Clause.{Clause}
use Rattle.clauses.specs.Clauses.{Sign, absent, within}
use Rattle.clauses.specs.Words.{signs}
use Rattle.clauses.proofs.Words.{sign_of, signs-listed}
use Rattle.lines.specs.declared.line.Line.{Line}
use Rattle.lines.specs.Lines.{clause_of, clauses}

-- at each place the clause has no variable, or one of the first n
within-listed : (n w : ℕ) (f : ℕ → Sign) → within n (listed w f) ≡ every w (λ k. ltb k n || absent (f k))
within-listed n zero f = refl
within-listed zero (suc w) f =
    ap₂ {C = Bool} (λ x y. x && y) (sym (none 0 (absent (f 0))))
    (within-listed zero w (later f) ∙ every-same w _ _ (λ k _. none k (absent (f (suc k))) ∙ sym (none (suc k) (absent (f (suc k))))))
  where
    none : (k : ℕ) (b : Bool) → (ltb k 0 || b) ≡ b
    none k b = let e : ltb k 0 ≡ false = grind (arith, nat_tests) in rw e refl
within-listed (suc n) (suc w) f =
    let e : ltb 0 (suc n) ≡ true = grind (arith, nat_tests) in
    rw e (within-listed n w (later f) ∙ every-same w _ _ (λ k _. ap (λ b. b || absent (f (suc k))) (next k)))
  where
    next : (k : ℕ) → ltb k n ≡ ltb (suc k) (suc n)
    next k = grind (arith, nat_tests)

-- one place as the words have it
outside : (p q l : Bool) → not ((p || q) && not l) ≡ (l || (not p && not q))
outside true q true = refl
outside true q false = refl
outside false true true = refl
outside false true false = refl
outside false false l = sym (or-true l)

-- no variable is outside the first n
pub within_words : (c : Clause) (n mask : ℕ) → c.pos < 2 ^ width → c.neg < 2 ^ width → mask < 2 ^ width → BitsWhere (λ k. ltb k n) mask
    → eqb (bit_and (bit_or c.pos c.neg) (2 ^ width - 1 - mask)) 0 ≡ within n (signs c)
within_words c n mask ps qs ms low =
    let x = bit_or c.pos c.neg in
    let s : x < 2 ^ width = or_lt width c.pos c.neg ps qs in
    zero_bits (bit_and x (2 ^ width - 1 - mask)) (omega (arith, and_le_l x (2 ^ width - 1 - mask)))
    ∙ every-same width _ _ (λ k h. ap not (bit-without k x mask h ms ∙ ap₂ {C = Bool} (λ a b. a && not b) (bit-or k c.pos c.neg) (low k h)) ∙ outside (bit k c.pos) (bit k c.neg) (ltb k n))
    ∙ sym (ap (within n) (signs-listed c) ∙ within-listed n width (sign_of c))

-- clause by clause, line by line
pub all_lines : (n : ℕ) (ls : List Line) → list_all (within n) (clauses ls) ≡ list_all (λ l. within n (clause_of l)) ls
all_lines n ls = all-clauses (within n) ls
