-- What two words say as a clause, bit by bit. Assumes nothing.
use Rattle.std.proofs.Common.{◌≡◌, ℕ, zero, suc, ◌+◌, ◌-◌, ◌^◌, ◌<◌, ◌≤◌, Bool, true, false, cond, not, ◌&&◌, eqb, [], ◌∷◌, length, ℤ, pos, negsuc, nat_abs, sym, refl, ap, ◌∙◌, ap₂, ⊎_elim, arith}
use mathlib.Core.Bool.{and-true, or-false}
use lib.Bits.{bit_and, bit_or}
use lib.Dec.{eqb-suc-zero, eqb-suc-suc}
use lib.Signed.{lt_z}
use Rattle.std.proofs.lemmas.Int.{to_z-of_z}
use Rattle.std.proofs.lemmas.Bool.{false≢true, and_right, cases_lt, lt-ltb}
use Rattle.std.proofs.lemmas.Bool.Decides.{nat_tests}
use Rattle.words.specs.Bits.{alike, width, bit, BitsWhere, one_to, listed, variables, in_word}
use Rattle.words.proofs.Bits.{bit-without, every-and, equal_bits, in_word-bit, bit-or, bit-zero, bit_past}
use Rattle.words.proofs.Variables.{listed_same, variables_where}
use Rattle.clauses.specs.declared.clause.Clause.{Clause}
use Rattle.clauses.specs.Literals.{names, same_literal, among}
use Rattle.clauses.specs.Clauses.{Sign, sign, Signs, blank, holds_plus, holds_minus, sign_at, holds, size, same, union, no_plus, no_minus, without}
use Rattle.clauses.specs.Sets.{SetOf}
use Rattle.clauses.specs.Words.{signs}
use Rattle.clauses.proofs.Literals.{literal_eq}
use Rattle.clauses.proofs.Listed.{same-listed, sign-listed, blank_past, union-listed, changed-listed, size-listed}

abbrev pub sign_of : Clause → ℕ → Sign
sign_of c k = sign (bit k c.pos) (bit k c.neg)

pub signs-listed : (c : Clause) → signs c ≡ listed width (sign_of c)
unfolding signs
signs-listed c = refl

pub signs_by : (c : Clause) (f : ℕ → Sign) → ((k : ℕ) → k < width → sign_of c k ≡ f k) → signs c ≡ listed width f
signs_by c f at = signs-listed c ∙ listed_same width (sign_of c) f at

pub sign-here : (c : Clause) (k : ℕ) → k < width → sign_at (signs c) k ≡ sign_of c k
sign-here c k h = ap (λ (s : Signs). sign_at s k) (signs-listed c) ∙ sign-listed width (sign_of c) k h

pub sign_past : (c : Clause) (k : ℕ) → width ≤ k → sign_at (signs c) k ≡ blank
sign_past c k h = ap (λ (s : Signs). sign_at s k) (signs-listed c) ∙ blank_past width (sign_of c) k h

-- ---- both, one alone, and what is taken off

pub union_words : (a b : Clause) → signs (record { pos = bit_or a.pos b.pos; neg = bit_or a.neg b.neg }) ≡ union (signs a) (signs b)
union_words a b =
    signs_by _ _ (λ k _. ap₂ sign (bit-or k a.pos b.pos) (bit-or k a.neg b.neg))
    ∙ sym (union-listed width (sign_of a) (sign_of b)) ∙ sym (ap₂ union (signs-listed a) (signs-listed b))

-- of the numbers that name a variable, the clause of one literal holds that one alone
only_one : (x l : ℤ) → among x (cond (names width l) (l ∷ []) []) ≡ (names width x && same_literal x l)
only_one x l = go (same_literal x l) refl
  where
    itself : (n : Bool) → among l (cond n (l ∷ []) []) ≡ (n && same_literal l l)
    itself true = or-false (same_literal l l)
    itself false = refl

    other : (n : Bool) → same_literal x l ≡ false → among x (cond n (l ∷ []) []) ≡ false
    other true e = or-false (same_literal x l) ∙ e
    other false e = refl

    go : (s : Bool) → same_literal x l ≡ s → among x (cond (names width l) (l ∷ []) []) ≡ (names width x && same_literal x l)
    go true e = rw (literal_eq x l e) (itself (names width l))
    go false e = other (names width l) e ∙ sym (and_right (names width x) (same_literal x l) e)

-- the sign of a clause of one literal
abbrev pub lone : ℤ → ℕ → Sign
lone l k = sign (same_literal (pos (suc k)) l) (same_literal (negsuc k) l)

abbrev pub Unit : ℤ → Clause → Type 0
Unit l u = SetOf (cond (names width l) (l ∷ []) []) (signs u)

pub unit_signs : (u : Clause) (l : ℤ) → Unit l u → (k : ℕ) → k < width → sign_of u k ≡ lone l k
unit_signs u l set k h =
    let e = sign-here u k h in
    let named : one_to width (suc k) ≡ true = grind (arith, nat_tests) in
    ap₂ sign
    (sym (ap holds_plus e) ∙ set (pos (suc k)) ∙ only_one (pos (suc k)) l ∙ rw named refl)
    (sym (ap holds_minus e) ∙ set (negsuc k) ∙ only_one (negsuc k) l ∙ rw named refl)

pub signs_unit : (u : Clause) (l : ℤ) → ((k : ℕ) → k < width → sign_of u k ≡ lone l k) → Unit l u
signs_unit u l at x = go x
  where
    one : {b : Bool} (x : ℤ) → names width x ≡ b → (names width x && same_literal x l) ≡ (b && same_literal x l)
    one x e = ap (λ (b : Bool). b && same_literal x l) e

    here : (k : ℕ) (x : ℤ) (part : Sign → Bool) → nat_abs x ≡ suc k → holds x (signs u) ≡ part (sign_at (signs u) k) → part blank ≡ false
        → part (lone l k) ≡ same_literal x l → holds x (signs u) ≡ among x (cond (names width l) (l ∷ []) [])
    here k x part n e f g =
        ⊎_elim
        (λ h. e ∙ ap part (sign-here u k h ∙ at k h) ∙ g ∙ sym (only_one x l ∙ one x (ap (one_to width) n ∙ (let y : one_to width (suc k) ≡ true = grind (arith, nat_tests) in y))))
        (λ h. e ∙ ap part (sign_past u k h) ∙ f ∙ sym (only_one x l ∙ one x (ap (one_to width) n ∙ (let y : one_to width (suc k) ≡ false = grind (arith, nat_tests) in y))))
        (cases_lt k width)

    go : (x : ℤ) → holds x (signs u) ≡ among x (cond (names width l) (l ∷ []) [])
    go (pos zero) = sym (only_one (pos zero) l)
    go (pos (suc k)) = here k (pos (suc k)) holds_plus refl refl refl refl
    go (negsuc k) = here k (negsuc k) holds_minus refl refl refl refl

pub unit_plus : (l : ℤ) (one : ℕ) → lt_z (pos 0) l ≡ true → BitsWhere (λ k. eqb (suc k) (nat_abs l)) one → Unit l (record { pos = one; neg = 0 })
unit_plus (pos zero) one up at = absurd (false≢true up)
unit_plus (pos (suc j)) one up at = signs_unit (record { pos = one; neg = 0 }) (pos (suc j)) (λ k h. ap₂ sign (at k h) (bit-zero k))
unit_plus (negsuc j) one up at = absurd (false≢true up)

pub unit_minus : (l : ℤ) (one : ℕ) → lt_z (pos 0) l ≡ false → BitsWhere (λ k. eqb (suc k) (nat_abs l)) one → Unit l (record { pos = 0; neg = one })
unit_minus (pos zero) one down at =
    signs_unit (record { pos = 0; neg = one }) (pos zero) (λ k h. ap₂ sign (bit-zero k ∙ sym (eqb-suc-zero k)) (at k h ∙ eqb-suc-zero k))
unit_minus (pos (suc j)) one down at = absurd (false≢true (sym down ∙ lt-ltb 0 (suc j) (omega arith)))
unit_minus (negsuc j) one down at = signs_unit (record { pos = 0; neg = one }) (negsuc j) (λ k h. ap₂ sign (bit-zero k) (at k h ∙ eqb-suc-suc k j))

pub ruleset unit_words = (unit_plus, unit_minus, to_z-of_z)

plus_off : (b : Bool) (s : Sign) → cond b (no_plus s) s ≡ sign (holds_plus s && not b) (holds_minus s && true)
plus_off true (sign p q) = ap₂ sign (sym (and_right p false refl)) (sym (and-true q))
plus_off false (sign p q) = ap₂ sign (sym (and-true p)) (sym (and-true q))

minus_off : (b : Bool) (s : Sign) → cond b (no_minus s) s ≡ sign (holds_plus s && true) (holds_minus s && not b)
minus_off true (sign p q) = ap₂ sign (sym (and-true p)) (sym (and_right q false refl))
minus_off false (sign p q) = ap₂ sign (sym (and-true p)) (sym (and-true q))

-- a sign without what another has
abbrev pub less : Sign → Sign → Sign
less (sign p q) (sign r s) = sign (p && not r) (q && not s)

pub without-listed : (w : ℕ) (l : ℤ) (f : ℕ → Sign) → without l (listed w f) ≡ listed w (λ k. less (f k) (lone l k))
without-listed w (pos zero) f = listed_same w f _ (λ k _. stay (f k) k)
  where
    stay : (s : Sign) (k : ℕ) → s ≡ less s (lone (pos zero) k)
    stay (sign p q) k = ap₂ sign (sym (and-true p) ∙ ap (λ (b : Bool). p && not b) (sym (eqb-suc-zero k))) (sym (and-true q))
without-listed w (pos (suc j)) f = changed-listed w j no_plus f ∙ listed_same w _ _ (λ k _. off (f k) k)
  where
    off : (s : Sign) (k : ℕ) → cond (eqb k j) (no_plus s) s ≡ less s (lone (pos (suc j)) k)
    off (sign p q) k = plus_off (eqb k j) (sign p q) ∙ ap (λ (b : Bool). sign (p && not b) (q && true)) (sym (eqb-suc-suc k j))
without-listed w (negsuc j) f = changed-listed w j no_minus f ∙ listed_same w _ _ (λ k _. off (f k) k)
  where
    off : (s : Sign) (k : ℕ) → cond (eqb k j) (no_minus s) s ≡ less s (lone (negsuc j) k)
    off (sign p q) k = minus_off (eqb k j) (sign p q)

pub without_words : (c u : Clause) (l : ℤ) → u.pos < 2 ^ width → u.neg < 2 ^ width → Unit l u
    → signs (record { pos = bit_and c.pos (2 ^ width - 1 - u.pos); neg = bit_and c.neg (2 ^ width - 1 - u.neg) }) ≡ without l (signs c)
without_words c u l small small' set =
    signs_by _ _ (λ k h. ap₂ sign (bit-without k c.pos u.pos h small) (bit-without k c.neg u.neg h small') ∙ ap (less (sign_of c k)) (unit_signs u l set k h))
    ∙ sym (ap (without l) (signs-listed c) ∙ without-listed width l (sign_of c))

pub ruleset without_rules = (without_words, to_z-of_z)

-- ---- what it holds

pub holds_plus-bit : (c : Clause) (k : ℕ) → c.pos < 2 ^ width → holds (pos (suc k)) (signs c) ≡ bit k c.pos
holds_plus-bit c k small =
    ⊎_elim (λ h. ap holds_plus (sign-here c k h)) (λ h. ap holds_plus (sign_past c k h) ∙ sym (bit_past k c.pos small h)) (cases_lt k width)

pub holds_minus-bit : (c : Clause) (k : ℕ) → c.neg < 2 ^ width → holds (negsuc k) (signs c) ≡ bit k c.neg
holds_minus-bit c k small =
    ⊎_elim (λ h. ap holds_minus (sign-here c k h)) (λ h. ap holds_minus (sign_past c k h) ∙ sym (bit_past k c.neg small h)) (cases_lt k width)

pub has-plus : (c : Clause) (l : ℤ) → c.pos < 2 ^ width → lt_z (pos 0) l ≡ true → in_word (nat_abs l) c.pos ≡ holds l (signs c)
has-plus c (pos zero) small up = absurd (false≢true up)
has-plus c (pos (suc k)) small up = in_word-bit k c.pos small ∙ sym (holds_plus-bit c k small)
has-plus c (negsuc k) small up = absurd (false≢true up)

pub has-minus : (c : Clause) (l : ℤ) → c.neg < 2 ^ width → lt_z (pos 0) l ≡ false → in_word (nat_abs l) c.neg ≡ holds l (signs c)
has-minus c (pos zero) small down = refl
has-minus c (pos (suc k)) small down = absurd (false≢true (sym down ∙ lt-ltb 0 (suc k) (omega arith)))
has-minus c (negsuc k) small down = in_word-bit k c.neg small ∙ sym (holds_minus-bit c k small)

pub ruleset holds_words = (has-plus, has-minus, to_z-of_z)

-- ---- its length

pub length_words : (c : Clause) → size (signs c) ≡ length (variables c.pos) + length (variables c.neg)
length_words c =
    ap size (signs-listed c) ∙ size-listed width 1 0 (sign_of c)
    ∙ sym (ap₂ ◌+◌ (ap length (variables_where (λ k. bit k c.pos) c.pos (λ k _. refl))) (ap length (variables_where (λ k. bit k c.neg) c.neg (λ k _. refl))))

-- ---- the same clause

pub same_words : (a b : Clause) → a.pos < 2 ^ width → b.pos < 2 ^ width → a.neg < 2 ^ width → b.neg < 2 ^ width
    → (eqb a.pos b.pos && eqb a.neg b.neg) ≡ same (signs a) (signs b)
same_words a b ap bp an bn =
    ap₂ ◌&&◌ (equal_bits a.pos b.pos ap bp) (equal_bits a.neg b.neg an bn)
    ∙ sym (every-and width (λ k. alike (bit k a.pos) (bit k b.pos)) (λ k. alike (bit k a.neg) (bit k b.neg))) ∙ sym (same-listed width (sign_of a) (sign_of b)) ∙ sym (ap₂ same (signs-listed a) (signs-listed b))
