-- Clauses that are given place by place. Assumes nothing.
use Rattle.std.proofs.Common.{◌≡◌, ℕ, zero, suc, ◌+◌, ◌<◌, ◌≤◌, Bool, true, false, cond, ◌&&◌, eqb, List, ◌∷◌, length, pos, negsuc, refl, ap, ◌∙◌, ap₂, arith}
use lib.Dec.{eqb-zero-suc, eqb-suc-zero, eqb-suc-suc}
use Rattle.words.specs.Bits.{bit, later, every, listed, keep, numbers}
use Rattle.words.proofs.Variables.{listed_same}
use Rattle.clauses.specs.Values.{Values, truths}
use Rattle.clauses.specs.Clauses.{Sign, Signs, blank, one_way, clean, holds_plus, holds_minus, sign_at, literals_from, false_at, broken, same_sign, same, opposed, clashes_from, either, union, changed}

pub length-listed : {X : Type 0} (n : ℕ) (f : ℕ → X) → length (listed n f) ≡ n
length-listed zero f = refl
length-listed (suc n) f = ap suc (length-listed n (later f))

-- an assignment of n variables
pub length_truths : (n word : ℕ) → length (truths n word) ≡ n
unfolding truths
length_truths n word = length-listed n (λ k. bit k word)

pub sign-listed : (w : ℕ) (f : ℕ → Sign) (k : ℕ) → k < w → sign_at (listed w f) k ≡ f k
sign-listed zero f k h = absurd (omega arith)
sign-listed (suc w) f zero h = refl
sign-listed (suc w) f (suc k) h = sign-listed w (later f) k (omega arith)

pub blank_past : (w : ℕ) (f : ℕ → Sign) (k : ℕ) → w ≤ k → sign_at (listed w f) k ≡ blank
blank_past zero f k h = refl
blank_past (suc w) f zero h = absurd (omega arith)
blank_past (suc w) f (suc k) h = blank_past w (later f) k (omega arith)

pub broken-listed : (w : ℕ) (m : Values) (f : ℕ → Sign) → broken m (listed w f) ≡ every w (λ k. false_at (f k) (m k))
broken-listed zero m f = refl
broken-listed (suc w) m f = ap (λ (b : Bool). false_at (f 0) (m 0) && b) (broken-listed w (later m) (later f))

pub clean-listed : (w : ℕ) (f : ℕ → Sign) → clean (listed w f) ≡ every w (λ k. one_way (f k))
clean-listed zero f = refl
clean-listed (suc w) f = ap (λ (b : Bool). one_way (f 0) && b) (clean-listed w (later f))

pub same-listed : (w : ℕ) (f g : ℕ → Sign) → same (listed w f) (listed w g) ≡ every w (λ k. same_sign (f k) (g k))
same-listed zero f g = refl
same-listed (suc w) f g = ap (λ (b : Bool). same_sign (f 0) (g 0) && b) (same-listed w (later f) (later g))

pub union-listed : (w : ℕ) (f g : ℕ → Sign) → union (listed w f) (listed w g) ≡ listed w (λ k. either (f k) (g k))
union-listed zero f g = refl
union-listed (suc w) f g = ap (λ (c : Signs). either (f 0) (g 0) ∷ c) (union-listed w (later f) (later g))

pub changed-listed : (w j : ℕ) (h : Sign → Sign) (f : ℕ → Sign) → changed j h (listed w f) ≡ listed w (λ k. cond (eqb k j) (h (f k)) (f k))
changed-listed zero j h f = refl
changed-listed (suc w) zero h f =
    ap (λ (c : Signs). h (f 0) ∷ c) (listed_same w (later f) (λ k. cond (eqb (suc k) 0) (h (f (suc k))) (f (suc k))) (λ k _. rw (eqb-suc-zero k)))
changed-listed (suc w) (suc j) h f =
    let next : (k : ℕ) → k < w → cond (eqb k j) (h (f (suc k))) (f (suc k)) ≡ cond (eqb (suc k) (suc j)) (h (f (suc k))) (f (suc k)) = λ k _. rw (eqb-suc-suc k j) in
    ap₂ {C = Signs} ◌∷◌ (rw (eqb-zero-suc j)) (changed-listed w j h (later f) ∙ listed_same w _ _ next)

pub clashes-listed : (w v : ℕ) (f g : ℕ → Sign) → clashes_from v (listed w f) (listed w g) ≡ numbers v w (λ k. opposed (f k) (g k))
clashes-listed zero v f g = refl
clashes-listed (suc w) v f g = ap (keep (opposed (f 0) (g 0)) v) (clashes-listed w (suc v) (later f) (later g))

length-keep : {A : Type 0} (p : Bool) (x : A) (xs : List A) → length (keep p x xs) ≡ cond p 1 0 + length xs
length-keep true x xs = omega arith
length-keep false x xs = omega arith

-- v and -v are counted apart
pub size-listed : (w i k : ℕ) (f : ℕ → Sign)
    → length (literals_from k (listed w f)) ≡ length (numbers i w (λ j. holds_plus (f j))) + length (numbers i w (λ j. holds_minus (f j)))
size-listed zero i k f = refl
size-listed (suc w) i k f =
    let rest = size-listed w (suc i) (suc k) (later f) in
    let plus = length-keep (holds_plus (f 0)) i (numbers (suc i) w (λ j. holds_plus (f (suc j)))) in
    let minus = length-keep (holds_minus (f 0)) i (numbers (suc i) w (λ j. holds_minus (f (suc j)))) in
    let both = length-keep (holds_plus (f 0)) (pos (suc k)) (keep (holds_minus (f 0)) (negsuc k) (literals_from (suc k) (listed w (later f)))) in
    let one = length-keep (holds_minus (f 0)) (negsuc k) (literals_from (suc k) (listed w (later f))) in
    omega arith
