-- Valuations that agree on the variables of a clause judge it alike. Assumes nothing.
use Rattle.std.proofs.Common.{◌≡◌, ℕ, zero, suc, ◌<◌, ◌≤◌, Bool, true, false, ◌&&◌, ◌||◌, [], ◌∷◌, ℤ, pos, negsuc, nat_abs, sym, refl, ap, ap₂, arith}
use Rattle.std.proofs.lemmas.Bool.{false≢true, and_parts, and_from, lt-ltb}
use Rattle.words.specs.Bits.{width, bit, later, listed}
use Rattle.clauses.specs.declared.value.Value.{Value}
use Rattle.clauses.specs.Values.{Values, is_true, contrary, valued, assigned, full}
use Rattle.clauses.specs.Literals.{value_of}
use Rattle.clauses.specs.Clauses.{Sign, sign, Signs, absent, holds, within, true_at, false_at, meets, broken, changed, no_plus, no_minus, without, critical}
use Rattle.clauses.proofs.Literals.{within-holds}
use Rattle.clause_laws.specs.Laws.{JudgedAlike}

abbrev Agree : ℕ → Values → Values → Type 0
Agree n m m' = (k : ℕ) → k < n → m k ≡ m' k

absent-true : (s : Sign) (x y : Value) → absent s ≡ true → true_at s x ≡ true_at s y
absent-true (sign true q) x y e = absurd (false≢true e)
absent-true (sign false true) x y e = absurd (false≢true e)
absent-true (sign false false) x y e = refl

absent-false : (s : Sign) (x y : Value) → absent s ≡ true → false_at s x ≡ false_at s y
absent-false (sign true q) x y e = absurd (false≢true e)
absent-false (sign false true) x y e = absurd (false≢true e)
absent-false (sign false false) x y e = refl

meets-alike : (n : ℕ) (m m' : Values) (c : Signs) → within n c ≡ true → Agree n m m' → meets m c ≡ meets m' c
meets-alike n m m' [] w same = refl
meets-alike zero m m' (s ∷ c) w same =
    let p = and_parts (absent s) (within zero c) w in
    ap₂ {C = Bool} (λ x y. x || y) (absent-true s (m 0) (m' 0) p.0) (meets-alike zero (later m) (later m') c p.1 (λ k h. absurd (omega arith)))
meets-alike (suc n) m m' (s ∷ c) w same =
    ap₂ {C = Bool} (λ x y. true_at s x || y) (same 0 (omega arith)) (meets-alike n (later m) (later m') c w (λ k h. same (suc k) (omega arith)))

broken-alike : (n : ℕ) (m m' : Values) (c : Signs) → within n c ≡ true → Agree n m m' → broken m c ≡ broken m' c
broken-alike n m m' [] w same = refl
broken-alike zero m m' (s ∷ c) w same =
    let p = and_parts (absent s) (within zero c) w in
    ap₂ {C = Bool} (λ x y. x && y) (absent-false s (m 0) (m' 0) p.0) (broken-alike zero (later m) (later m') c p.1 (λ k h. absurd (omega arith)))
broken-alike (suc n) m m' (s ∷ c) w same =
    ap₂ {C = Bool} (λ x y. false_at s x && y) (same 0 (omega arith)) (broken-alike n (later m) (later m') c w (λ k h. same (suc k) (omega arith)))

-- ---- critical

within-changed : (n k : ℕ) (f : Sign → Sign) → ((s : Sign) → absent s ≡ true → absent (f s) ≡ true) → (c : Signs) → within n c ≡ true → within n (changed k f c) ≡ true
within-changed n k f keeps [] w = refl
within-changed zero zero f keeps (s ∷ c) w =
    let p = and_parts (absent s) (within zero c) w in
    and_from (absent (f s)) (within zero c) (keeps s p.0) p.1
within-changed zero (suc k) f keeps (s ∷ c) w =
    let p = and_parts (absent s) (within zero c) w in
    and_from (absent s) (within zero (changed k f c)) p.0 (within-changed zero k f keeps c p.1)
within-changed (suc n) zero f keeps (s ∷ c) w = w
within-changed (suc n) (suc k) f keeps (s ∷ c) w = within-changed n k f keeps c w

plus-absent : (s : Sign) → absent s ≡ true → absent (no_plus s) ≡ true
plus-absent (sign true q) e = absurd (false≢true e)
plus-absent (sign false q) e = e

minus-absent : (s : Sign) → absent s ≡ true → absent (no_minus s) ≡ true
minus-absent (sign true q) e = absurd (false≢true e)
minus-absent (sign false q) e = refl

within-without : (n : ℕ) (l : ℤ) (c : Signs) → within n c ≡ true → within n (without l c) ≡ true
within-without n (pos zero) c w = w
within-without n (pos (suc k)) c w = within-changed n k no_plus plus-absent c w
within-without n (negsuc k) c w = within-changed n k no_minus minus-absent c w

value_alike : (n : ℕ) (m m' : Values) (l : ℤ) → nat_abs l ≤ n → Agree n m m' → value_of m l ≡ value_of m' l
value_alike n m m' (pos zero) h same = refl
value_alike n m m' (pos (suc k)) h same = same k (omega arith)
value_alike n m m' (negsuc k) h same = ap contrary (same k (omega arith))

critical-alike : (n : ℕ) (m m' : Values) (c : Signs) → within n c ≡ true → Agree n m m' → (l : ℤ) → critical m l c ≡ critical m' l c
critical-alike n m m' c w same l =
    ap₂ {C = Bool} (λ x y. x && y) (go (holds l c) refl) (broken-alike n m m' (without l c) (within-without n l c w) same)
  where
    go : (b : Bool) → holds l c ≡ b → (b && is_true (value_of m l)) ≡ (b && is_true (value_of m' l))
    go true e = ap is_true (value_alike n m m' l (within-holds n c w l e) same)
    go false e = refl

pub agreeing : (n : ℕ) (c : Signs) → within n c ≡ true → (m m' : Values) → Agree n m m' → JudgedAlike m m' c
agreeing n c w m m' same = (meets-alike n m m' c w same, broken-alike n m m' c w same, critical-alike n m m' c w same)

assigned-listed : (n k : ℕ) (f : ℕ → Bool) → k < n → assigned (listed n f) k ≡ valued (f k)
assigned-listed zero k f h = absurd (omega arith)
assigned-listed (suc n) zero f h = refl
assigned-listed (suc n) (suc k) f h = assigned-listed n k (later f) (omega arith)

-- a word and its first n bits give each of the variables 1 to n one value
pub full-listed : (n k word : ℕ) → n ≤ width → k < n → full word k ≡ assigned (listed n (λ j. bit j word)) k
full-listed n k word few h = rw (lt-ltb k width (omega arith)) (sym (assigned-listed n k (λ j. bit j word) h))

pub word_assignment : (n : ℕ) (c : Signs) → within n c ≡ true → (word : ℕ) → n ≤ width → JudgedAlike (full word) (assigned (listed n (λ k. bit k word))) c
word_assignment n c w word few = agreeing n c w (full word) (assigned (listed n (λ k. bit k word))) (λ k h. full-listed n k word few h)
