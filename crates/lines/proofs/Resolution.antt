-- What meets two clauses meets what is made of them. Assumes nothing.
use Rattle.std.proofs.Common.{◌≡◌, ℕ, zero, suc, ◌+◌, Bool, true, false, not, ◌&&◌, ◌||◌, List, [], ◌∷◌, pos, neg_ℤ, Some, sym, refl, ap, ◌∙◌, ap₂, ⊎_elim, arith}
use mathlib.Core.Bool.{and_comm, or_comm}
use Rattle.std.proofs.lemmas.Bool.{false≢true, and_parts, or_cases, or_left, or_right, or_from}
use Rattle.words.proofs.Bits.{alike_same}
use Rattle.words.specs.Bits.{alike, later, keep, sole}
use Rattle.clauses.specs.declared.value.Value.{Value}
use Rattle.clauses.specs.declared.value.Value.TheVariants.{True, False, Unset}
use Rattle.clauses.specs.Values.{Values, is_true, is_false}
use Rattle.clauses.specs.Clauses.{Sign, sign, Signs, absent, one_way, holds_plus, holds_minus, sign_at, holds, empty, clean, true_at, meets, same_sign, same, inside, included, opposed, clash_in, clashes_from, clashes, either, union, without, resolvent}

or_weaker : (x y z w : Bool) → (x ≡ true → z ≡ true) → (y ≡ true → w ≡ true) → (x || y) ≡ true → (z || w) ≡ true
or_weaker true y z w f g h = or_left z w (f refl)
or_weaker false y z w f g h = or_right z w (g h)

-- ---- the empty clause

absent-true : (s : Sign) (x : Value) → absent s ≡ true → true_at s x ≡ false
absent-true (sign false false) x e = refl
absent-true (sign false true) x e = absurd (false≢true e)
absent-true (sign true q) x e = absurd (false≢true e)

pub empty-meets : (c : Signs) (m : Values) → empty c ≡ true → meets m c ≡ false
empty-meets [] m e = refl
empty-meets (s ∷ c) m e =
    let p = and_parts (absent s) (empty c) e in
    or_from (true_at s (m 0)) (meets (later m) c) (absent-true s (m 0) p.0) (empty-meets c (later m) p.1)

-- ---- the same clause

pub same-signs : (s t : Sign) → same_sign s t ≡ true → s ≡ t
same-signs (sign p q) (sign r u) e =
    let k = and_parts (alike p r) (alike q u) e in
    ap₂ {C = Sign} (λ x y. sign x y) (alike_same p r k.0) (alike_same q u k.1)

pub same_meets : (c d : Signs) (m : Values) → same c d ≡ true → meets m c ≡ meets m d
same_meets [] d m e = sym (empty-meets d m e)
same_meets (s ∷ c) [] m e = empty-meets (s ∷ c) m e
same_meets (s ∷ c) (t ∷ d) m e =
    let p = and_parts (same_sign s t) (same c d) e in
    ap₂ {C = Bool} (λ x y. true_at x (m 0) || y) (same-signs s t p.0) (same_meets c d (later m) p.1)

-- ---- a wider clause

implied : (p r x : Bool) → (not p || r) ≡ true → (p && x) ≡ true → (r && x) ≡ true
implied true true x e h = h
implied true false x e h = absurd (false≢true e)
implied false r x e h = absurd (false≢true h)

inside-true : (s t : Sign) (x : Value) → inside s t ≡ true → true_at s x ≡ true → true_at t x ≡ true
inside-true (sign p q) (sign r u) x e h =
    let k = and_parts (not p || r) (not q || u) e in
    or_weaker (p && is_true x) (q && is_false x) (r && is_true x) (u && is_false x)
    (implied p r (is_true x) k.0) (implied q u (is_false x) k.1) h

pub widening_sound : (c d : Signs) (m : Values) → included c d ≡ true → meets m c ≡ true → meets m d ≡ true
widening_sound [] d m e h = absurd (false≢true h)
widening_sound (s ∷ c) [] m e h = sym (empty-meets (s ∷ c) m e) ∙ h
widening_sound (s ∷ c) (t ∷ d) m e h =
    let p = and_parts (inside s t) (included c d) e in
    or_weaker (true_at s (m 0)) (meets (later m) c) (true_at t (m 0)) (meets (later m) d)
    (inside-true s t (m 0) p.0) (widening_sound c d (later m) p.1) h

-- ---- the parents' order

either_order : (s t : Sign) → either s t ≡ either t s
either_order (sign p q) (sign r u) = ap₂ {C = Sign} (λ x y. sign x y) (or_comm p r) (or_comm q u)

union_order : (c d : Signs) → union c d ≡ union d c
union_order [] [] = refl
union_order [] (t ∷ d) = refl
union_order (s ∷ c) [] = refl
union_order (s ∷ c) (t ∷ d) = ap₂ {C = Signs} (λ x y. x ∷ y) (either_order s t) (union_order c d)

pub resolvent_order : (v : ℕ) (c d : Signs) → resolvent v c d ≡ resolvent v d c
resolvent_order v c d = ap (λ x. without (pos v) (without (neg_ℤ (pos v)) x)) (union_order c d)

ways_order : (p q r u : Bool) → ((p && u) || (q && r)) ≡ ((r && q) || (u && p))
ways_order p q r u = or_comm (p && u) (q && r) ∙ ap₂ {C = Bool} (λ x y. x || y) (and_comm q r) (and_comm p u)

pub clash_order : (v : ℕ) (c d : Signs) → clash_in v c d ≡ clash_in v d c
clash_order v c d = ways_order (holds (pos v) c) (holds (neg_ℤ (pos v)) c) (holds (pos v) d) (holds (neg_ℤ (pos v)) d)

-- ---- the literals of both

inside-either : (s t : Sign) → inside s (either s t) ≡ true
inside-either (sign true true) (sign r u) = refl
inside-either (sign true false) (sign r u) = refl
inside-either (sign false true) (sign r u) = refl
inside-either (sign false false) (sign r u) = refl

first-true : (s t : Sign) (x : Value) → true_at s x ≡ true → true_at (either s t) x ≡ true
first-true s t x h = inside-true s (either s t) x (inside-either s t) h

second_true : (s t : Sign) (x : Value) → true_at t x ≡ true → true_at (either s t) x ≡ true
second_true s t x h = rw (either_order s t) (first-true t s x h)

first-meets : (c d : Signs) (m : Values) → meets m c ≡ true → meets m (union c d) ≡ true
first-meets [] d m h = absurd (false≢true h)
first-meets (s ∷ c) [] m h = h
first-meets (s ∷ c) (t ∷ d) m h =
    or_weaker (true_at s (m 0)) (meets (later m) c) (true_at (either s t) (m 0)) (meets (later m) (union c d))
    (first-true s t (m 0)) (first-meets c d (later m)) h

second_meets : (c d : Signs) (m : Values) → meets m d ≡ true → meets m (union c d) ≡ true
second_meets c d m h = rw (union_order c d) (first-meets d c m h)

-- ---- the resolvent

-- At a place where two clauses clash, no value meets both.
opposed-true :
    (s t : Sign) (x : Value) → one_way s ≡ true → one_way t ≡ true → opposed s t ≡ true
    → true_at s x ≡ true → true_at t x ≡ true → ⊥
opposed-true (sign true true) t x a b e h k = false≢true a
opposed-true (sign true false) (sign true true) x a b e h k = false≢true b
opposed-true (sign true false) (sign true false) x a b e h k = false≢true e
opposed-true (sign true false) (sign false true) True a b e h k = false≢true k
opposed-true (sign true false) (sign false true) False a b e h k = false≢true h
opposed-true (sign true false) (sign false true) Unset a b e h k = false≢true h
opposed-true (sign true false) (sign false false) x a b e h k = false≢true e
opposed-true (sign false true) (sign true true) x a b e h k = false≢true b
opposed-true (sign false true) (sign true false) True a b e h k = false≢true h
opposed-true (sign false true) (sign true false) False a b e h k = false≢true k
opposed-true (sign false true) (sign true false) Unset a b e h k = false≢true h
opposed-true (sign false true) (sign false u) x a b e h k = false≢true e
opposed-true (sign false false) (sign r u) x a b e h k = false≢true e

rest_meets :
    (j : ℕ) (c d : Signs) (m : Values) → clean c ≡ true → clean d ≡ true → clash_in (suc j) c d ≡ true
    → meets m c ≡ true → meets m d ≡ true → meets m (resolvent (suc j) c d) ≡ true
rest_meets j [] d m a b e h k = absurd (false≢true h)
rest_meets j (s ∷ c) [] m a b e h k = absurd (false≢true k)
rest_meets zero (sign p q ∷ c) (sign r u ∷ d) m a b e h k =
    let s = sign p q in
    let t = sign r u in
    let ways = or_cases (true_at t (m 0)) (meets (later m) d) k in
    let never = opposed-true s t (m 0) (and_parts (one_way s) (clean c) a).0 (and_parts (one_way t) (clean d) b).0 e in
    ⊎_elim
    (λ x. ⊎_elim (λ y. absurd (never x y)) (second_meets c d (later m)) ways)
    (first-meets c d (later m))
    (or_cases (true_at s (m 0)) (meets (later m) c) h)
rest_meets (suc j) (s ∷ c) (t ∷ d) m a b e h k =
    let here = or_left (true_at (either s t) (m 0)) (meets (later m) (resolvent (suc j) c d)) in
    let there = or_right (true_at (either s t) (m 0)) (meets (later m) (resolvent (suc j) c d)) in
    let ways = or_cases (true_at t (m 0)) (meets (later m) d) k in
    let rest = rest_meets j c d (later m) (and_parts (one_way s) (clean c) a).1 (and_parts (one_way t) (clean d) b).1 e in
    ⊎_elim
    (λ x. here (first-true s t (m 0) x))
    (λ x. ⊎_elim (λ y. here (second_true s t (m 0) y)) (λ y. there (rest x y)) ways)
    (or_cases (true_at s (m 0)) (meets (later m) c) h)

pub resolution_sound :
    (v : ℕ) (c d : Signs) (m : Values) → clean c ≡ true → clean d ≡ true → clash_in v c d ≡ true
    → meets m c ≡ true → meets m d ≡ true → meets m (resolvent v c d) ≡ true
resolution_sound zero c d m a b e h k = absurd (false≢true e)
resolution_sound (suc j) c d m a b e h k = rest_meets j c d m a b e h k

-- ---- two clauses that clash in one variable

opposed_parts : (s t : Sign) → opposed s t ≡ ((holds_plus s && holds_minus t) || (holds_minus s && holds_plus t))
opposed_parts (sign p q) (sign r u) = refl

first_clash : (i : ℕ) (c d : Signs) (v : ℕ) (vs : List ℕ) → clashes_from (suc i) c d ≡ v ∷ vs → (j : ℕ) × (v ≡ suc (i + j)) × (opposed (sign_at c j) (sign_at d j) ≡ true)
first_clash i [] d v vs e = let z : ◌≡◌ {A = ℕ} 0 1 = cc in absurd (omega arith)
first_clash i (s ∷ c) [] v vs e = let z : ◌≡◌ {A = ℕ} 0 1 = cc in absurd (omega arith)
first_clash i (s ∷ c) (t ∷ d) v vs e = go (opposed s t) refl e (first_clash (suc i) c d v vs)
  where
    go : (b : Bool) → opposed s t ≡ b → keep b (suc i) (clashes_from (suc (suc i)) c d) ≡ v ∷ vs
        → (clashes_from (suc (suc i)) c d ≡ v ∷ vs → (j : ℕ) × (v ≡ suc (suc i + j)) × (opposed (sign_at c j) (sign_at d j) ≡ true))
        → (j : ℕ) × (v ≡ suc (i + j)) × (opposed (sign_at (s ∷ c) j) (sign_at (t ∷ d) j) ≡ true)
    go true o is rest = let same : suc i ≡ v = cc in (0, omega arith, o)
    go false o is rest = let r = rest is in (suc r.0, omega (arith, r.1), r.2)

pub sole_clash : (c d : Signs) (v : ℕ) → clashes c d ≡ v ∷ [] → clash_in v c d ≡ true
sole_clash c d v e =
    let r = first_clash 0 c d v [] e in
    let at : v ≡ suc r.0 = omega (arith, r.1) in
    ap (λ (x : ℕ). clash_in x c d) at ∙ sym (opposed_parts (sign_at c r.0) (sign_at d r.0)) ∙ r.2

pub sole-some : (vs : List ℕ) (v : ℕ) → Some v ≡ sole vs → vs ≡ v ∷ []
sole-some [] v e = let z : ◌≡◌ {A = ℕ} 0 1 = cc in absurd (omega arith)
sole-some (w ∷ []) v e = let same : v ≡ w = cc in ap (λ (x : ℕ). x ∷ []) (sym same)
sole-some (w ∷ x ∷ vs) v e = let z : ◌≡◌ {A = ℕ} 0 1 = cc in absurd (omega arith)
