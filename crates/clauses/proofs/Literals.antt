-- What is said of a clause, in terms of its literals. Assumes nothing.
use Rattle.std.proofs.Common.{◌≡◌, ℕ, zero, suc, ◌+◌, ◌<◌, ◌≤◌, Bool, true, false, not, ◌&&◌, ◌||◌, eqb, List, [], ◌∷◌, map, length, ℤ, pos, negsuc, neg_ℤ, nat_abs, sym, refl, ap, ◌∙◌, ap₂, ⊎_elim, arith}
use mathlib.Core.Bool.{and-true, and-false, or-true, or-false}
use lib.Dec.{eqb-zero-suc, eqb-suc-zero, eqb-suc-suc}
use Rattle.std.proofs.lemmas.List.{length-map}
use Rattle.std.proofs.lemmas.List.Folds.{list_all-map}
use Rattle.std.proofs.lemmas.Bool.{false≢true, and_parts, and_from, eqb-true, eq-eqb, not-true, not_from_false, both_ways, cases_Bool, cases_lt}
use Rattle.words.specs.Bits.{alike, later, keep}
use Rattle.std.specs.List.{list_any, list_all}
use Rattle.clauses.specs.Values.{Values, is_true, is_false}
use Rattle.clauses.specs.Literals.{same_literal, value_of, among, met, tautology, once, set_size}
use Rattle.clauses.specs.Clauses.{Sign, sign, Signs, blank, absent, holds_plus, holds_minus, sign_at, holds, literals_from, literals, size, empty, clean, within, false_at, meets, broken, same_sign, same, inside, included, without, critical}
use Rattle.words.proofs.Bits.{and_cross}
use Rattle.clauses.proofs.Contrary.{true-contrary, false-contrary}
use Rattle.clauses.proofs.Tests.{iff, any_ext, all_ext, none_any, any-map, any-keep, all_keep}

-- ---- one literal

pub literal_eq : (l k : ℤ) → same_literal l k ≡ true → l ≡ k
literal_eq (pos i) (pos j) h = ap pos (eqb-true i j h)
literal_eq (pos i) (negsuc j) h = absurd (false≢true h)
literal_eq (negsuc i) (pos j) h = absurd (false≢true h)
literal_eq (negsuc i) (negsuc j) h = ap negsuc (eqb-true i j h)

pub literal_self : (l : ℤ) → same_literal l l ≡ true
literal_self (pos i) = eq-eqb i i refl
literal_self (negsuc i) = eq-eqb i i refl

pub literal_swap : (l k : ℤ) → same_literal l k ≡ same_literal k l
literal_swap l k = iff (same_literal l k) (same_literal k l) (turn l k) (turn k l)
  where
    turn : (i j : ℤ) → same_literal i j ≡ true → same_literal j i ≡ true
    turn i j h = rw (literal_eq i j h) (literal_self j)

-- ---- one place further

-- the same literal of the next variable
abbrev further : ℤ → ℤ
further (pos zero) = pos zero
further (pos (suc k)) = pos (suc (suc k))
further (negsuc k) = negsuc (suc k)

same-further : (l k : ℤ) → same_literal (further l) (further k) ≡ same_literal l k
same-further (pos zero) (pos zero) = refl
same-further (pos zero) (pos (suc j)) = eqb-zero-suc (suc j) ∙ sym (eqb-zero-suc j)
same-further (pos (suc i)) (pos zero) = eqb-suc-zero (suc i) ∙ sym (eqb-suc-zero i)
same-further (pos (suc i)) (pos (suc j)) = eqb-suc-suc (suc i) (suc j)
same-further (pos zero) (negsuc j) = refl
same-further (pos (suc i)) (negsuc j) = refl
same-further (negsuc i) (pos zero) = refl
same-further (negsuc i) (pos (suc j)) = refl
same-further (negsuc i) (negsuc j) = eqb-suc-suc i j

value_further : (m : Values) (l : ℤ) → value_of m (further l) ≡ value_of (later m) l
value_further m (pos zero) = refl
value_further m (pos (suc k)) = refl
value_further m (negsuc k) = refl

-- the literals of the first variable are none of the further ones
not-plus : (l : ℤ) → same_literal (pos 1) (further l) ≡ false
not-plus (pos zero) = refl
not-plus (pos (suc k)) = eqb-suc-suc 0 (suc k) ∙ eqb-zero-suc k
not-plus (negsuc k) = refl

not-minus : (l : ℤ) → same_literal (negsuc 0) (further l) ≡ false
not-minus (pos zero) = refl
not-minus (pos (suc k)) = refl
not-minus (negsuc k) = eqb-zero-suc k

literals-further : (k : ℕ) (c : Signs) → literals_from (suc k) c ≡ map further (literals_from k c)
literals-further k [] = refl
literals-further k (sign true true ∷ c) = ap (λ xs. pos (suc (suc k)) ∷ negsuc (suc k) ∷ xs) (literals-further (suc k) c)
literals-further k (sign true false ∷ c) = ap (λ xs. pos (suc (suc k)) ∷ xs) (literals-further (suc k) c)
literals-further k (sign false true ∷ c) = ap (λ xs. negsuc (suc k) ∷ xs) (literals-further (suc k) c)
literals-further k (sign false false ∷ c) = literals-further (suc k) c

any-literals : (t : ℤ → Bool) (p q : Bool) (c : Signs)
    → list_any t (literals (sign p q ∷ c)) ≡ (((p && t (pos 1)) || (q && t (negsuc 0))) || list_any (λ l. t (further l)) (literals c))
any-literals t p q c =
    any-keep t p q (pos 1) (negsuc 0) (literals_from 1 c)
    ∙ ap (λ b. ((p && t (pos 1)) || (q && t (negsuc 0))) || b) (ap (list_any t) (literals-further 0 c) ∙ any-map t further (literals c))

all-literals : (t : ℤ → Bool) (p q : Bool) (c : Signs)
    → list_all t (literals (sign p q ∷ c)) ≡ (((not p || t (pos 1)) && (not q || t (negsuc 0))) && list_all (λ l. t (further l)) (literals c))
all-literals t p q c =
    all_keep t p q (pos 1) (negsuc 0) (literals_from 1 c)
    ∙ ap (λ b. ((not p || t (pos 1)) && (not q || t (negsuc 0))) && b) (ap (list_all t) (literals-further 0 c) ∙ list_all-map t further (literals c))

-- ---- which it holds

among_first : (l : ℤ) → ((k : ℤ) → same_literal l (further k) ≡ false) → (p q : Bool) (c : Signs)
    → among l (literals (sign p q ∷ c)) ≡ ((p && same_literal l (pos 1)) || (q && same_literal l (negsuc 0)))
among_first l e p q c =
    let here = (p && same_literal l (pos 1)) || (q && same_literal l (negsuc 0)) in
    any-literals (same_literal l) p q c ∙ ap (λ b. here || b) (none_any (λ k. same_literal l (further k)) e (literals c)) ∙ or-false here

among-further : (l : ℤ) (p q : Bool) (c : Signs) → among (further l) (literals (sign p q ∷ c)) ≡ among l (literals c)
among-further l p q c =
    any-literals (same_literal (further l)) p q c
    ∙ ap₂ {C = Bool} (λ x y. ((p && x) || (q && y)) || list_any (λ k. same_literal (further l) (further k)) (literals c))
    (literal_swap (further l) (pos 1) ∙ not-plus l)
    (literal_swap (further l) (negsuc 0) ∙ not-minus l)
    ∙ simp (and-false, same-further)

pub holds-literals : (l : ℤ) (c : Signs) → holds l c ≡ among l (literals c)
holds-literals (pos zero) [] = refl
holds-literals (pos (suc k)) [] = refl
holds-literals (negsuc k) [] = refl
holds-literals (pos zero) (sign p q ∷ c) = holds-literals (pos zero) c ∙ sym (among-further (pos zero) p q c)
holds-literals (pos (suc zero)) (sign p q ∷ c) = sym (among_first (pos 1) not-plus p q c ∙ simp (and-true, and-false, or-false))
holds-literals (pos (suc (suc k))) (sign p q ∷ c) = holds-literals (pos (suc k)) c ∙ sym (among-further (pos (suc k)) p q c)
holds-literals (negsuc zero) (sign p q ∷ c) = sym (among_first (negsuc 0) not-minus p q c ∙ simp (and-true, and-false))
holds-literals (negsuc (suc k)) (sign p q ∷ c) = holds-literals (negsuc k) c ∙ sym (among-further (negsuc k) p q c)

-- ---- how many

set_size-further : (xs : List ℤ) → set_size (map further xs) ≡ set_size xs
set_size-further [] = refl
set_size-further (x ∷ xs) =
    ap₂ {C = ℕ} (λ b n. once (not b) + n)
    (any-map (same_literal (further x)) further xs ∙ any_ext (λ k. same_literal (further x) (further k)) (same_literal x) (same-further x) xs)
    (set_size-further xs)

first-size : (p q : Bool) (xs : List ℤ) → length xs ≡ set_size xs
    → length (keep p (pos 1) (keep q (negsuc 0) (map further xs))) ≡ set_size (keep p (pos 1) (keep q (negsuc 0) (map further xs)))
first-size p q xs e = go p q
  where
    lacks : (l : ℤ) → ((k : ℤ) → same_literal l (further k) ≡ false) → among l (map further xs) ≡ false
    lacks l h = any-map (same_literal l) further xs ∙ none_any (λ k. same_literal l (further k)) h xs

    rest : length (map further xs) ≡ set_size (map further xs)
    rest = length-map xs further ∙ e ∙ sym (set_size-further xs)

    go : (x y : Bool) → length (keep x (pos 1) (keep y (negsuc 0) (map further xs))) ≡ set_size (keep x (pos 1) (keep y (negsuc 0) (map further xs)))
    go true true = rw (lacks (pos 1) not-plus, lacks (negsuc 0) not-minus, rest) (omega arith)
    go true false = rw (lacks (pos 1) not-plus, rest) (omega arith)
    go false true = rw (lacks (negsuc 0) not-minus, rest) (omega arith)
    go false false = rest

pub size-literals : (c : Signs) → size c ≡ set_size (literals c)
size-literals [] = refl
size-literals (sign p q ∷ c) = rw (literals-further 0 c) (first-size p q (literals c) (size-literals c))

empty-length : (k : ℕ) (c : Signs) → empty c ≡ eqb (length (literals_from k c)) 0
empty-length k [] = refl
empty-length k (sign true q ∷ c) = sym (eqb-suc-zero (length (keep q (negsuc k) (literals_from (suc k) c))))
empty-length k (sign false true ∷ c) = sym (eqb-suc-zero (length (literals_from (suc k) c)))
empty-length k (sign false false ∷ c) = empty-length (suc k) c

pub empty_size : (c : Signs) → empty c ≡ eqb (size c) 0
empty_size c = empty-length 0 c

-- ---- under a valuation

pub meets-literals : (m : Values) (c : Signs) → meets m c ≡ met m (literals c)
meets-literals m [] = refl
meets-literals m (sign p q ∷ c) =
    ap₂ {C = Bool} (λ x y. ((p && is_true (m 0)) || (q && x)) || y)
    (true-contrary (m 0))
    (meets-literals (later m) c ∙ any_ext (λ l. is_true (value_of (later m) l)) (λ l. is_true (value_of m (further l))) (λ l. ap is_true (sym (value_further m l))) (literals c))
    ∙ sym (any-literals (λ l. is_true (value_of m l)) p q c)

pub broken-literals : (m : Values) (c : Signs) → broken m c ≡ list_all (λ l. is_false (value_of m l)) (literals c)
broken-literals m [] = refl
broken-literals m (sign p q ∷ c) =
    ap₂ {C = Bool} (λ x y. ((not p || is_false (m 0)) && (not q || x)) && y)
    (false-contrary (m 0))
    (broken-literals (later m) c ∙ all_ext (λ l. is_false (value_of (later m) l)) (λ l. is_false (value_of m (further l))) (λ l. ap is_false (sym (value_further m l))) (literals c))
    ∙ sym (all-literals (λ l. is_false (value_of m l)) p q c)

-- the literal k is false, unless it is l
abbrev spared : Values → ℤ → ℤ → Bool
spared m l k = same_literal k l || is_false (value_of m k)

spared-further : (m : Values) (l k : ℤ) → spared (later m) l k ≡ spared m (further l) (further k)
spared-further m l k = ap₂ {C = Bool} (λ x y. x || y) (sym (same-further k l)) (ap is_false (sym (value_further m k)))

broken-further : (m : Values) (l : ℤ) (p q : Bool) (c : Signs) → broken (later m) (without l c) ≡ list_all (spared (later m) l) (literals c)
    → (false_at (sign p q) (m 0) && broken (later m) (without l c)) ≡ list_all (spared m (further l)) (literals (sign p q ∷ c))
broken-further m l p q c e =
    ap₂ {C = Bool} (λ x y. ((not p || x) && (not q || y)) && broken (later m) (without l c))
    (ap (λ x. x || is_false (m 0)) (sym (not-plus l)))
    (ap₂ {C = Bool} (λ x y. x || y) (sym (not-minus l)) (false-contrary (m 0)))
    ∙ ap (λ x. ((not p || spared m (further l) (pos 1)) && (not q || spared m (further l) (negsuc 0))) && x)
    (e ∙ all_ext (spared (later m) l) (λ k. spared m (further l) (further k)) (spared-further m l) (literals c))
    ∙ sym (all-literals (spared m (further l)) p q c)

-- where the first variable is spared, the further ones are judged as they are
broken-first : (m : Values) (l : ℤ) (c : Signs) → ((k : ℤ) → same_literal l (further k) ≡ false)
    → broken (later m) c ≡ list_all (λ k. spared m l (further k)) (literals c)
broken-first m l c e =
    broken-literals (later m) c
    ∙ all_ext (λ k. is_false (value_of (later m) k)) (λ k. spared m l (further k))
    (λ k. ap₂ {C = Bool} (λ x y. x || y) (sym (literal_swap (further k) l ∙ e k)) (ap is_false (sym (value_further m k))))
    (literals c)

broken-without : (m : Values) (l : ℤ) (c : Signs) → broken m (without l c) ≡ list_all (spared m l) (literals c)
broken-without m (pos zero) [] = refl
broken-without m (pos (suc k)) [] = refl
broken-without m (negsuc k) [] = refl
broken-without m (pos zero) (sign p q ∷ c) = broken-further m (pos zero) p q c (broken-without (later m) (pos zero) c)
broken-without m (pos (suc zero)) (sign p q ∷ c) =
    ap₂ {C = Bool} (λ x y. x && y) (simp (or-true, false-contrary)) (broken-first m (pos 1) c not-plus) ∙ sym (all-literals (spared m (pos 1)) p q c)
broken-without m (pos (suc (suc k))) (sign p q ∷ c) = broken-further m (pos (suc k)) p q c (broken-without (later m) (pos (suc k)) c)
broken-without m (negsuc zero) (sign p q ∷ c) =
    ap₂ {C = Bool} (λ x y. x && y) (simp or-true) (broken-first m (negsuc 0) c not-minus) ∙ sym (all-literals (spared m (negsuc 0)) p q c)
broken-without m (negsuc (suc k)) (sign p q ∷ c) = broken-further m (negsuc k) p q c (broken-without (later m) (negsuc k) c)

pub critical-literals : (m : Values) (l : ℤ) (c : Signs)
    → critical m l c ≡ ((among l (literals c) && is_true (value_of m l)) && list_all (λ k. same_literal k l || is_false (value_of m k)) (literals c))
critical-literals m l c = ap₂ {C = Bool} (λ x y. (x && is_true (value_of m l)) && y) (holds-literals l c) (broken-without m l c)

-- ---- both ways

neg_further : (l : ℤ) (s : Sign) (c : Signs) → holds (neg_ℤ (further l)) (s ∷ c) ≡ holds (neg_ℤ l) c
neg_further (pos zero) s c = refl
neg_further (pos (suc k)) s c = refl
neg_further (negsuc k) s c = refl

clean-holds : (c : Signs) → clean c ≡ not (list_any (λ l. holds (neg_ℤ l) c) (literals c))
clean-holds [] = refl
clean-holds (sign p q ∷ c) =
    ap (λ x. not (p && q) && x) (clean-holds c) ∙ go p q (list_any (λ l. holds (neg_ℤ l) c) (literals c))
    ∙ ap (λ x. not (((p && q) || (q && p)) || x))
    (any_ext (λ l. holds (neg_ℤ l) c) (λ l. holds (neg_ℤ (further l)) (sign p q ∷ c)) (λ l. sym (neg_further l (sign p q) c)) (literals c))
    ∙ ap not (sym (any-literals (λ l. holds (neg_ℤ l) (sign p q ∷ c)) p q c))
  where
    go : (x y b : Bool) → (not (x && y) && not b) ≡ not (((x && y) || (y && x)) || b)
    go true true b = refl
    go true false b = refl
    go false true b = refl
    go false false b = refl

pub clean-literals : (c : Signs) → clean c ≡ not (tautology (literals c))
clean-literals c =
    clean-holds c ∙ ap not (any_ext (λ l. holds (neg_ℤ l) c) (λ l. among (neg_ℤ l) (literals c)) (λ l. holds-literals (neg_ℤ l) c) (literals c))

-- ---- up to a variable

absent_parts : (s : Sign) → absent s ≡ true → (holds_plus s ≡ false) × (holds_minus s ≡ false)
absent_parts (sign p q) h = let x = and_parts (not p) (not q) h in (not-true p x.0, not-true q x.1)

absent_from : (s : Sign) → holds_plus s ≡ false → holds_minus s ≡ false → absent s ≡ true
absent_from (sign p q) h k = and_from (not p) (not q) (not_from_false p h) (not_from_false q k)

within-at : (n : ℕ) (c : Signs) → within n c ≡ true → (k : ℕ) → n ≤ k → absent (sign_at c k) ≡ true
within-at n [] h k e = refl
within-at zero (s ∷ c) h zero e = (and_parts (absent s) (within zero c) h).0
within-at zero (s ∷ c) h (suc k) e = within-at zero c (and_parts (absent s) (within zero c) h).1 k (omega arith)
within-at (suc n) (s ∷ c) h zero e = absurd (omega arith)
within-at (suc n) (s ∷ c) h (suc k) e = within-at n c h k (omega arith)

at-within : (n : ℕ) (c : Signs) → ((k : ℕ) → n ≤ k → absent (sign_at c k) ≡ true) → within n c ≡ true
at-within n [] h = refl
at-within zero (s ∷ c) h = and_from (absent s) (within zero c) (h 0 (omega arith)) (at-within zero c (λ k e. h (suc k) (omega arith)))
at-within (suc n) (s ∷ c) h = at-within n c (λ k e. h (suc k) (omega arith))

pub within-holds : (n : ℕ) (c : Signs) → within n c ≡ true → (l : ℤ) → holds l c ≡ true → nat_abs l ≤ n
within-holds n c h (pos zero) e = omega arith
within-holds n c h (pos (suc k)) e =
    ⊎_elim (λ x. omega arith) (λ x. absurd (both_ways (holds_plus (sign_at c k)) (absent_parts (sign_at c k) (within-at n c h k x)).0 e)) (cases_lt k n)
within-holds n c h (negsuc k) e =
    ⊎_elim (λ x. omega arith) (λ x. absurd (both_ways (holds_minus (sign_at c k)) (absent_parts (sign_at c k) (within-at n c h k x)).1 e)) (cases_lt k n)

pub holds-within : (n : ℕ) (c : Signs) → ((l : ℤ) → holds l c ≡ true → nat_abs l ≤ n) → within n c ≡ true
holds-within n c h = at-within n c (λ k e. absent_from (sign_at c k) (none (pos (suc k)) (omega arith)) (none (negsuc k) (omega arith)))
  where
    none : (l : ℤ) → n < nat_abs l → holds l c ≡ false
    none l e = ⊎_elim (λ x. absurd (omega (arith, h l x))) (λ x. x) (cases_Bool (holds l c))

-- with fewer variables, with more
within_wider : (n m : ℕ) → n ≤ m → (c : Signs) → within n c ≡ true → within m c ≡ true
within_wider n m h c w = holds-within m c (λ l k. let r = within-holds n c w l k in omega arith)

pub all_wider : (n m : ℕ) → n ≤ m → (cs : List Signs) → list_all (within n) cs ≡ true → list_all (within m) cs ≡ true
all_wider n m h [] w = refl
all_wider n m h (c ∷ cs) w =
    let p = and_parts (within n c) (list_all (within n) cs) w in
    and_from (within m c) (list_all (within m) cs) (within_wider n m h c p.0) (all_wider n m h cs p.1)

-- ---- two clauses

inside-plus : (s t : Sign) → inside s t ≡ true → holds_plus s ≡ true → holds_plus t ≡ true
inside-plus (sign true q) (sign r s) h e = (and_parts r (not q || s) h).0
inside-plus (sign false q) (sign r s) h e = absurd (false≢true e)

inside-minus : (s t : Sign) → inside s t ≡ true → holds_minus s ≡ true → holds_minus t ≡ true
inside-minus (sign p true) (sign r s) h e = (and_parts (not p || r) s h).1
inside-minus (sign p false) (sign r s) h e = absurd (false≢true e)

inside_from : (s t : Sign) → (holds_plus s ≡ true → holds_plus t ≡ true) → (holds_minus s ≡ true → holds_minus t ≡ true) → inside s t ≡ true
inside_from (sign p q) (sign r s) f g = and_from (not p || r) (not q || s) (go p r f) (go q s g)
  where
    go : (x y : Bool) → (x ≡ true → y ≡ true) → (not x || y) ≡ true
    go true y h = h refl
    go false y h = refl

inside-blank : (s : Sign) → inside s blank ≡ absent s
inside-blank (sign true q) = refl
inside-blank (sign false true) = refl
inside-blank (sign false false) = refl

included-none : (c : Signs) → included c [] ≡ empty c
included-none [] = refl
included-none (s ∷ c) = refl

included-at : (c d : Signs) → included c d ≡ true → (k : ℕ) → inside (sign_at c k) (sign_at d k) ≡ true
included-at [] d h k = inside_from blank (sign_at d k) (λ e. absurd (false≢true e)) (λ e. absurd (false≢true e))
included-at (s ∷ c) [] h zero = inside-blank s ∙ (and_parts (absent s) (empty c) h).0
included-at (s ∷ c) [] h (suc k) = included-at c [] (included-none c ∙ (and_parts (absent s) (empty c) h).1) k
included-at (s ∷ c) (t ∷ d) h zero = (and_parts (inside s t) (included c d) h).0
included-at (s ∷ c) (t ∷ d) h (suc k) = included-at c d (and_parts (inside s t) (included c d) h).1 k

at-included : (c d : Signs) → ((k : ℕ) → inside (sign_at c k) (sign_at d k) ≡ true) → included c d ≡ true
at-included [] d h = refl
at-included (s ∷ c) [] h = and_from (absent s) (empty c) (sym (inside-blank s) ∙ h 0) (sym (included-none c) ∙ at-included c [] (λ k. h (suc k)))
at-included (s ∷ c) (t ∷ d) h = and_from (inside s t) (included c d) (h 0) (at-included c d (λ k. h (suc k)))

pub included-holds : (c d : Signs) → included c d ≡ true → (l : ℤ) → holds l c ≡ true → holds l d ≡ true
included-holds c d h (pos zero) e = e
included-holds c d h (pos (suc k)) e = inside-plus (sign_at c k) (sign_at d k) (included-at c d h k) e
included-holds c d h (negsuc k) e = inside-minus (sign_at c k) (sign_at d k) (included-at c d h k) e

pub holds-included : (c d : Signs) → ((l : ℤ) → holds l c ≡ true → holds l d ≡ true) → included c d ≡ true
holds-included c d h = at-included c d (λ k. inside_from (sign_at c k) (sign_at d k) (h (pos (suc k))) (h (negsuc k)))

agree : (p q : Bool) → alike p q ≡ ((not p || q) && (not q || p))
agree true true = refl
agree true false = refl
agree false true = refl
agree false false = refl

same_sign_both : (s t : Sign) → same_sign s t ≡ (inside s t && inside t s)
same_sign_both (sign p q) (sign r s) =
    ap₂ {C = Bool} (λ x y. x && y) (agree p r) (agree q s) ∙ and_cross (not p || r) (not r || p) (not q || s) (not s || q)

same_both : (c d : Signs) → same c d ≡ (included c d && included d c)
same_both [] [] = refl
same_both [] (t ∷ d) = refl
same_both (s ∷ c) [] = sym (and-true (empty (s ∷ c)))
same_both (s ∷ c) (t ∷ d) =
    ap₂ {C = Bool} (λ x y. x && y) (same_sign_both s t) (same_both c d) ∙ and_cross (inside s t) (inside t s) (included c d) (included d c)

pub same-holds : (c d : Signs) → same c d ≡ true → (l : ℤ) → holds l c ≡ holds l d
same-holds c d h l =
    let p = and_parts (included c d) (included d c) (sym (same_both c d) ∙ h) in
    iff (holds l c) (holds l d) (included-holds c d p.0 l) (included-holds d c p.1 l)

pub holds_same : (c d : Signs) → ((l : ℤ) → holds l c ≡ holds l d) → same c d ≡ true
holds_same c d h =
    same_both c d
    ∙ and_from (included c d) (included d c) (holds-included c d (λ l e. sym (h l) ∙ e)) (holds-included d c (λ l e. h l ∙ e))
