-- How many clauses over n variables, none held both ways, pass a test, and so
-- how many different ones there are at most. Assumes nothing.
use Rattle.std.proofs.Common.{◌≡◌, ℕ, zero, suc, ◌+◌, ◌^◌, ◌<◌, ◌≤◌, Bool, true, false, not, ◌&&◌, ◌||◌, List, [], ◌∷◌, length, sym, refl, ap, ◌∙◌, ap₂, pow-suc, arith}
use Rattle.std.proofs.lemmas.Bool.{false≢true, and_parts, and_from, or_left, or_right, not-true, not_from_false}
use Rattle.std.specs.List.{list_any, list_all}
use Rattle.clauses.specs.Literals.{once}
use Rattle.clauses.specs.Clauses.{Sign, sign, Signs, blank, absent, one_way, empty, clean, within, same_sign, same, has}
use Rattle.lines.specs.Lines.{apart}
use Rattle.clauses.proofs.Literals.{holds_same}
use Rattle.clause_laws.specs.Laws.{AtMostThreeToTheN}

-- ---- a clause brought to n signs

-- it holds the same if it is within n
abbrev pub fit : ℕ → Signs → Signs
fit zero c = []
fit (suc n) [] = blank ∷ fit n []
fit (suc n) (s ∷ c) = s ∷ fit n c

absent-same : (s t : Sign) → absent s ≡ true → same_sign s t ≡ absent t
absent-same (sign true q) t a = absurd (false≢true a)
absent-same (sign false true) t a = absurd (false≢true a)
absent-same (sign false false) (sign true r) a = refl
absent-same (sign false false) (sign false r) a = refl

same_nothing : (c : Signs) → same c [] ≡ empty c
same_nothing [] = refl
same_nothing (s ∷ c) = refl

fit_same : (n : ℕ) (c d : Signs) → within n c ≡ true → same (fit n c) d ≡ same c d
fit_same zero [] d w = refl
fit_same zero (s ∷ c) [] w =
    let p = and_parts (absent s) (within zero c) w in
    sym (and_from (absent s) (empty c) p.0 (sym (same_nothing c) ∙ sym (fit_same zero c [] p.1)))
fit_same zero (s ∷ c) (t ∷ d) w =
    let p = and_parts (absent s) (within zero c) w in
    ap₂ {C = Bool} (λ x y. x && y) (sym (absent-same s t p.0)) (fit_same zero c d p.1)
fit_same (suc n) [] [] w = sym (same_nothing (fit n [])) ∙ fit_same n [] [] refl
fit_same (suc n) [] (t ∷ d) w = ap₂ {C = Bool} (λ x y. x && y) (absent-same blank t refl) (fit_same n [] d refl)
fit_same (suc n) (s ∷ c) [] w = ap (λ x. absent s && x) (sym (same_nothing (fit n c)) ∙ fit_same n c [] w ∙ same_nothing c)
fit_same (suc n) (s ∷ c) (t ∷ d) w = ap (λ x. same_sign s t && x) (fit_same n c d w)

pub fit_has : (n : ℕ) (c : Signs) (cs : List Signs) → within n c ≡ true → has (fit n c) cs ≡ has c cs
fit_has n c [] w = refl
fit_has n c (d ∷ cs) w = ap₂ {C = Bool} (λ x y. x || y) (fit_same n c d w) (fit_has n c cs w)

pub same_self : (c : Signs) → same c c ≡ true
same_self c = holds_same c c (λ l. refl)

-- ---- sums over the three signs that hold no variable both ways

abbrev sum : (Sign → ℕ) → ℕ
sum f = f blank + f (sign true false) + f (sign false true)

sum_mono : (f g : Sign → ℕ) → ((s : Sign) → f s ≤ g s) → sum f ≤ sum g
sum_mono f g h = omega (arith, h blank, h (sign true false), h (sign false true))

sum_strict : (f g : Sign → ℕ) → ((s : Sign) → f s ≤ g s) → (s : Sign) → one_way s ≡ true → f s < g s → sum f < sum g
sum_strict f g h (sign true true) o l = absurd (false≢true o)
sum_strict f g h (sign true false) o l = omega (arith, h blank, h (sign false true))
sum_strict f g h (sign false true) o l = omega (arith, h blank, h (sign true false))
sum_strict f g h (sign false false) o l = omega (arith, h (sign true false), h (sign false true))

-- ---- how many clean clauses of n signs pass a test

-- the test of the remaining signs, where the first is s
abbrev after : (Signs → Bool) → Sign → Signs → Bool
after p s c = p (s ∷ c)

abbrev pub counted : ℕ → (Signs → Bool) → ℕ
counted zero p = once (p [])
counted (suc n) p = sum (λ s. counted n (after p s))

-- what passes the first test passes the second
abbrev pub Implies : (Signs → Bool) → (Signs → Bool) → Type 0
Implies p q = (c : Signs) → p c ≡ true → q c ≡ true

once_mono : (p q : Bool) → (p ≡ true → q ≡ true) → once p ≤ once q
once_mono true q h = rw (h refl) (omega arith)
once_mono false q h = omega arith

pub counted_mono : (n : ℕ) (p q : Signs → Bool) → Implies p q → counted n p ≤ counted n q
counted_mono zero p q h = once_mono (p []) (q []) (h [])
counted_mono (suc n) p q h = sum_mono _ _ (λ s. counted_mono n (after p s) (after q s) (λ c. h (s ∷ c)))

-- it is enough that one of the three branches grows
branch_grows : (n : ℕ) (p q : Signs → Bool) → Implies p q
    → (s : Sign) → one_way s ≡ true → counted n (after p s) < counted n (after q s) → counted (suc n) p < counted (suc n) q
branch_grows n p q h = sum_strict _ _ (λ s. counted_mono n (after p s) (after q s) (λ c. h (s ∷ c)))

pub counted_strict : (n : ℕ) (p q : Signs → Bool) → Implies p q
    → (c : Signs) → clean c ≡ true → p (fit n c) ≡ false → q (fit n c) ≡ true → counted n p < counted n q
counted_strict zero p q h c k f g = rw (f, g) (omega arith)
counted_strict (suc n) p q h [] k f g =
    branch_grows n p q h blank refl (counted_strict n (after p blank) (after q blank) (λ c. h (blank ∷ c)) [] refl f g)
counted_strict (suc n) p q h (s ∷ c) k f g =
    let o = and_parts (one_way s) (clean c) k in
    branch_grows n p q h s o.0 (counted_strict n (after p s) (after q s) (λ c. h (s ∷ c)) c o.1 f g)

pub counted_bound : (n : ℕ) (p : Signs → Bool) → counted n p ≤ 3 ^ n
counted_bound zero p = once_mono (p []) true (λ _. refl)
counted_bound (suc n) p =
    let l = sum_mono _ (λ s. 3 ^ n) (λ s. counted_bound n (after p s)) in
    rw (pow-suc 3 n) (omega arith)

-- ---- different clauses

-- one more clause is there
pub one_more : (n : ℕ) (c : Signs) (cs : List Signs) → clean c ≡ true → within n c ≡ true → has c cs ≡ false
    → counted n (λ d. has d cs) < counted n (λ d. has d (c ∷ cs))
one_more n c cs k w new =
    counted_strict n (λ d. has d cs) (λ d. has d (c ∷ cs)) (λ d h. or_right (same d c) (has d cs) h)
    c k (fit_has n c cs w ∙ new) (or_left (same (fit n c) c) (has (fit n c) cs) (fit_same n c c w ∙ same_self c))

apart_count : (n : ℕ) (cs : List Signs) → list_all clean cs ≡ true → list_all (within n) cs ≡ true → apart cs ≡ true
    → length cs ≤ counted n (λ d. has d cs)
apart_count n [] k w a = omega arith
apart_count n (c ∷ cs) k w a =
    let k' = and_parts (clean c) (list_all clean cs) k in
    let w' = and_parts (within n c) (list_all (within n) cs) w in
    let a' = and_parts (not (has c cs)) (apart cs) a in
    let rest = apart_count n cs k'.1 w'.1 a'.1 in
    let more = one_more n c cs k'.0 w'.0 (not-true (has c cs) a'.0) in
    omega arith

apart_bound : (n : ℕ) (cs : List Signs) → list_all clean cs ≡ true → list_all (within n) cs ≡ true → apart cs ≡ true → length cs ≤ 3 ^ n
apart_bound n cs k w a = omega (arith, apart_count n cs k w a, counted_bound n (λ d. has d cs))

-- where the empty clause is missing, there is room for it
pub three_to_the_n : AtMostThreeToTheN
three_to_the_n n cs k w a = (
  apart_bound n cs k w a,
  λ none. apart_bound n ([] ∷ cs) k w (and_from (not (list_any empty cs)) (apart cs) (not_from_false (list_any empty cs) none) a),
)
