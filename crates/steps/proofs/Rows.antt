-- Rows entry by entry, and what they count in all. Assumes nothing.
use Rattle.std.proofs.Common.{◌≡◌, ℕ, zero, suc, ◌+◌, ◌<◌, ◌≤◌, Bool, true, false, cond, ◌&&◌, eqb, List, [], ◌∷◌, ◌++◌, length, get_or, take, set, replicate, sum_by, sum, count_by, add-zero, refl, sym, ap, ◌∙◌, arith}
use Rattle.std.specs.List.{list_all, range_with_len}
use Rattle.std.proofs.lemmas.Bool.{false≢true, true≢false, and_parts, both_ways}
use Rattle.std.proofs.lemmas.List.{get_or-set_same, get_or-set_other, length-set}
use Rattle.std.proofs.lemmas.Bool.Decides.{nat_tests}
use Rattle.std.proofs.lemmas.List.FromFn.{get_or-map-range_with_len, length-map-range_with_len, fill_by_all}
use Rattle.std.proofs.lemmas.List.Sums.{sum_by-cons, sum_by-append, sum_by_more, sum-map, count_by-le-length}
use Rattle.words.specs.Bits.{width, later}
use Rattle.clauses.specs.declared.value.Value.{Value}
use Rattle.clauses.specs.declared.value.Value.TheVariants.{True, False, Unset}
use Rattle.clauses.specs.Values.{Values, assigned}
use Rattle.clauses.specs.Clauses.{sign, Signs, false_at, literals_from, size, broken, within}
use Rattle.limits.specs.Limits.{lengths}
use Rattle.guides.specs.Rows.{count}
use Rattle.steps.specs.Rows.{broken_of_length, row}
use Rattle.steps.specs.Laws.{OneMoreAddsOne, ARowCountsTheBroken}

-- ---- how long a broken clause is

-- no variable is false both ways
one_false : (p q : Bool) (x : Value) → false_at (sign p q) x ≡ true → (p && q) ≡ false
one_false false q x h = refl
one_false true false x h = refl
one_false true true True h = absurd (false≢true h)
one_false true true False h = absurd (false≢true h)
one_false true true Unset h = absurd (false≢true h)

-- a broken clause has at most one literal for each variable
pub broken-length : (n : ℕ) (m : Values) (k : ℕ) (c : Signs) → within n c ≡ true → broken m c ≡ true → length (literals_from k c) ≤ n
broken-length n m k [] w h = omega arith
broken-length n m k (sign true true ∷ c) w h = absurd (true≢false (one_false true true (m 0) (and_parts (false_at (sign true true) (m 0)) (broken (later m) c) h).0))
broken-length zero m k (sign true false ∷ c) w h = absurd (false≢true w)
broken-length zero m k (sign false true ∷ c) w h = absurd (false≢true w)
broken-length zero m k (sign false false ∷ c) w h = broken-length zero (later m) (suc k) c w h
broken-length (suc n) m k (sign true false ∷ c) w h =
    let r = broken-length n (later m) (suc k) c w (and_parts (false_at (sign true false) (m 0)) (broken (later m) c) h).1 in omega arith
broken-length (suc n) m k (sign false true ∷ c) w h =
    let r = broken-length n (later m) (suc k) c w (and_parts (false_at (sign false true) (m 0)) (broken (later m) c) h).1 in omega arith
broken-length (suc n) m k (sign false false ∷ c) w h =
    let r = broken-length n (later m) (suc k) c w h in omega arith

-- ---- entries

pub length-row : (cs : List Signs) (a : List Bool) → length (row cs a) ≡ lengths
unfolding row
length-row cs a = length-map-range_with_len (λ k. count_by (broken_of_length (assigned a) k) cs) 0 lengths

-- entry k is the number of broken clauses of length k
pub count-row : (cs : List Signs) (a : List Bool) (k : ℕ) → k < lengths → count k (row cs a) ≡ count_by (broken_of_length (assigned a) k) cs
unfolding row
count-row cs a k h = get_or-map-range_with_len (λ j. count_by (broken_of_length (assigned a) j) cs) 0 lengths k k 0 h (omega arith)

count_by_among : (p : Signs → Bool) (c : Signs) (cs ds : List Signs) → count_by p (cs ++ (c ∷ ds)) ≡ count_by p (cs ++ ds) + cond (p c) 1 0
count_by_among p c cs ds =
    let f : Signs → ℕ = λ x. cond (p x) 1 0 in
    omega (arith, sum_by-append f cs (c ∷ ds), sum_by-cons f c ds, sum_by-append f cs ds)

pub one_more : OneMoreAddsOne
one_more a c cs ds k h =
    count-row (cs ++ (c ∷ ds)) a k h ∙ count_by_among (broken_of_length (assigned a) k) c cs ds
    ∙ ap (λ n. n + cond (broken_of_length (assigned a) k c) 1 0) (sym (count-row (cs ++ ds) a k h))

-- ---- all entries together

-- a sum of nothings
zeros : {X : Type 0} (xs : List X) → sum_by (λ x. 0) xs ≡ 0
zeros [] = refl
zeros (x ∷ xs) = sum_by-cons (λ x. 0) x xs ∙ rw (zeros xs)

-- a sum of sums, taken the other way round
sums_swapped : {X : Type 0} (f : ℕ → X → ℕ) (ks : List ℕ) (xs : List X) → sum_by (λ k. sum_by (f k) xs) ks ≡ sum_by (λ x. sum_by (λ k. f k x) ks) xs
sums_swapped f [] xs = sym (zeros xs)
sums_swapped {X} f (k ∷ ks) xs =
    sum_by-cons (λ j. sum_by (f j) xs) k ks ∙ ap (λ n. sum_by (f k) xs + n) (sums_swapped f ks xs) ∙ sym (both xs)
  where
    both : (ys : List X) → sum_by (λ x. sum_by (λ j. f j x) (k ∷ ks)) ys ≡ sum_by (f k) ys + sum_by (λ x. sum_by (λ j. f j x) ks) ys
    both [] = refl
    both (y ∷ ys) =
        let whole : X → ℕ = λ x. sum_by (λ j. f j x) (k ∷ ks) in
        let rest : X → ℕ = λ x. sum_by (λ j. f j x) ks in
        omega (arith, sum_by-cons whole y ys, sum_by-cons (f k) y ys, sum_by-cons rest y ys, sum_by-cons (λ j. f j y) k ks, both ys)

sums_alike : {X : Type 0} (p : X → Bool) (f g : X → ℕ) → ((x : X) → p x ≡ true → f x ≡ g x) → (xs : List X) → list_all p xs ≡ true → sum_by f xs ≡ sum_by g xs
sums_alike p f g same [] h = refl
sums_alike p f g same (x ∷ xs) h =
    let q = and_parts (p x) (list_all p xs) h in
    omega (arith, sum_by-cons f x xs, sum_by-cons g x xs, same x q.0, sums_alike p f g same xs q.1)

-- among n numbers from a on, s stands once or not at all
abbrev times : ℕ → ℕ → ℕ → ℕ
times s a n = count_by (λ k. eqb s k) (range_with_len a n)

times-suc : (s a n : ℕ) → times s a (suc n) ≡ cond (eqb s a) 1 0 + times s (a + 1) n
times-suc s a n = sum_by-cons (λ k. cond (eqb s k) 1 0) a (range_with_len (a + 1) n)

times_none : (s a n : ℕ) → s < a → times s a n ≡ 0
times_none s a zero h = refl
times_none s a (suc n) h = let r = times_none s (a + 1) n (omega arith) in let e = times-suc s a n in grind (arith, nat_tests)

times_once : (s a n : ℕ) → a ≤ s → s < a + n → times s a n ≡ 1
times_once s a zero h k = absurd (omega arith)
times_once s a (suc n) h k = times-suc s a n ∙ go (eqb s a) refl (λ l. times_once s (a + 1) n l (omega arith))
  where
    go : (b : Bool) → eqb s a ≡ b → (a + 1 ≤ s → times s (a + 1) n ≡ 1) → cond b 1 0 + times s (a + 1) n ≡ 1
    go true e f = let r = times_none s (a + 1) n (grind (arith, nat_tests)) in omega arith
    go false e f = let r = f (grind (arith, nat_tests)) in omega arith

-- a clause is counted once if it is broken
once_if_broken : (m : Values) (c : Signs) → within width c ≡ true → count_by (λ k. broken_of_length m k c) (range_with_len 0 lengths) ≡ cond (broken m c) 1 0
once_if_broken m c w = go (broken m c) refl
  where
    go : (b : Bool) → broken m c ≡ b → count_by (λ k. b && eqb (size c) k) (range_with_len 0 lengths) ≡ cond b 1 0
    go true e = let short = broken-length width m 0 c w e in times_once (size c) 0 lengths (omega arith) (omega arith)
    go false e = zeros (range_with_len 0 lengths)

sum-row : (cs : List Signs) (a : List Bool) → list_all (within width) cs ≡ true → sum (row cs a) ≡ count_by (broken (assigned a)) cs
unfolding row
sum-row cs a w =
    let m = assigned a in
    sum-map (λ k. count_by (broken_of_length m k) cs) (range_with_len 0 lengths)
    ∙ sums_swapped (λ k c. cond (broken_of_length m k c) 1 0) (range_with_len 0 lengths) cs
    ∙ sums_alike (within width) (λ c. count_by (λ k. broken_of_length m k c) (range_with_len 0 lengths)) (λ c. cond (broken m c) 1 0) (once_if_broken m) cs w

pub row_counts : ARowCountsTheBroken
row_counts cs a = (length-row cs a, sum-row cs a)

-- ---- one more clause of a list that is walked through

pub row_none : (a : List Bool) → row [] a ≡ replicate lengths 0
unfolding row
row_none a = refl

-- one more at entry k
abbrev pub raised : ℕ → List ℕ → List ℕ
raised k xs = set xs k (get_or xs k 0 + 1)

raised-at : (k : ℕ) (xs : List ℕ) (j : ℕ) → j < length xs → get_or (raised k xs) j 0 ≡ get_or xs j 0 + cond (eqb k j) 1 0
raised-at k xs j h = go (eqb k j) refl
  where
    go : (b : Bool) → eqb k j ≡ b → get_or (raised k xs) j 0 ≡ get_or xs j 0 + cond b 1 0
    go true e = let q : k ≡ j = grind (arith, nat_tests) in rw q (get_or-set_same xs j (get_or xs j 0 + 1) 0 h)
    go false e = get_or-set_other xs k j (get_or xs k 0 + 1) 0 (λ q. let r : eqb k j ≡ true = grind (arith, nat_tests) in both_ways (eqb k j) e r) ∙ sym (add-zero (get_or xs j 0))

-- so where b, else nothing changes
abbrev pub raised_if : Bool → ℕ → List ℕ → List ℕ
raised_if b k xs = cond b (raised k xs) xs

raised_if-at : (b : Bool) (k : ℕ) (xs : List ℕ) (j : ℕ) → j < length xs → get_or (raised_if b k xs) j 0 ≡ get_or xs j 0 + cond (b && eqb k j) 1 0
raised_if-at true k xs j h = raised-at k xs j h
raised_if-at false k xs j h = sym (add-zero (get_or xs j 0))

length-raised_if : (b : Bool) (k : ℕ) (xs : List ℕ) → length (raised_if b k xs) ≡ length xs
length-raised_if true k xs = length-set xs k (get_or xs k 0 + 1)
length-raised_if false k xs = refl

pub row_more :
    (cs : List Signs) (a : List Bool) (i : ℕ) (d : Signs) → i < length cs
    → row (take (i + 1) cs) a ≡ raised_if (broken (assigned a) (get_or cs i d)) (size (get_or cs i d)) (row (take i cs) a)
unfolding row
row_more cs a i d h =
    let c = get_or cs i d in
    let b = broken (assigned a) c in
    let before = row (take i cs) a in
    sym (fill_by_all (λ k. count_by (broken_of_length (assigned a) k) (take (i + 1) cs)) (raised_if b (size c) before) lengths 0
    (length-raised_if b (size c) before ∙ length-row (take i cs) a)
    (λ k l. raised_if-at b (size c) before k (rw (length-row (take i cs) a) l)
    ∙ ap (λ n. n + cond (b && eqb (size c) k) 1 0) (count-row (take i cs) a k l)
    ∙ sym (sum_by_more (λ x. cond (broken_of_length (assigned a) k x) 1 0) cs i d h)))

-- a row counts no more than there are clauses
pub sum-row-le : (cs : List Signs) (a : List Bool) → list_all (within width) cs ≡ true → sum (row cs a) ≤ length cs
sum-row-le cs a w = rw (sum-row cs a w) (count_by-le-length (broken (assigned a)) cs)

pub count-row-le : (cs : List Signs) (a : List Bool) (k : ℕ) → k < lengths → count k (row cs a) ≤ length cs
count-row-le cs a k h = rw (count-row cs a k h) (count_by-le-length (broken_of_length (assigned a) k) cs)
