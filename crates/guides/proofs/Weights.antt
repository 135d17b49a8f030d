-- Rows of counts, weighted by length: which of two has the lower sum. Assumes nothing.
use Rattle.std.proofs.Common.{◌≡◌, ◌≢◌, ℕ, zero, suc, ◌+◌, ◌*◌, ◌^◌, ◌<◌, ◌≤◌, ◌⊎◌, inl, inr, false, List, [], ◌∷◌, length, get_or, sym, refl, ap, ap₂, ◌∙◌, ⊎_elim, arith, sum, nat_lt}
use Rattle.std.proofs.Math.Nat.{pow-succ', mul-le-mul_right}
use Rattle.std.proofs.lemmas.Bool.{ltb-true, lt-ltb, le-ltb, cases_lt, cases_order}
use Rattle.std.proofs.lemmas.List.{get_or_past}
use Rattle.std.proofs.lemmas.List.Sums.{sum_by-cons}
use Rattle.limits.specs.Limits.{lengths}
use Rattle.guides.specs.Rows.{Counts, count, Fit}
use Rattle.guides.specs.Ranks.{better, weighted_from, longest_first, FewerAtTheLongest, PutsLengthFirst}
use Rattle.guides.specs.Laws.{LongestFirstReadBothWays}

-- one more place weighs 65,537 times as much
next_weight : (k : ℕ) → 65537 ^ (k + 1) ≡ 65537 * 65537 ^ k
next_weight k = let e : k + 1 ≡ suc k = omega arith in ap (λ (n : ℕ). 65537 ^ n) e ∙ pow-succ' 65537 k

-- no more at any place weighs no more
no_more_no_heavier : (k : ℕ) (a b : List ℕ) → length a ≡ length b → ((j : ℕ) → get_or a j 0 ≤ get_or b j 0) → weighted_from k a ≤ weighted_from k b
no_more_no_heavier k [] [] e le = omega arith
no_more_no_heavier k [] (y ∷ ys) e le = omega arith
no_more_no_heavier k (x ∷ xs) [] e le = absurd (omega arith)
no_more_no_heavier k (x ∷ xs) (y ∷ ys) e le =
    let rest = no_more_no_heavier (k + 1) xs ys (omega arith) (λ j. le (suc j)) in
    let here : x * 65537 ^ k ≤ y * 65537 ^ k = mul-le-mul_right (65537 ^ k) (le 0) in
    omega arith

-- fewer at one place and no more beyond weighs less, by the first weight at least
fewer_by_a_weight : (k i : ℕ) (a b : List ℕ) → length a ≡ length b → sum a ≤ 65536 → get_or a i 0 < get_or b i 0
    → ((j : ℕ) → i < j → get_or a j 0 ≤ get_or b j 0) → weighted_from k a + 65537 ^ k ≤ weighted_from k b
fewer_by_a_weight k i [] [] e small less le = absurd (omega arith)
fewer_by_a_weight k i [] (y ∷ ys) e small less le = absurd (omega arith)
fewer_by_a_weight k i (x ∷ xs) [] e small less le = absurd (omega arith)
fewer_by_a_weight k zero (x ∷ xs) (y ∷ ys) e small less le =
    let rest = no_more_no_heavier (k + 1) xs ys (omega arith) (λ j. le (suc j) (omega arith)) in
    let here : (x + 1) * 65537 ^ k ≤ y * 65537 ^ k = mul-le-mul_right (65537 ^ k) (omega arith) in
    omega arith
fewer_by_a_weight k (suc i) (x ∷ xs) (y ∷ ys) e small less le =
    let s = sum_by-cons (λ n. n) x xs in
    let rest = fewer_by_a_weight (k + 1) i xs ys (omega arith) (omega arith) less (λ j h. le (suc j) (omega arith)) in
    let here : x * 65537 ^ k ≤ 65536 * 65537 ^ k = mul-le-mul_right (65537 ^ k) (omega arith) in
    omega (arith, next_weight k)

-- longest first puts length before number
pub puts_length_first : PutsLengthFirst longest_first
puts_length_first a b fa fb k less le =
    let w = fewer_by_a_weight 0 k a b (fa.0 ∙ sym fb.0) fa.1 less le in
    omega arith

-- fewer at the largest length where the ends of two rows differ
fewer_further : (x y : ℕ) (xs ys : List ℕ) → FewerAtTheLongest xs ys → FewerAtTheLongest (x ∷ xs) (y ∷ ys)
fewer_further x y xs ys (k, less, same) = (suc k, less, further)
  where
    further : (j : ℕ) → suc k < j → get_or (x ∷ xs) j 0 ≡ get_or (y ∷ ys) j 0
    further zero h = absurd (omega arith)
    further (suc j) h = same j (omega arith)

-- fewer at the first place, where the ends of two rows are equal
fewer_first : (x y : ℕ) (xs ys : List ℕ) → xs ≡ ys → x < y → FewerAtTheLongest (x ∷ xs) (y ∷ ys)
fewer_first x y xs ys e less = (0, less, further)
  where
    further : (j : ℕ) → 0 < j → get_or (x ∷ xs) j 0 ≡ get_or (y ∷ ys) j 0
    further zero h = absurd (omega arith)
    further (suc j) h = ap (λ zs. get_or zs j 0) e

-- two rows are equal, or one has fewer at the largest length where they differ
abbrev EqualOrFewer : List ℕ → List ℕ → Type 0
EqualOrFewer a b = (a ≡ b) ⊎ (FewerAtTheLongest a b ⊎ FewerAtTheLongest b a)

-- rows of one length are so
equal_or_fewer : (a b : List ℕ) → length a ≡ length b → EqualOrFewer a b
equal_or_fewer [] [] e = inl refl
equal_or_fewer [] (y ∷ ys) e = absurd (omega arith)
equal_or_fewer (x ∷ xs) [] e = absurd (omega arith)
equal_or_fewer (x ∷ xs) (y ∷ ys) e = ⊎_elim same (⊎_elim less more) (equal_or_fewer xs ys (omega arith))
  where
    less : FewerAtTheLongest xs ys → EqualOrFewer (x ∷ xs) (y ∷ ys)
    less d = inr (inl (fewer_further x y xs ys d))

    more : FewerAtTheLongest ys xs → EqualOrFewer (x ∷ xs) (y ∷ ys)
    more d = inr (inr (fewer_further y x ys xs d))

    same : xs ≡ ys → EqualOrFewer (x ∷ xs) (y ∷ ys)
    same d =
        let less_first : x < y → EqualOrFewer (x ∷ xs) (y ∷ ys) = λ h. inr (inl (fewer_first x y xs ys d h)) in
        let more_first : y < x → EqualOrFewer (x ∷ xs) (y ∷ ys) = λ h. inr (inr (fewer_first y x ys xs (sym d) h)) in
        ⊎_elim (λ h. inl (ap₂ ◌∷◌ h d)) (⊎_elim less_first more_first) (cases_order x y)

-- fewer at the largest length where two rows differ ranks lower
fewer_ranks_lower : (a b : Counts) → Fit a → Fit b → FewerAtTheLongest a b → longest_first a < longest_first b
fewer_ranks_lower a b fa fb (k, less, same) = puts_length_first a b fa fb k less (λ j h. omega (arith, same j h))

-- a lower rank has fewer at the largest length where two rows differ
lower_rank_has_fewer : (a b : Counts) → Fit a → Fit b → longest_first a < longest_first b → FewerAtTheLongest a b
lower_rank_has_fewer a b fa fb lower = ⊎_elim same (⊎_elim (λ less. less) more) (equal_or_fewer a b (fa.0 ∙ sym fb.0))
  where
    same : a ≡ b → FewerAtTheLongest a b
    same e = absurd (omega (arith, ap longest_first e))

    more : FewerAtTheLongest b a → FewerAtTheLongest a b
    more d = absurd (omega (arith, fewer_ranks_lower b a fb fa d))

-- both readings of longest first are the same
pub both_readings : LongestFirstReadBothWays
both_readings a b fa fb =
    (λ lower. lower_rank_has_fewer a b fa fb (ltb-true _ _ lower), λ fewer. lt-ltb _ _ (fewer_ranks_lower a b fa fb fewer))

-- past the last entry any two rows are equal
equal_past_the_end : (k : ℕ) (a b : Counts) → Fit a → Fit b → ((j : ℕ) → k ≤ j → j < lengths → count j a ≡ count j b)
    → (j : ℕ) → k ≤ j → count j a ≡ count j b
equal_past_the_end k a b fa fb same j h =
    ⊎_elim (same j h) (λ past. get_or_past a j 0 (omega arith) ∙ sym (get_or_past b j 0 (omega arith))) (cases_lt j lengths)

-- where rows that are equal beyond a place differ at it, this place decides
pub place_decides : (k : ℕ) (a b : Counts) → Fit a → Fit b → count k a ≢ count k b → ((j : ℕ) → k < j → j < lengths → count j a ≡ count j b)
    → nat_lt (count k a) (count k b) ≡ better longest_first a b
place_decides k a b fa fb differ same = ⊎_elim (λ e. absurd (differ e)) (⊎_elim less more) (cases_order (count k a) (count k b))
  where
    beyond : (j : ℕ) → k < j → count j a ≡ count j b
    beyond = equal_past_the_end (suc k) a b fa fb same

    less : count k a < count k b → nat_lt (count k a) (count k b) ≡ better longest_first a b
    less h = lt-ltb _ _ h ∙ sym (lt-ltb _ _ (fewer_ranks_lower a b fa fb (k, h, beyond)))

    more : count k b < count k a → nat_lt (count k a) (count k b) ≡ better longest_first a b
    more h = let r = fewer_ranks_lower b a fb fa (k, h, λ j l. sym (beyond j l)) in le-ltb _ _ (omega arith) ∙ sym (le-ltb _ _ (omega arith))

-- of rows that are equal at every length neither is better
pub equal_beat_neither : (a b : Counts) → Fit a → Fit b → ((j : ℕ) → j < lengths → count j a ≡ count j b) → better longest_first a b ≡ false
equal_beat_neither a b fa fb same =
    let all = equal_past_the_end 0 a b fa fb (λ j _. same j) in
    le-ltb _ _ (no_more_no_heavier 0 b a (fb.0 ∙ sym fa.0) (λ j. omega (arith, all j (omega arith))))
