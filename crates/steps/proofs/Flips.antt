-- Neighbours, and the best of them. Assumes nothing.
use Rattle.std.proofs.Common.{◌≡◌, ℕ, zero, suc, ◌+◌, ◌<◌, ◌≤◌, Bool, true, false, cond, not, ◌&&◌, eqb, ltb, List, [], ◌∷◌, length, get_or, filter, Some, None, Option, refl, sym, ap, subst, arith}
use Rattle.std.specs.Prelude.{MatchOption}
use Rattle.std.specs.List.{list_all, range_with_len}
use Rattle.std.proofs.lemmas.Bool.{and_from, and_left, and_right, lt-ltb}
use Rattle.std.proofs.lemmas.Bool.Decides.{nat_tests}
use Rattle.words.specs.Bits.{first}
use Rattle.clauses.specs.Clauses.{Signs}
use Rattle.guides.specs.Ranks.{Rank}
use Rattle.steps.specs.Rows.{row}
use Rattle.steps.specs.Flips.{flipped, ranked_flipped, improves, unbeaten, flips, NoneBetter, Best}
use Rattle.steps.specs.Laws.{ANeighbourDiffersInOne, TheFirstFlipIsTheBest}

-- ---- neighbours

pub length-flipped : (v : ℕ) (a : List Bool) → length (flipped v a) ≡ length a
length-flipped zero a = refl
length-flipped (suc k) [] = refl
length-flipped (suc zero) (b ∷ a) = refl
length-flipped (suc (suc k)) (b ∷ a) = ap suc (length-flipped (suc k) a)

flipped-at : (v : ℕ) (a : List Bool) (k : ℕ) → k < length a → get_or (flipped v a) k true ≡ cond (eqb (k + 1) v) (not (get_or a k true)) (get_or a k true)
flipped-at zero a k h = grind (arith, nat_tests)
flipped-at (suc j) [] k h = absurd (omega arith)
flipped-at (suc zero) (b ∷ a) zero h = refl
flipped-at (suc zero) (b ∷ a) (suc k) h = grind (arith, nat_tests)
flipped-at (suc (suc j)) (b ∷ a) zero h = grind (arith, nat_tests)
flipped-at (suc (suc j)) (b ∷ a) (suc k) h = let r = flipped-at (suc j) a k (omega arith) in grind (arith, nat_tests)

pub neighbour_differs : ANeighbourDiffersInOne
neighbour_differs v a = (length-flipped v a, flipped-at v a)

-- ---- the first lowest of some numbers

-- f is nowhere from 1 to n below r
abbrev pub NoneBelow : (ℕ → ℕ) → ℕ → ℕ → Type 0
NoneBelow f r n = (u : ℕ) → 0 < u → u ≤ n → r ≤ f u

-- f is below r at v, nowhere from 1 to n lower than there, and nowhere earlier
-- as low
pub record Lowest (f : ℕ → ℕ) (r n v : ℕ) : Type 0 where
  pub named : (0 < v) × (v ≤ n)
  pub lower : f v < r
  pub lowest : (u : ℕ) → 0 < u → u ≤ n → f v ≤ f u
  pub earliest : (u : ℕ) → 0 < u → u < v → f v < f u

-- what is lowest so far, if anything is below r
abbrev pub SoFar : (ℕ → ℕ) → ℕ → ℕ → Option ℕ → Type 0
SoFar f r n o = MatchOption o (NoneBelow f r n) (Lowest f r n)

-- the value to beat
abbrev pub beaten : {A : Type 0} → A → (ℕ → A) → Option ℕ → A
beaten r f None = r
beaten r f (Some v) = f v

below_next : (P : ℕ → Type 0) (n : ℕ) → ((u : ℕ) → 0 < u → u ≤ n → P u) → P (n + 1) → (u : ℕ) → 0 < u → u ≤ n + 1 → P u
below_next P n before here u h k = go (eqb u (n + 1)) refl
  where
    go : (b : Bool) → eqb u (n + 1) ≡ b → P u
    go true e = let q : n + 1 ≡ u = grind (arith, nat_tests) in subst P q here
    go false e = before u h (grind (arith, nat_tests))

pub so_far_keeps : (f : ℕ → ℕ) (r n : ℕ) (o : Option ℕ) → SoFar f r n o → beaten r f o ≤ f (n + 1) → SoFar f r (n + 1) o
so_far_keeps f r n None h k = below_next (λ u. r ≤ f u) n h k
so_far_keeps f r n (Some v) h k = record {
  named = (h.named.0, omega (arith, h.named.1));
  lower = h.lower;
  lowest = below_next (λ u. f v ≤ f u) n h.lowest k;
  earliest = h.earliest;
}

pub so_far_takes : (f : ℕ → ℕ) (r n : ℕ) (o : Option ℕ) → SoFar f r n o → f (n + 1) < beaten r f o → SoFar f r (n + 1) (Some (n + 1))
so_far_takes f r n None h k = record {
  named = (omega arith, omega arith);
  lower = k;
  lowest = below_next (λ u. f (n + 1) ≤ f u) n (λ u p q. let l = h u p q in omega arith) (omega arith);
  earliest = λ u p q. let l = h u p (omega arith) in omega arith;
}
so_far_takes f r n (Some v) h k = record {
  named = (omega arith, omega arith);
  lower = omega (arith, h.lower);
  lowest = below_next (λ u. f (n + 1) ≤ f u) n (λ u p q. let l = h.lowest u p q in omega arith) (omega arith);
  earliest = λ u p q. let l = h.lowest u p (omega arith) in omega arith;
}

-- one of the numbers, or none, is it
so_far : (f : ℕ → ℕ) (r n : ℕ) → (o : Option ℕ) × SoFar f r n o
so_far f r zero = (None, λ u h k. absurd (omega arith))
so_far f r (suc n) = go (so_far f r n)
  where
    go : ((o : Option ℕ) × SoFar f r n o) → (o : Option ℕ) × SoFar f r (suc n) o
    go p = by_test (ltb (f (n + 1)) (beaten r f p.0)) refl
      where
        next : n + 1 ≡ suc n
        next = omega arith

        by_test : (b : Bool) → ltb (f (n + 1)) (beaten r f p.0) ≡ b → (o : Option ℕ) × SoFar f r (suc n) o
        by_test true e = (Some (n + 1), subst (λ m. SoFar f r m (Some (n + 1))) next (so_far_takes f r n p.0 p.1 (grind (arith, nat_tests))))
        by_test false e = (p.0, subst (λ m. SoFar f r m p.0) next (so_far_keeps f r n p.0 p.1 (grind (arith, nat_tests))))

-- ---- the first of a list of numbers that pass a test

first_found :
    (p : ℕ → Bool) (a n v : ℕ) → a ≤ v → v < a + n → p v ≡ true → ((u : ℕ) → a ≤ u → u < v → p u ≡ false)
    → first (filter p (range_with_len a n)) ≡ Some v
first_found p a zero v h k e before = absurd (omega arith)
first_found p a (suc n) v h k e before = go (eqb a v) refl (λ l. first_found p (a + 1) n v l (omega arith) e (λ u i j. before u (omega arith) j))
  where
    go : (b : Bool) → eqb a v ≡ b → (a + 1 ≤ v → first (filter p (range_with_len (a + 1) n)) ≡ Some v) → first (filter p (range_with_len a (suc n))) ≡ Some v
    go true f r = let q : a ≡ v = grind (arith, nat_tests) in rw (q, e) refl
    go false f r = rw (before a (omega arith) (grind (arith, nat_tests))) (r (grind (arith, nat_tests)))

first_none : (p : ℕ → Bool) (a n : ℕ) → ((u : ℕ) → a ≤ u → u < a + n → p u ≡ false) → first (filter p (range_with_len a n)) ≡ None
first_none p a zero off = refl
first_none p a (suc n) off = rw (off a (omega arith) (omega arith)) (first_none p (a + 1) n (λ u i j. off u (omega arith) (omega arith)))

all_pass : (p : ℕ → Bool) (a n : ℕ) → ((u : ℕ) → a ≤ u → u < a + n → p u ≡ true) → list_all p (range_with_len a n) ≡ true
all_pass p a zero on = refl
all_pass p a (suc n) on = and_from (p a) (list_all p (range_with_len (a + 1) n)) (on a (omega arith) (omega arith)) (all_pass p (a + 1) n (λ u i j. on u (omega arith) (omega arith)))

one_fails : (p : ℕ → Bool) (a n u : ℕ) → a ≤ u → u < a + n → p u ≡ false → list_all p (range_with_len a n) ≡ false
one_fails p a zero u h k e = absurd (omega arith)
one_fails p a (suc n) u h k e = go (eqb a u) refl (λ l. one_fails p (a + 1) n u l (omega arith) e)
  where
    go : (b : Bool) → eqb a u ≡ b → (a + 1 ≤ u → list_all p (range_with_len (a + 1) n) ≡ false) → list_all p (range_with_len a (suc n)) ≡ false
    go true f r = let q : a ≡ u = grind (arith, nat_tests) in and_left (p a) (list_all p (range_with_len (a + 1) n)) (rw q e)
    go false f r = and_right (p a) (list_all p (range_with_len (a + 1) n)) (r (grind (arith, nat_tests)))

-- ---- the flip

module _ (rank : Rank) (cs : List Signs) (a : List Bool) where
  -- the ranks of the neighbours, and of the assignment
  abbrev pub near : ℕ → ℕ
  near u = rank (ranked_flipped cs a u)

  abbrev pub here : ℕ
  here = rank (row cs a)

  abbrev best_test : ℕ → Bool
  best_test v = improves rank cs a v && unbeaten rank cs a v

  best-passes : (v : ℕ) → Best rank cs a v → best_test v ≡ true
  best-passes v h =
      and_from (ltb (near v) here) (unbeaten rank cs a v) (lt-ltb (near v) here h.lower)
      (all_pass (λ u. not (ltb (near u) (near v))) 1 (length a) (λ u i j. let l = h.lowest u (omega arith) (omega arith) in grind (arith, nat_tests)))

  earlier-fails : (v : ℕ) → Best rank cs a v → (u : ℕ) → 0 < u → u < v → best_test u ≡ false
  earlier-fails v h u i j =
      and_right (ltb (near u) here) (unbeaten rank cs a u)
      (one_fails (λ w. not (ltb (near w) (near u))) 1 (length a) v (omega (arith, h.named.0)) (omega (arith, h.named.1))
      (ap not (lt-ltb (near v) (near u) (h.earliest u i j))))

  pub best_first : (v : ℕ) → Best rank cs a v → first (flips rank cs a) ≡ Some v
  unfolding flips
  best_first v h =
      first_found best_test 1 (length a) v (omega (arith, h.named.0)) (omega (arith, h.named.1)) (best-passes v h)
      (λ u i j. earlier-fails v h u (omega arith) j)

  pub none_first : NoneBetter rank cs a → first (flips rank cs a) ≡ None
  unfolding flips
  none_first h =
      first_none best_test 1 (length a)
      (λ u i j. and_left (ltb (near u) here) (unbeaten rank cs a u) (let l = h u (omega arith) (omega arith) in grind (arith, nat_tests)))

  pub best_of : (o : Option ℕ) → SoFar near here (length a) o → MatchOption o (NoneBetter rank cs a) (Best rank cs a)
  best_of None h = h
  best_of (Some v) h = record { named = h.named; lower = h.lower; lowest = h.lowest; earliest = h.earliest }

  -- the lowest of all is the first of the flips
  pub first_is : (o : Option ℕ) → SoFar near here (length a) o → first (flips rank cs a) ≡ o
  first_is None h = none_first h
  first_is (Some v) h = best_first v (best_of (Some v) h)

pub first_flip_best : TheFirstFlipIsTheBest
first_flip_best rank cs a =
    let p = so_far (near rank cs a) (here rank cs a) (length a) in
    subst (λ o. MatchOption o (NoneBetter rank cs a) (Best rank cs a)) (sym (first_is rank cs a p.0 p.1)) (best_of rank cs a p.0 p.1)
