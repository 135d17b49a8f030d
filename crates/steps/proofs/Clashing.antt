-- Clauses by their literals: a broken clause and one that is critical on the
-- opposite literal clash in just this variable. Assumes nothing.
use Rattle.std.proofs.Common.{◌≡◌, ℕ, zero, suc, Bool, true, false, not, ◌&&◌, ◌||◌, eqb, ltb, cond, List, [], ◌∷◌, get_or, ℤ, pos, negsuc, neg_ℤ, nat_abs, sym, refl, ap, ◌∙◌, ap₂, ⊎_elim, arith}
use Rattle.std.specs.List.{All, list_any, list_all}
use Rattle.std.specs.List.Sorted.{IsStrictlyIncreasing}
use Rattle.std.proofs.lemmas.Bool.{false≢true, and_parts, and_from, or_cases, or_left, or_right, not-true, not_from_false, both_ways, cases_Bool, true_from_ne_false, eqb-true, eq-eqb}
use Rattle.std.proofs.lemmas.List.Folds.{list_any_at}
use Rattle.std.proofs.lemmas.List.Sums.{list_all-from_AllPass}
use Rattle.words.specs.Bits.{width, keep}
use Rattle.words.proofs.Bits.{every_from}
use Rattle.clauses.specs.declared.value.Value.{Value}
use Rattle.clauses.specs.declared.value.Value.TheVariants.{True, False, Unset}
use Rattle.clauses.specs.Values.{Values, is_true, is_false}
use Rattle.clauses.specs.Literals.{same_literal, value_of, among}
use Rattle.clauses.specs.Clauses.{Sign, sign, Signs, blank, holds, literals, clean, within, false_at, broken, critical, opposed, clash_in, clashes_from, clashes, resolvent, bar}
use Rattle.clauses.proofs.Contrary.{false-contrary}
use Rattle.clauses.proofs.Listed.{broken-listed}
use Rattle.clauses.proofs.Literals.{literal_eq, literal_self, holds-literals, broken-literals, critical-literals, clean-literals, within-holds, holds-within}
use Rattle.lines.proofs.Resolution.{clash_order}
use Rattle.clause_laws.specs.Facts.{of_variable}
use Rattle.clause_laws.proofs.Found.{found, none}
use Rattle.clause_laws.proofs.Holding.{resolvent-holds, told_rising}

-- ---- the literals that a clause holds

pub literals_held : (c : Signs) → All (λ l. holds l c ≡ true) (literals c)
literals_held c k d h =
    let l = get_or (literals c) k d in
    holds-literals l c ∙ list_any_at (same_literal l) (literals c) k d h (literal_self l)

-- a test that all its literals pass
held_passes : (t : ℤ → Bool) (c : Signs) (l : ℤ) → list_all t (literals c) ≡ true → holds l c ≡ true → t l ≡ true
held_passes t c l a h =
    let x = found (same_literal l) (literals c) (sym (holds-literals l c) ∙ h) in
    ap t (literal_eq l x.0 x.1) ∙ x.2 t a

all_held : (t : ℤ → Bool) (c : Signs) → ((l : ℤ) → holds l c ≡ true → t l ≡ true) → list_all t (literals c) ≡ true
all_held t c h = list_all-from_AllPass t (literals c) (λ k d b. h (get_or (literals c) k d) (literals_held c k d b))

pub broken-false : (m : Values) (c : Signs) (l : ℤ) → broken m c ≡ true → holds l c ≡ true → is_false (value_of m l) ≡ true
broken-false m c l b h = held_passes (λ k. is_false (value_of m k)) c l (sym (broken-literals m c) ∙ b) h

pub false-broken : (m : Values) (c : Signs) → ((l : ℤ) → holds l c ≡ true → is_false (value_of m l) ≡ true) → broken m c ≡ true
false-broken m c h = broken-literals m c ∙ all_held (λ k. is_false (value_of m k)) c h

pub critical-holds : (m : Values) (c : Signs) (l : ℤ) → critical m l c ≡ true → holds l c ≡ true
critical-holds m c l e = (and_parts (holds l c) (is_true (value_of m l)) (and_parts (holds l c && is_true (value_of m l)) _ e).0).0

-- its other literals are false
pub critical-false : (m : Values) (c : Signs) (l k : ℤ) → critical m l c ≡ true → holds k c ≡ true → (same_literal k l || is_false (value_of m k)) ≡ true
critical-false m c l k e h =
    held_passes (λ x. same_literal x l || is_false (value_of m x)) c k (and_parts (among l (literals c) && is_true (value_of m l)) _ (sym (critical-literals m l c) ∙ e)).1 h

-- ---- both ways

-- v and -v are not both false
not_both : (m : Values) (k : ℕ) → is_false (value_of m (pos (suc k))) ≡ true → is_false (value_of m (negsuc k)) ≡ true → ⊥
not_both m k e f = go (m k) e (false-contrary (m k) ∙ f)
  where
    go : (x : Value) → is_false x ≡ true → is_true x ≡ true → ⊥
    go True a b = false≢true a
    go False a b = false≢true b
    go Unset a b = false≢true a

abbrev pub OneWay : Signs → Type 0
OneWay c = (k : ℕ) → holds (pos (suc k)) c ≡ true → holds (negsuc k) c ≡ true → ⊥

pub clean-one_way : (c : Signs) → clean c ≡ true → OneWay c
clean-one_way c e k h i =
    let unheld = none (λ l. among (neg_ℤ l) (literals c)) (literals c) (not-true _ (sym (clean-literals c) ∙ e)) in
    both_ways (holds (negsuc k) c) (holds-literals (negsuc k) c ∙ not-true _ (held_passes (λ l. not (among (neg_ℤ l) (literals c))) c (pos (suc k)) unheld h)) i

pub one_way-clean : (c : Signs) → OneWay c → clean c ≡ true
one_way-clean c h = clean-literals c ∙ not_from_false _ (⊎_elim (λ e. absurd (never e)) (λ e. e) (cases_Bool (list_any (λ l. among (neg_ℤ l) (literals c)) (literals c))))
  where
    at : (l : ℤ) → holds l c ≡ true → holds (neg_ℤ l) c ≡ true → ⊥
    at (pos zero) e f = false≢true e
    at (pos (suc k)) e f = h k e f
    at (negsuc k) e f = h k f e

    never : list_any (λ l. among (neg_ℤ l) (literals c)) (literals c) ≡ true → ⊥
    never e =
        let x = found (λ l. among (neg_ℤ l) (literals c)) (literals c) e in
        at x.0 (x.2 (λ l. holds l c) (all_held (λ l. holds l c) c (λ l i. i))) (holds-literals (neg_ℤ x.0) c ∙ x.1)

-- what is broken holds no variable both ways
pub broken-clean : (m : Values) (c : Signs) → broken m c ≡ true → clean c ≡ true
broken-clean m c b = one_way-clean c (λ k h i. not_both m k (broken-false m c (pos (suc k)) b h) (broken-false m c (negsuc k) b i))

-- whatever the variables, the bar is broken
pub bar_breaks : (n : ℕ) (m : Values) → broken m (bar n m) ≡ true
unfolding bar
bar_breaks n m =
    let f : ℕ → Sign = λ k. cond (ltb k n) (sign (is_false (m k)) (is_true (m k))) blank in
    broken-listed width m f ∙ every_from width (λ k. false_at (f k) (m k)) (λ k _. place (ltb k n) (m k))
  where
    place : (b : Bool) (x : Value) → false_at (cond b (sign (is_false x) (is_true x)) blank) x ≡ true
    place true True = refl
    place true False = refl
    place true Unset = refl
    place false x = refl

-- ---- the variables in which two clauses clash

pub clashes-clash_in : (c d : Signs) (v : ℕ) → list_any (eqb v) (clashes c d) ≡ clash_in v c d
clashes-clash_in c d v = (told_rising.0 c d).0 v

-- rising numbers that are all the same are one
sole_of : (v : ℕ) (xs : List ℕ) → IsStrictlyIncreasing xs → ((u : ℕ) → list_any (eqb u) xs ≡ true → u ≡ v) → list_any (eqb v) xs ≡ true → xs ≡ v ∷ []
sole_of v [] r only h = absurd (false≢true h)
sole_of v (x ∷ []) r only h = ap (λ (u : ℕ). u ∷ []) (only x (or_left (eqb x x) false (eq-eqb x x refl)))
sole_of v (x ∷ y ∷ xs) r only h =
    let e = only x (or_left (eqb x x) (list_any (eqb x) (y ∷ xs)) (eq-eqb x x refl)) in
    let f = only y (or_right (eqb y x) (list_any (eqb y) (y ∷ xs)) (or_left (eqb y y) (list_any (eqb y) xs) (eq-eqb y y refl))) in
    absurd (omega (arith, r 0))

-- they clash in no variable but v
abbrev pub OnlyIn : ℕ → Signs → Signs → Type 0
OnlyIn v c d = (u : ℕ) → clash_in u c d ≡ true → u ≡ v

pub only_from_sole : (c d : Signs) (v : ℕ) → clashes c d ≡ v ∷ [] → OnlyIn v c d
only_from_sole c d v e u h =
    ⊎_elim (λ x. eqb-true u v x) (λ x. absurd (false≢true x)) (or_cases (eqb u v) false (sym (ap (list_any (eqb u)) e) ∙ clashes-clash_in c d u ∙ h))

pub sole_from_only : (c d : Signs) (v : ℕ) → clash_in v c d ≡ true → OnlyIn v c d → clashes c d ≡ v ∷ []
sole_from_only c d v h only =
    sole_of v (clashes c d) (told_rising.0 c d).1 (λ u e. only u (sym (clashes-clash_in c d u) ∙ e)) (clashes-clash_in c d v ∙ h)

-- ---- a broken clause and a critical one

-- one of the two holds it, and it is of another variable
rest_parts : (v : ℕ) (c d : Signs) (l : ℤ) → holds l (resolvent v c d) ≡ true → ((holds l c || holds l d) ≡ true) × (of_variable v l ≡ false)
rest_parts v c d l h =
    let p = and_parts (holds l c || holds l d) (not (of_variable v l)) (sym (resolvent-holds v c d l) ∙ h) in
    (p.0, not-true (of_variable v l) p.1)

clash_at : (l : ℤ) (g h : Signs) → holds l g ≡ true → holds (neg_ℤ l) h ≡ true → clash_in (nat_abs l) g h ≡ true
clash_at (pos zero) g h e f = absurd (false≢true e)
clash_at (pos (suc k)) g h e f =
    or_left (holds (pos (suc k)) g && holds (negsuc k) h) (holds (negsuc k) g && holds (pos (suc k)) h) (and_from (holds (pos (suc k)) g) (holds (negsuc k) h) e f)
clash_at (negsuc k) g h e f =
    or_right (holds (pos (suc k)) g && holds (negsuc k) h) (holds (negsuc k) g && holds (pos (suc k)) h) (and_from (holds (negsuc k) g) (holds (pos (suc k)) h) e f)

abs_neg : (l : ℤ) → nat_abs (neg_ℤ l) ≡ nat_abs l
abs_neg (pos zero) = refl
abs_neg (pos (suc k)) = refl
abs_neg (negsuc k) = refl

module _ (m : Values) (l : ℤ) (g h : Signs) (breaks : broken m g ≡ true) (crit : critical m (neg_ℤ l) h ≡ true) where
  -- a literal of the critical clause that isn't false is the one that it is critical on
  of_l : (k : ℤ) → holds k h ≡ true → (is_false (value_of m k) ≡ true → ⊥) → nat_abs k ≡ nat_abs l
  of_l k e unlike =
      ⊎_elim (λ x. ap nat_abs (literal_eq k (neg_ℤ l) x) ∙ abs_neg l) (λ x. absurd (unlike x))
      (or_cases (same_literal k (neg_ℤ l)) (is_false (value_of m k)) (critical-false m h (neg_ℤ l) k crit e))

  only_l : OnlyIn (nat_abs l) g h
  only_l zero e = absurd (false≢true e)
  only_l (suc k) e =
      ⊎_elim
      (λ x. let p = and_parts (holds (pos (suc k)) g) (holds (negsuc k) h) x in of_l (negsuc k) p.1 (not_both m k (broken-false m g (pos (suc k)) breaks p.0)))
      (λ x. let p = and_parts (holds (negsuc k) g) (holds (pos (suc k)) h) x in of_l (pos (suc k)) p.1 (λ f. not_both m k f (broken-false m g (negsuc k) breaks p.0)))
      (or_cases (holds (pos (suc k)) g && holds (negsuc k) h) (holds (negsuc k) g && holds (pos (suc k)) h) e)

  -- its literals of other variables are false
  rest_false : (k : ℤ) → holds k h ≡ true → of_variable (nat_abs l) k ≡ false → is_false (value_of m k) ≡ true
  rest_false k e other =
      true_from_ne_false (is_false (value_of m k))
      (λ f. both_ways (of_variable (nat_abs l) k) other (eq-eqb (nat_abs k) (nat_abs l) (of_l k e (both_ways (is_false (value_of m k)) f))))

  -- what is left of both is broken
  pub critical-broken : broken m (resolvent (nat_abs l) g h) ≡ true
  critical-broken =
      false-broken m (resolvent (nat_abs l) g h)
      (λ k e. let p = rest_parts (nat_abs l) g h k e in ⊎_elim (broken-false m g k breaks) (λ x. rest_false k x p.1) (or_cases (holds k g) (holds k h) p.0))

-- they clash in just this variable
pub critical-clashes : (m : Values) (l : ℤ) (g h : Signs) → broken m g ≡ true → holds l g ≡ true → critical m (neg_ℤ l) h ≡ true → clashes g h ≡ nat_abs l ∷ []
critical-clashes m l g h b e c = sole_from_only g h (nat_abs l) (clash_at l g h e (critical-holds m h (neg_ℤ l) c)) (only_l m l g h b c)

-- ---- what a resolvent keeps

pub resolvent-within : (n v : ℕ) (c d : Signs) → within n c ≡ true → within n d ≡ true → within n (resolvent v c d) ≡ true
resolvent-within n v c d w u =
    holds-within n (resolvent v c d)
    (λ l e. ⊎_elim (within-holds n c w l) (within-holds n d u l)
    (or_cases (holds l c) (holds l d) (rest_parts v c d l e).0))

-- of two clauses that hold no variable both ways and clash in just one
pub resolvent-clean : (v : ℕ) (c d : Signs) → clean c ≡ true → clean d ≡ true → clashes c d ≡ v ∷ [] → clean (resolvent v c d) ≡ true
resolvent-clean v c d x y e = one_way-clean (resolvent v c d) at
  where
    at : OneWay (resolvent v c d)
    at k h i =
        let p = rest_parts v c d (pos (suc k)) h in
        let q = rest_parts v c d (negsuc k) i in
        let clash = λ (z : clash_in (suc k) c d ≡ true). both_ways (eqb (suc k) v) p.1 (eq-eqb (suc k) v (only_from_sole c d v e (suc k) z)) in
        ⊎_elim
        (λ f. ⊎_elim (λ j. clean-one_way c x k f j) (λ j. clash (clash_at (pos (suc k)) c d f j)) (or_cases (holds (negsuc k) c) (holds (negsuc k) d) q.0))
        (λ f. ⊎_elim (λ j. clash (clash_at (negsuc k) c d j f)) (λ j. clean-one_way d y k f j) (or_cases (holds (negsuc k) c) (holds (negsuc k) d) q.0))
        (or_cases (holds (pos (suc k)) c) (holds (pos (suc k)) d) p.0)

-- ---- order, and a clause with itself

opposed_order : (s t : Sign) → opposed s t ≡ opposed t s
opposed_order (sign p q) (sign r u) = clash_order 1 (sign p q ∷ []) (sign r u ∷ [])

clashes_from_order : (v : ℕ) (c d : Signs) → clashes_from v c d ≡ clashes_from v d c
clashes_from_order v [] [] = refl
clashes_from_order v [] (t ∷ d) = refl
clashes_from_order v (s ∷ c) [] = refl
clashes_from_order v (s ∷ c) (t ∷ d) = ap₂ {C = List ℕ} (λ b vs. keep b v vs) (opposed_order s t) (clashes_from_order (suc v) c d)

pub clashes_order : (c d : Signs) → clashes c d ≡ clashes d c
clashes_order c d = clashes_from_order 1 c d

-- a clause that holds no variable both ways doesn't clash with itself
pub no_self_clash : (c : Signs) → clean c ≡ true → clashes c c ≡ []
no_self_clash c h = none_in (clashes c c) (λ v e. no_clash v (sym (clashes-clash_in c c v) ∙ e))
  where
    none_in : (vs : List ℕ) → ((v : ℕ) → list_any (eqb v) vs ≡ true → ⊥) → vs ≡ []
    none_in [] never = refl
    none_in (v ∷ vs) never = absurd (never v (or_left (eqb v v) (list_any (eqb v) vs) (eq-eqb v v refl)))

    no_clash : (v : ℕ) → clash_in v c c ≡ true → ⊥
    no_clash zero e = false≢true e
    no_clash (suc k) e =
        ⊎_elim
        (λ x. let p = and_parts (holds (pos (suc k)) c) (holds (negsuc k) c) x in clean-one_way c h k p.0 p.1)
        (λ x. let p = and_parts (holds (negsuc k) c) (holds (pos (suc k)) c) x in clean-one_way c h k p.1 p.0)
        (or_cases (holds (pos (suc k)) c && holds (negsuc k) c) (holds (negsuc k) c && holds (pos (suc k)) c) e)
