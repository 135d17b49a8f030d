-- A clause given as signed numbers, read as a set, and the clause of the same
-- literals. Assumes nothing.
use Rattle.std.proofs.Common.{◌≡◌, ℕ, zero, suc, ◌+◌, ◌<◌, ◌≤◌, Bool, true, false, not, ◌||◌, ltb, leb, ◌⊎◌, List, [], ◌∷◌, length, ℤ, pos, negsuc, neg_ℤ, nat_abs, sym, refl, ap, ◌∙◌, inl, inr, ⊎_elim, arith}
use Rattle.std.proofs.lemmas.Bool.{false≢true, and_parts, or_cases, or_from, or_left, or_right, leb-true}
use Rattle.words.specs.Bits.{keep}
use Rattle.std.specs.List.{list_any, list_all}
use Rattle.clauses.specs.Values.{Values, is_true, contrary, assigned}
use Rattle.clauses.specs.Literals.{names, same_literal, value_of, among, met, tautology, once, set_size}
use Rattle.clauses.specs.Clauses.{Signs, literals, size, clean, within, meets}
use Rattle.clauses.specs.Sets.{SetOf}
use Rattle.clauses.proofs.Tests.{iff, any_ext}
use Rattle.clauses.proofs.Literals.{literal_eq, literal_self, literal_swap, holds-literals, size-literals, meets-literals, clean-literals, holds-within}

-- ---- lists of the same members

-- a member that passes
any_at : (t : ℤ → Bool) (xs : List ℤ) → list_any t xs ≡ true → (l : ℤ) × (among l xs ≡ true) × (t l ≡ true)
any_at t [] h = absurd (false≢true h)
any_at t (x ∷ xs) h =
    ⊎_elim (λ e. (x, or_left (same_literal x x) (among x xs) (literal_self x), e))
    (λ e. let w = any_at t xs e in (w.0, or_right (same_literal w.0 x) (among w.0 xs) w.1, w.2))
    (or_cases (t x) (list_any t xs) h)

any-among : (t : ℤ → Bool) (xs : List ℤ) (l : ℤ) → among l xs ≡ true → t l ≡ true → list_any t xs ≡ true
any-among t [] l h e = absurd (false≢true h)
any-among t (x ∷ xs) l h e =
    ⊎_elim (λ k. or_left (t x) (list_any t xs) (ap t (sym (literal_eq l x k)) ∙ e))
    (λ k. or_right (t x) (list_any t xs) (any-among t xs l k e))
    (or_cases (same_literal l x) (among l xs) h)

pub all_among : (t : ℤ → Bool) (xs : List ℤ) (l : ℤ) → list_all t xs ≡ true → among l xs ≡ true → t l ≡ true
all_among t [] l h k = absurd (false≢true k)
all_among t (x ∷ xs) l h k =
    let p = and_parts (t x) (list_all t xs) h in
    ⊎_elim (λ e. ap t (literal_eq l x e) ∙ p.0) (λ e. all_among t xs l p.1 e) (or_cases (same_literal l x) (among l xs) k)

abbrev Alike : List ℤ → List ℤ → Type 0
Alike xs ys = (l : ℤ) → among l xs ≡ among l ys

any-alike : (t : ℤ → Bool) (xs ys : List ℤ) → Alike xs ys → list_any t xs ≡ list_any t ys
any-alike t xs ys e = iff (list_any t xs) (list_any t ys) (go xs ys e) (go ys xs (λ l. sym (e l)))
  where
    go : (us vs : List ℤ) → Alike us vs → list_any t us ≡ true → list_any t vs ≡ true
    go us vs f h = let w = any_at t us h in any-among t vs w.0 (sym (f w.0) ∙ w.1) w.2

tautology-alike : (xs ys : List ℤ) → Alike xs ys → tautology xs ≡ tautology ys
tautology-alike xs ys e =
    any-alike (λ l. among (neg_ℤ l) xs) xs ys e ∙ any_ext (λ l. among (neg_ℤ l) xs) (λ l. among (neg_ℤ l) ys) (λ l. e (neg_ℤ l)) ys

-- ---- and so of the same size

-- all but one literal
abbrev others : ℤ → List ℤ → List ℤ
others x [] = []
others x (y ∷ ys) = keep (not (same_literal y x)) y (others x ys)

others_lack : (x : ℤ) (ys : List ℤ) → among x (others x ys) ≡ false
others_lack x [] = refl
others_lack x (y ∷ ys) = go (others_lack x ys) (same_literal y x) refl
  where
    go : among x (others x ys) ≡ false → (b : Bool) → same_literal y x ≡ b → among x (keep (not b) y (others x ys)) ≡ false
    go rest true e = rest
    go rest false e = or_from (same_literal x y) (among x (others x ys)) (literal_swap x y ∙ e) rest

others_keep : (x l : ℤ) (ys : List ℤ) → same_literal l x ≡ false → among l (others x ys) ≡ among l ys
others_keep x l [] h = refl
others_keep x l (y ∷ ys) h = go (others_keep x l ys h) (same_literal y x) refl
  where
    go : among l (others x ys) ≡ among l ys → (b : Bool) → same_literal y x ≡ b → among l (keep (not b) y (others x ys)) ≡ (same_literal l y || among l ys)
    go rest true e = rw (literal_eq y x e, h, rest)
    go rest false e = ap (λ b. same_literal l y || b) rest

once-or-not : (b : Bool) → once (not b) + once b ≡ 1
once-or-not true = refl
once-or-not false = refl

others-size : (x : ℤ) (ys : List ℤ) → once (among x ys) + set_size (others x ys) ≡ set_size ys
others-size x [] = refl
others-size x (y ∷ ys) = go (others-size x ys) (same_literal y x) refl
  where
    go : once (among x ys) + set_size (others x ys) ≡ set_size ys → (b : Bool) → same_literal y x ≡ b
        → once (same_literal x y || among x ys) + set_size (keep (not b) y (others x ys)) ≡ once (not (among y ys)) + set_size ys
    go rest true e = rw (literal_eq y x e, literal_self x) (omega (arith, once-or-not (among x ys)))
    go rest false e = rw (literal_swap x y, e, others_keep x y ys e) (omega arith)

set_size-alike : (xs ys : List ℤ) → Alike xs ys → set_size xs ≡ set_size ys
set_size-alike [] [] e = refl
set_size-alike [] (y ∷ ys) e = absurd (false≢true (e y ∙ or_left (same_literal y y) (among y ys) (literal_self y)))
set_size-alike (x ∷ xs) ys e = go (set_size-alike xs) (among x xs) refl
  where
    go : ((zs : List ℤ) → Alike xs zs → set_size xs ≡ set_size zs) → (b : Bool) → among x xs ≡ b → once (not b) + set_size xs ≡ set_size ys
    go rest true h = omega (arith, rest ys (λ l. again l (same_literal l x) refl ∙ e l))
      where
        again : (l : ℤ) (b : Bool) → same_literal l x ≡ b → among l xs ≡ (b || among l xs)
        again l true k = ap (λ z. among z xs) (literal_eq l x k) ∙ h
        again l false k = refl
    go rest false h =
        let new : among x ys ≡ true = sym (e x) ∙ or_left (same_literal x x) (among x xs) (literal_self x) in
        omega (arith, rest (others x ys) (λ l. apart l (same_literal l x) refl), ap (λ b. once b + set_size (others x ys)) (sym new) ∙ others-size x ys)
      where
        apart : (l : ℤ) (b : Bool) → same_literal l x ≡ b → among l xs ≡ among l (others x ys)
        apart l true k = rw (literal_eq l x k, h) (sym (others_lack x ys))
        apart l false k = sym (others_keep x l ys k ∙ sym (e l) ∙ ap (λ b. b || among l xs) k)

-- ---- a clause and the numbers of its set

alike-literals : (xs : List ℤ) (c : Signs) → SetOf xs c → Alike (literals c) xs
alike-literals xs c e l = sym (holds-literals l c) ∙ e l

pub given-meets : (n : ℕ) (xs : List ℤ) (c : Signs) → list_all (names n) xs ≡ true → SetOf xs c → (m : Values) → meets m c ≡ met m xs
given-meets n xs c h e m = meets-literals m c ∙ any-alike (λ l. is_true (value_of m l)) (literals c) xs (alike-literals xs c e)

pub given-size : (n : ℕ) (xs : List ℤ) (c : Signs) → list_all (names n) xs ≡ true → SetOf xs c → size c ≡ set_size xs
given-size n xs c h e = size-literals c ∙ set_size-alike (literals c) xs (alike-literals xs c e)

pub given-clean : (n : ℕ) (xs : List ℤ) (c : Signs) → list_all (names n) xs ≡ true → SetOf xs c → clean c ≡ not (tautology xs)
given-clean n xs c h e = clean-literals c ∙ ap not (tautology-alike (literals c) xs (alike-literals xs c e))

pub names_below : (n : ℕ) (l : ℤ) → names n l ≡ true → nat_abs l ≤ n
names_below n l h = leb-true (nat_abs l) n (and_parts (ltb 0 (nat_abs l)) (leb (nat_abs l) n) h).1

pub given-within : (n : ℕ) (xs : List ℤ) (c : Signs) → list_all (names n) xs ≡ true → SetOf xs c → within n c ≡ true
given-within n xs c h e = holds-within n c (λ l k. names_below n l (all_among (names n) xs l h (sym (e l) ∙ k)))

-- ---- tautologies

assigned-either : (a : List Bool) (k : ℕ) → k < length a → (is_true (assigned a k) ≡ true) ⊎ (is_true (contrary (assigned a k)) ≡ true)
assigned-either [] k h = absurd (omega arith)
assigned-either (true ∷ a) zero h = inl refl
assigned-either (false ∷ a) zero h = inr refl
assigned-either (b ∷ a) (suc k) h = assigned-either a k (omega arith)

either_true : (n : ℕ) (a : List Bool) (l : ℤ) → n ≤ length a → names n l ≡ true
    → (is_true (value_of (assigned a) l) ≡ true) ⊎ (is_true (value_of (assigned a) (neg_ℤ l)) ≡ true)
either_true n a (pos zero) e h = absurd (false≢true h)
either_true n a (pos (suc k)) e h = assigned-either a k (omega (arith, names_below n (pos (suc k)) h))
either_true n a (negsuc k) e h = ⊎_elim inr inl (assigned-either a k (omega (arith, names_below n (negsuc k) h)))

pub tautology-met : (n : ℕ) (xs : List ℤ) → list_all (names n) xs ≡ true → tautology xs ≡ true → (a : List Bool) → n ≤ length a → met (assigned a) xs ≡ true
tautology-met n xs h t a e =
    let w = any_at (λ l. among (neg_ℤ l) xs) xs t in
    let found = any-among (λ l. is_true (value_of (assigned a) l)) xs in
    ⊎_elim (found w.0 w.1) (found (neg_ℤ w.0) w.2) (either_true n a w.0 e (all_among (names n) xs w.0 h w.1))
