-- Where no line is to be swept, the book holds all resolvents. Assumes nothing.
use Rattle.std.proofs.Common.{◌≡◌, ℕ, ◌+◌, ◌<◌, Bool, true, false, cond, not, ltb, List, [], ◌∷◌, ◌++◌, length, get_or, sym, refl, ap, ◌∙◌, subst, ⊎_elim, arith}
use Rattle.std.specs.List.{All, flat_map, list_all, filter}
use Rattle.std.proofs.lemmas.List.Elements.{All-nil, All-cons, All-head, All-tail, All-from_get_or}
use Rattle.std.proofs.lemmas.List.FromFn.{length-enumerate_from, get_or-enumerate_from}
use Rattle.std.proofs.lemmas.List.Sums.{AllPass-from_list_all, list_all-from_AllPass}
use Rattle.std.proofs.lemmas.Bool.{false≢true, and_from, cases_order, lt-ltb}
use Rattle.words.specs.Bits.{keep}
use Rattle.clauses.specs.Clauses.{Signs, clean, has, clashes, resolvent}
use Rattle.lines.specs.Lines.{Candidate, resolved, numbered}
use Rattle.lines.specs.ReadingOff.{in_one, resolvents, closed}
use Rattle.lines.proofs.Resolution.{resolvent_order}
use Rattle.clause_laws.proofs.ReadingOff.{reading_off}
use Rattle.steps.specs.Laws.{NothingToSweepIsClosed}
use Rattle.steps.specs.Writing.{fresh, younger, swept}
use Rattle.steps.proofs.Clashing.{clashes_order, no_self_clash}

-- ---- lists with nothing in them

append_none : {A : Type 0} (xs ys : List A) → xs ++ ys ≡ [] → (xs ≡ []) × (ys ≡ [])
append_none [] ys e = (refl, e)
append_none (x ∷ xs) ys e = let z : ◌≡◌ {A = ℕ} 0 1 = cc in absurd (omega arith)

flat_map_none : {A B : Type 0} (f : A → List B) (xs : List A) → flat_map f xs ≡ [] → All (λ x. f x ≡ []) xs
flat_map_none f [] e = All-nil (λ x. f x ≡ [])
flat_map_none f (x ∷ xs) e =
    let p = append_none (f x) (flat_map f xs) e in
    All-cons (λ y. f y ≡ []) x xs p.0 (flat_map_none f xs p.1)

-- what holds of each that passes
filter_each : {A : Type 0} (P : A → Type 0) (t : A → Bool) (xs : List A) → All P (filter t xs) → All (λ x. t x ≡ true → P x) xs
filter_each P t [] h = All-nil (λ x. t x ≡ true → P x)
filter_each P t (x ∷ xs) h = go (filter_each P t xs) (t x) refl h
  where
    go : (All P (filter t xs) → All (λ y. t y ≡ true → P y) xs) → (b : Bool) → t x ≡ b → All P (cond b (x ∷ filter t xs) (filter t xs))
        → All (λ y. t y ≡ true → P y) (x ∷ xs)
    go rest true e h = All-cons (λ y. t y ≡ true → P y) x xs (λ _. All-head P x (filter t xs) h) (rest (All-tail P x (filter t xs) h))
    go rest false e h = All-cons (λ y. t y ≡ true → P y) x xs (λ f. absurd (false≢true (sym e ∙ f))) (rest h)

keep_none : {A : Type 0} (b : Bool) (x : A) → keep (not b) x [] ≡ [] → b ≡ true
keep_none true x e = refl
keep_none false x e = let z : ◌≡◌ {A = ℕ} 0 1 = cc in absurd (omega arith)

-- ---- one pair of lines

-- all resolvents of the two are in the book
abbrev Held : List Signs → Signs → Signs → Type 0
Held cs c d = list_all (λ r. has r cs) (resolvents c d) ≡ true

none_held : (cs : List Signs) (vs : List ℕ) (f : ℕ → Candidate) → flat_map (fresh cs) (in_one vs f) ≡ [] → list_all (λ r. has r cs) (in_one vs (λ v. (f v).clause)) ≡ true
none_held cs [] f e = refl
none_held cs (v ∷ []) f e = and_from (has (f v).clause cs) true (keep_none (has (f v).clause cs) (f v) (append_none (fresh cs (f v)) [] e).0) refl
none_held cs (v ∷ w ∷ vs) f e = refl

in_one_same : {A : Type 0} (vs : List ℕ) (f g : ℕ → A) → ((v : ℕ) → f v ≡ g v) → in_one vs f ≡ in_one vs g
in_one_same [] f g e = refl
in_one_same (v ∷ []) f g e = ap (λ x. x ∷ []) (e v)
in_one_same (v ∷ w ∷ vs) f g e = refl

pub resolvents_order : (c d : Signs) → resolvents c d ≡ resolvents d c
resolvents_order c d = in_one_same (clashes c d) _ _ (λ v. resolvent_order v c d) ∙ ap (λ vs. in_one vs (λ v. resolvent v d c)) (clashes_order c d)

-- ---- all pairs

-- a pair of numbered lines, the first before the second, has nothing to write
abbrev Nothing : List Signs → ℕ × Signs → ℕ × Signs → Type 0
Nothing cs g h = ltb g.0 h.0 ≡ true → flat_map (fresh cs) (in_one (clashes g.1 h.1) (λ v. resolved v g.0 h.0 (resolvent v g.1 h.1))) ≡ []

none_swept : (cs : List Signs) → swept cs ≡ [] → All (λ g. All (Nothing cs g) (numbered cs)) (numbered cs)
unfolding swept
none_swept cs nothing i d b =
    let g = get_or (numbered cs) i d in
    filter_each (λ h. flat_map (fresh cs) (in_one (clashes g.1 h.1) (λ v. resolved v g.0 h.0 (resolvent v g.1 h.1))) ≡ []) (λ h. ltb g.0 h.0) (numbered cs)
    (flat_map_none _ (younger cs g.0) (flat_map_none _ (numbered cs) nothing i d b))

module _ (cs : List Signs) (one_way : list_all clean cs ≡ true) (nothing : swept cs ≡ []) where
  abbrev at : ℕ → Signs
  at i = get_or cs i []

  number_at : (i : ℕ) → i < length cs → get_or (numbered cs) i (0, []) ≡ (1 + i, at i)
  number_at i b = get_or-enumerate_from 1 cs i (0, []) b

  rising_held : (i j : ℕ) → i < j → j < length cs → Held cs (at i) (at j)
  rising_held i j o b =
      let a : i < length cs = omega arith in
      let n = length-enumerate_from 1 cs in
      let all = none_swept cs nothing i (0, []) (omega arith) j (0, []) (omega arith) in
      let first = subst (λ g. Nothing cs g (get_or (numbered cs) j (0, []))) (number_at i a) all in
      let both = subst (Nothing cs (1 + i, at i)) (number_at j b) first in
      none_held cs (clashes (at i) (at j)) (λ v. resolved v (1 + i) (1 + j) (resolvent v (at i) (at j))) (both (lt-ltb (1 + i) (1 + j) (omega arith)))

  alone : (c : Signs) → clean c ≡ true → Held cs c c
  alone c h = rw (no_self_clash c h) refl

  both_held : (i j : ℕ) → i < length cs → j < length cs → Held cs (at i) (at j)
  both_held i j b c =
      ⊎_elim
      (λ e. subst (λ (k : ℕ). Held cs (at i) (at k)) e (alone (at i) (AllPass-from_list_all clean cs one_way i [] b)))
      (⊎_elim (λ o. rising_held i j o c) (λ o. rw (resolvents_order (at i) (at j)) (rising_held j i o b)))
      (cases_order i j)

  pub swept_closed : closed cs ≡ true
  swept_closed =
      list_all-from_AllPass (λ c. list_all (λ d. list_all (λ r. has r cs) (resolvents c d)) cs) cs
      (All-from_get_or (λ c. list_all (λ d. list_all (λ r. has r cs) (resolvents c d)) cs ≡ true) cs []
      (λ i b. list_all-from_AllPass (λ d. list_all (λ r. has r cs) (resolvents (at i) d)) cs
      (All-from_get_or (Held cs (at i)) cs [] (λ j c. both_held i j b c))))

pub nothing_closed : NothingToSweepIsClosed
nothing_closed cs one_way nothing =
    let all = swept_closed cs one_way nothing in
    (all, λ no_empty n. reading_off n cs no_empty all)
