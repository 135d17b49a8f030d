-- Where the lines of a book stand in its sheet. Assumes nothing.
use Rattle.std.proofs.Common.{◌≡◌, ℕ, zero, suc, ◌+◌, ◌-◌, ◌<◌, ◌≤◌, Bool, true, false, cond, List, [], ◌∷◌, length, get_or, take, map, refl, sym, ap, ◌∙◌, subst, arith, length-append}
use Rattle.std.proofs.Common.{◌⊎◌, inl, inr, ⊎_elim}
use Rattle.std.specs.List.{filter}
use Rattle.std.proofs.Math.ListN.{get_or-map as get_or-map-same}
use Rattle.std.proofs.lemmas.Bool.{false≢true, cases_order}
use Rattle.std.proofs.lemmas.List.{take_more, length-map, get_or_default, get_or-map, get_or_append_left, get_or-append-add, take-take}
use Rattle.words.specs.Bits.{alike}
use Rattle.lines.specs.Lines.{Candidate, given, given_clause}
use Rattle.pages.specs.Says.{of_kind, count_of, given_at, sheet_number, renumbered, part, sheet}
use Rattle.pages.specs.Laws.{Stands, ASheetRenumbers}
use Rattle.pages.proofs.Counting.{count_append, count_both, count_part}
use Rattle.pages.proofs.Filters.{filter_at, filter_from}

cases_le : (a b : ℕ) → (a ≤ b) ⊎ (b < a)
cases_le a b = ⊎_elim (λ e. inl (omega arith)) (λ o. ⊎_elim (λ h. inl (omega arith)) (λ h. inr h) o) (cases_order a b)

alike_self : (b : Bool) → alike b b ≡ true
alike_self true = refl
alike_self false = refl

pub kind_of : (l : Candidate) (b : Bool) → given l.origin ≡ b → of_kind b l ≡ true
kind_of l b e = subst (λ x. alike x b ≡ true) (sym e) (alike_self b)

pub of_its_kind : (l : Candidate) (b : Bool) → of_kind b l ≡ true → given l.origin ≡ b
of_its_kind l b e = go (given l.origin) b e
  where
    go : (x y : Bool) → alike x y ≡ true → x ≡ y
    go true true h = refl
    go true false h = absurd (false≢true h)
    go false true h = absurd (false≢true h)
    go false false h = refl

module _ (ls : List Candidate) where
  -- the number before the first of its kind
  abbrev pub start : Bool → ℕ
  start true = 0
  start false = count_of true ls

  one_more : (b : Bool) (i : ℕ) (d : Candidate) → i < length ls → given (get_or ls i d).origin ≡ b → count_of b (take (suc i) ls) ≡ suc (count_of b (take i ls))
  one_more b i d h e =
      let s : suc i ≡ i + 1 = omega arith in
      let k = kind_of (get_or ls i d) b e in
      let c = ap (λ k. count_of b (take k ls)) s ∙ ap (count_of b) (take_more ls i d h) ∙ count_append b (take i ls) (get_or ls i d ∷ [])
      ∙ ap (λ t. count_of b (take i ls) + length (cond t (get_or ls i d ∷ []) [])) k in
      omega arith

  pub number_at : (b : Bool) (i : ℕ) (d : Candidate) → i < length ls → given (get_or ls i d).origin ≡ b → sheet_number ls (suc i) ≡ suc (start b + count_of b (take i ls))
  number_at b i d h e = go b (one_more b i d h e) (at ∙ e)
    where
      at : given_at ls (suc i) ≡ given (get_or ls i d).origin
      at = let s : suc i - 1 ≡ i = omega arith in ap (λ k. get_or (map (λ (l : Candidate). given l.origin) ls) k false) s ∙ get_or-map (λ (l : Candidate). given l.origin) ls i d false h

      go : (x : Bool) → count_of x (take (suc i) ls) ≡ suc (count_of x (take i ls)) → given_at ls (suc i) ≡ x → sheet_number ls (suc i) ≡ suc (start x + count_of x (take i ls))
      go true n g = ap (λ t. cond t (count_of true (take (suc i) ls)) (count_of true ls + count_of false (take (suc i) ls))) g ∙ (omega arith)
      go false n g = ap (λ t. cond t (count_of true (take (suc i) ls)) (count_of true ls + count_of false (take (suc i) ls))) g ∙ (omega arith)

  -- which stands there
  pub part_length : (b : Bool) (f : ℕ → ℕ) → length (part b f ls) ≡ count_of b ls
  part_length b f = length-map (filter (of_kind b) ls) (renumbered f)

  pub sheet_at : (b : Bool) (m : ℕ) (d : Candidate) → m < count_of b ls → get_or (sheet ls) (start b + m) d ≡ get_or (part b (sheet_number ls) ls) m d
  sheet_at true m d h =
      let f = sheet_number ls in
      let z : 0 + m ≡ m = omega arith in
      let l : m < length (part true f ls) = omega (arith, part_length true f) in
      ap (λ k. get_or (sheet ls) k d) z ∙ get_or_append_left (part true f ls) (part false f ls) d m l
  sheet_at false m d h =
      let f = sheet_number ls in
      ap (λ k. get_or (sheet ls) (k + m) d) (sym (part_length true f)) ∙ get_or-append-add (part true f ls) (part false f ls) m d

  pub sheet_length : length (sheet ls) ≡ length ls
  sheet_length =
      let f = sheet_number ls in
      omega (arith, length-append (part true f ls) (part false f ls), part_length true f, part_length false f, count_both ls)

  -- of line i: its kind, its number, and where it is among its kind
  pub record Placed (i : ℕ) : Type 0 where
    pub kind : Bool
    pub is : (d : Candidate) → given (get_or ls i d).origin ≡ kind
    pub number : sheet_number ls (suc i) ≡ suc (start kind + count_of kind (take i ls))
    pub below : count_of kind (take i ls) < count_of kind ls
    pub here : (d : Candidate) → get_or (filter (of_kind kind) ls) (count_of kind (take i ls)) d ≡ get_or ls i d

  pub placed : (i : ℕ) → i < length ls → Placed i
  placed i h =
      let e : Candidate = given_clause [] in
      let b = given (get_or ls i e).origin in
      let is : (d : Candidate) → given (get_or ls i d).origin ≡ b = λ d. ap (λ (l : Candidate). given l.origin) (get_or_default ls i d e h) in
      record {
        kind = b;
        is = is;
        number = number_at b i e h refl;
        below = (filter_at (of_kind b) ls i e h (kind_of (get_or ls i e) b refl)).0;
        here = λ d. (filter_at (of_kind b) ls i d h (kind_of (get_or ls i d) b (is d))).1;
      }

  pub start_fits : (b : Bool) → start b + count_of b ls ≤ length ls
  start_fits true = omega (arith, count_both ls)
  start_fits false = omega (arith, count_both ls)

  rises : (b : Bool) (i j : ℕ) → i < j → i < length ls → ((d : Candidate) → given (get_or ls i d).origin ≡ b) → count_of b (take i ls) < count_of b (take j ls)
  rises b i j o h is =
      let e : Candidate = given_clause [] in
      let m = one_more b i e h (is e) in
      let l : suc i ≤ j = omega arith in
      let t = ap (count_of b) (take-take (suc i) j ls l) in
      omega (arith, count_part b (suc i) (take j ls))

  stands_there : (k : ℕ) → Stands ls k → Stands ls (sheet_number ls k)
  stands_there zero s = absurd (omega (arith, s.0))
  stands_there (suc i) s =
      let h : i < length ls = omega (arith, s.1) in
      let p = placed i h in
      let n = p.number in
      let b = p.below in
      let f = start_fits p.kind in
      (omega arith, omega arith)

  moved_there : (k : ℕ) (d : Candidate) → Stands ls k → get_or (sheet ls) (sheet_number ls k - 1) (renumbered (sheet_number ls) d) ≡ renumbered (sheet_number ls) (get_or ls (k - 1) d)
  moved_there zero d s = absurd (omega (arith, s.0))
  moved_there (suc i) d s =
      let h : i < length ls = omega (arith, s.1) in
      let p = placed i h in
      let f = sheet_number ls in
      let c : ℕ = count_of p.kind (take i ls) in
      let n = p.number in
      let at : sheet_number ls (suc i) - 1 ≡ start p.kind + c = omega arith in
      let z : i ≡ suc i - 1 = omega arith in
      ap (λ k. get_or (sheet ls) k (renumbered f d)) at ∙ sheet_at p.kind c (renumbered f d) p.below
      ∙ get_or-map-same (renumbered f) (filter (of_kind p.kind) ls) c d ∙ ap (renumbered f) (p.here d ∙ ap (λ k. get_or ls k d) z)

  comes : (b : Bool) (m : ℕ) → m < count_of b ls → (k : ℕ) × Stands ls k × (sheet_number ls k ≡ suc (start b + m))
  comes b m h =
      let e : Candidate = given_clause [] in
      let s = filter_from (of_kind b) ls m h in
      let l = s.1 in
      (suc s.0, (omega arith, omega arith), number_at b s.0 e s.1 (of_its_kind (get_or ls s.0 e) b (s.3 e)) ∙ ap (λ c. suc (start b + c)) s.2)

  pub comes_from : (m : ℕ) → Stands ls m → (k : ℕ) × Stands ls k × (sheet_number ls k ≡ m)
  comes_from m s =
      ⊎_elim
      (λ h.
      let j : m - 1 < count_of true ls = omega (arith, s.0) in
      let c = comes true (m - 1) j in
      let e = c.2 in
      (c.0, c.1, omega (arith, s.0)))
      (λ h.
      let j : (m - 1) - count_of true ls < count_of false ls = omega (arith, s.0, s.1, count_both ls) in
      let c = comes false ((m - 1) - count_of true ls) j in
      let e = c.2 in
      (c.0, c.1, omega (arith, s.0)))
      (cases_le m (count_of true ls))

  below_same : (b : Bool) (i j : ℕ) → ((d : Candidate) → given (get_or ls i d).origin ≡ b) → ((d : Candidate) → given (get_or ls j d).origin ≡ b) → i < length ls → j < length ls
      → count_of b (take i ls) ≡ count_of b (take j ls) → i ≡ j
  below_same b i j p q h k e =
      ⊎_elim (λ x. x) (λ o. ⊎_elim (λ l. let r = rises b i j l h p in absurd (omega arith)) (λ l. let r = rises b j i l k q in absurd (omega arith)) o) (cases_order i j)

  abbrev AllOf : Bool → ℕ → Type 0
  AllOf b i = (d : Candidate) → given (get_or ls i d).origin ≡ b

  by_kinds : (i j : ℕ) (p q : Bool) → AllOf p i → AllOf q j → i < length ls → j < length ls
      → count_of p (take i ls) < count_of p ls → count_of q (take j ls) < count_of q ls → start p + count_of p (take i ls) ≡ start q + count_of q (take j ls) → i ≡ j
  by_kinds i j true true a b h k x y e = below_same true i j a b h k (omega arith)
  by_kinds i j true false a b h k x y e = absurd (omega arith)
  by_kinds i j false true a b h k x y e = absurd (omega arith)
  by_kinds i j false false a b h k x y e = below_same false i j a b h k (omega arith)

  numbers_apart : (i j : ℕ) → i < length ls → j < length ls → sheet_number ls (suc i) ≡ sheet_number ls (suc j) → i ≡ j
  numbers_apart i j h k e =
      let p = placed i h in
      let q = placed j k in
      let n = p.number in
      let m = q.number in
      by_kinds i j p.kind q.kind p.is q.is h k p.below q.below (omega arith)

  rise_by_kind : (i j : ℕ) (p : Bool) → AllOf p i → i < j → i < length ls → count_of p (take i ls) < count_of p ls → start p + count_of p (take i ls) < start false + count_of false (take j ls)
  rise_by_kind i j true a o h x = omega arith
  rise_by_kind i j false a o h x = let r = rises false i j o h a in omega arith

  pub numbers_once : (j k : ℕ) → Stands ls j → Stands ls k → sheet_number ls j ≡ sheet_number ls k → j ≡ k
  numbers_once zero k s t e = absurd (omega (arith, s.0))
  numbers_once (suc i) zero s t e = absurd (omega (arith, t.0))
  numbers_once (suc i) (suc j) s t e = ap suc (numbers_apart i j (omega (arith, s.1)) (omega (arith, t.1)) e)

  pub stays_older : (j k : ℕ) (d : Candidate) → Stands ls j → Stands ls k → j < k → given (get_or ls (k - 1) d).origin ≡ false → sheet_number ls j < sheet_number ls k
  stays_older zero k d s t o e = absurd (omega (arith, s.0))
  stays_older (suc i) zero d s t o e = absurd (omega (arith, t.0))
  stays_older (suc i) (suc j) d s t o e =
      let h : i < length ls = omega (arith, s.1) in
      let k : j < length ls = omega (arith, t.1) in
      let z : suc j - 1 ≡ j = omega arith in
      let p = placed i h in
      let n = p.number in
      let m = number_at false j d k (subst (λ x. given (get_or ls x d).origin ≡ false) z e) in
      let below : i < j = omega arith in
      let r = rise_by_kind i j p.kind p.is below h p.below in
      omega arith

pub renumbers : ASheetRenumbers
renumbers ls = record {
  size = sheet_length ls;
  stands = stands_there ls;
  moved = moved_there ls;
  each = comes_from ls;
  once = numbers_once ls;
  older = stays_older ls;
}
