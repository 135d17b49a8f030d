-- The four facts of a book, from the tests by recursion to single lines and
-- back. Assumes nothing.
use Rattle.std.proofs.Common.{◌≡◌, ℕ, zero, suc, ◌-◌, ◌<◌, ◌≤◌, Bool, true, false, not, ◌&&◌, ◌||◌, List, [], ◌∷◌, ◌++◌, length, get_or, take, drop, ℤ, pos, neg_ℤ, nat_abs, Decides, sym, refl, ◌∙◌, subst, arith}
use mathlib.Core.Bool.{or-false}
use Rattle.std.specs.List.{AllByRecursion}
use Rattle.std.proofs.ByRecursion.{All-get_or, All-from_get_or, Decides-by_and}
use Rattle.std.proofs.lemmas.List.{append-nil, append_assoc}
use Rattle.std.proofs.lemmas.Bool.{false≢true, and_parts, and_from}
use Rattle.std.proofs.lemmas.Bool.Decides.{Decides-like, Decides-not, Decides-and}
use Rattle.lines.specs.declared.line.Origin.{Origin}
use Rattle.lines.specs.declared.line.Origin.TheVariants.{Given, Resolved, Widened}
use Rattle.std.specs.List.{list_any, list_all}
use Rattle.clauses.specs.Clauses.{sign, Signs, holds, clean, within, same, has, included, clash_in, resolvent}
use Rattle.lines.specs.Lines.{Candidate, clauses_in, line, follows, follow, apart, keeps_facts}
use Rattle.clauses.proofs.Literals.{same-holds, holds_same, included-holds, holds-included, within-holds, holds-within}
use Rattle.clause_laws.specs.Facts.{line_at, origins, Stands, of_variable, Follows, KeepingIsTheFourFacts}
use Rattle.clause_laws.proofs.Assignments.{neither}
use Rattle.clause_laws.proofs.Holding.{resolvent-holds}

abbrev Alike : Signs → Signs → Type 0
Alike c d = (l : ℤ) → holds l c ≡ holds l d

decides_same : (c d : Signs) → Decides (same c d) (Alike c d)
decides_same c d = (same-holds c d, holds_same c d)

-- ---- from places to line numbers

place : (i : ℕ) → suc i - 1 ≡ i
place i = omega arith

by_number : (cs : List Signs) (P : ℕ → Type 0) (r : Bool)
    → Decides r ((i : ℕ) → i < length cs → P i) → Decides r ((k : ℕ) → Stands cs k → P (k - 1))
by_number cs P r d =
    Decides-like r
    (λ h k s. h (k - 1) (omega (arith, s.0, s.1)))
    (λ h i l. subst P (place i) (h (suc i) (omega arith, omega arith))) d

each_line : (p : Signs → Bool) (P : Signs → Type 0) → ((c : Signs) → Decides (p c) (P c))
    → (cs : List Signs) → Decides (list_all p cs) ((k : ℕ) → Stands cs k → P (line_at cs k))
each_line p P each cs =
    by_number cs (λ i. P (get_or cs i [])) (list_all p cs)
    (Decides-like (list_all p cs) (λ h i l. All-get_or P cs i [] l h) (All-from_get_or P cs []) (Decides-by_and p P (list_all p) each refl (λ _ _. refl) cs))

-- ---- no variable both ways

abbrev OneWay : Signs → Type 0
OneWay c = (v : ℕ) → holds (pos v) c ≡ true → holds (neg_ℤ (pos v)) c ≡ true → ⊥

clean-one_way : (c : Signs) → clean c ≡ true → OneWay c
clean-one_way c h zero e f = false≢true e
clean-one_way [] h (suc k) e f = false≢true e
clean-one_way (sign true true ∷ c) h (suc zero) e f = false≢true h
clean-one_way (sign true false ∷ c) h (suc zero) e f = false≢true f
clean-one_way (sign false q ∷ c) h (suc zero) e f = false≢true e
clean-one_way (sign p q ∷ c) h (suc (suc k)) e f = clean-one_way c (and_parts (not (p && q)) (clean c) h).1 (suc k) e f

one_way-clean : (c : Signs) → OneWay c → clean c ≡ true
one_way-clean [] h = refl
one_way-clean (sign p q ∷ c) h = and_from (not (p && q)) (clean c) (go p q (h 1)) (one_way-clean c further)
  where
    go : (x y : Bool) → (x ≡ true → y ≡ true → ⊥) → not (x && y) ≡ true
    go true true f = absurd (f refl refl)
    go true false f = refl
    go false y f = refl

    further : OneWay c
    further zero e f = false≢true e
    further (suc k) e f = h (suc (suc k)) e f

-- ---- no two the same

decides_new : (c : Signs) (cs : List Signs) → Decides (not (has c cs)) (AllByRecursion (λ d. Alike c d → ⊥) cs)
decides_new c cs =
    Decides-by_and (λ d. not (same c d)) (λ d. Alike c d → ⊥) (λ ds. not (has c ds))
    (λ d. Decides-not (same c d) (decides_same c d)) refl (λ d ds. sym (neither (same c d) (has c ds))) cs

abbrev Different : List Signs → ℕ → ℕ → Type 0
Different cs i j = Alike (get_or cs i []) (get_or cs j []) → ⊥

apart_differ : (cs : List Signs) → apart cs ≡ true → (i j : ℕ) → i < j → j < length cs → Different cs i j
apart_differ [] h i j o l = absurd (omega arith)
apart_differ (c ∷ cs) h i zero o l = absurd (omega arith)
apart_differ (c ∷ cs) h zero (suc j) o l =
    All-get_or (λ d. Alike c d → ⊥) cs j [] (omega arith) ((decides_new c cs).0 (and_parts (not (has c cs)) (apart cs) h).0)
apart_differ (c ∷ cs) h (suc i) (suc j) o l =
    apart_differ cs (and_parts (not (has c cs)) (apart cs) h).1 i j (omega arith) (omega arith)

differ_apart : (cs : List Signs) → ((i j : ℕ) → i < j → j < length cs → Different cs i j) → apart cs ≡ true
differ_apart [] h = refl
differ_apart (c ∷ cs) h =
    and_from (not (has c cs)) (apart cs)
    ((decides_new c cs).1 (All-from_get_or (λ d. Alike c d → ⊥) cs [] (λ j l. h 0 (suc j) (omega arith) (omega arith))))
    (differ_apart cs (λ i j o l. h (suc i) (suc j) (omega arith) (omega arith)))

abbrev AllDifferent : List Signs → Type 0
AllDifferent cs = (i j : ℕ) → Stands cs i → Stands cs j → i < j → Different cs (i - 1) (j - 1)

decides_apart : (cs : List Signs) → Decides (apart cs) (AllDifferent cs)
decides_apart cs =
    (λ h i j s t o. apart_differ cs h (i - 1) (j - 1) (omega (arith, s.0)) (omega (arith, t.0, t.1)), λ h. differ_apart cs (from h))
  where
    from : AllDifferent cs → (i j : ℕ) → i < j → j < length cs → Different cs i j
    from h i j o l =
        subst (λ x. Different cs x j) (place i)
        (subst (Different cs (suc i - 1)) (place j) (h (suc i) (suc j) (omega arith, omega arith) (omega arith, omega arith) (omega arith)))

-- ---- each follows

decides_place : (p : Signs → Bool) (P : Signs → Type 0) → ((c : Signs) → Decides (p c) (P c))
    → (i : ℕ) (cs : List Signs) → Decides (list_any p (take 1 (drop i cs))) ((i < length cs) × P (get_or cs i []))
decides_place p P each zero [] = (λ e. absurd (false≢true e), λ h. absurd (omega (arith, h.0)))
decides_place p P each (suc i) [] = (λ e. absurd (false≢true e), λ h. absurd (omega (arith, h.0)))
decides_place p P each zero (c ∷ cs) = (λ e. (omega arith, (each c).0 (sym (or-false (p c)) ∙ e)), λ h. or-false (p c) ∙ (each c).1 h.1)
decides_place p P each (suc i) (c ∷ cs) =
    Decides-like (list_any p (take 1 (drop i cs))) (λ h. (omega (arith, h.0), h.1)) (λ h. (omega (arith, h.0), h.1)) (decides_place p P each i cs)

-- the line that is named is there, and passes
decides_line : (p : Signs → Bool) (P : Signs → Type 0) → ((c : Signs) → Decides (p c) (P c))
    → (k : ℕ) (cs : List Signs) → Decides (list_any p (line k cs)) (Stands cs k × P (line_at cs k))
decides_line p P each zero cs = (λ e. absurd (false≢true e), λ h. absurd (omega (arith, h.0.0)))
decides_line p P each (suc i) cs =
    Decides-like (list_any p (take 1 (drop i cs)))
    (λ h. ((omega arith, omega (arith, h.0)), subst (λ x. P (get_or cs x [])) (sym (place i)) h.1))
    (λ h. (omega (arith, h.0.1), subst (λ x. P (get_or cs x [])) (place i) h.1))
    (decides_place p P each i cs)

-- the clause holds just the rest of two that clash in v
abbrev Resolves : ℕ → Signs → Signs → Signs → Type 0
Resolves v c g h = (clash_in v g h ≡ true) × ((l : ℤ) → holds l c ≡ ((holds l g || holds l h) && not (of_variable v l)))

decides_resolves : (v : ℕ) (c g h : Signs) → Decides (clash_in v g h && same c (resolvent v g h)) (Resolves v c g h)
decides_resolves v c g h =
    let r = resolvent v g h in
    Decides-and (clash_in v g h) (same c r) (λ e. e, λ e. e)
    (λ e l. same-holds c r e l ∙ resolvent-holds v g h l, λ e. holds_same c r (λ l. e l ∙ sym (resolvent-holds v g h l)))

decides_follows : (older : List Signs) (o : Origin) (c : Signs) → Decides (follows older o c) (Follows older o c)
decides_follows older Given c = (λ _. tt, λ _. refl)
decides_follows older (Resolved v i j) c =
    Decides-like (follows older (Resolved v i j) c)
    (λ h. (h.0, h.1.0, h.1.1.0, h.1.1.1)) (λ h. (h.0, (h.1, (h.2, h.3))))
    (decides_line (λ g. list_any (λ h. clash_in v g h && same c (resolvent v g h)) (line j older))
    (λ g. Stands older j × Resolves v c g (line_at older j))
    (λ g. decides_line (λ h. clash_in v g h && same c (resolvent v g h)) (Resolves v c g) (decides_resolves v c g) j older) i older)
decides_follows older (Widened i) c =
    decides_line (λ g. included g c) (λ g. (l : ℤ) → holds l g ≡ true → holds l c ≡ true)
    (λ g. (included-holds g c, holds-included g c)) i older

abbrev FollowsAt : List Signs → List Candidate → ℕ → Type 0
FollowsAt older ls i = Follows (older ++ take i (clauses_in ls)) (get_or (origins ls) i Given) (get_or (clauses_in ls) i [])

decides_follow : (older : List Signs) (ls : List Candidate)
    → Decides (follow older ls) ((i : ℕ) → i < length (clauses_in ls) → FollowsAt older ls i)
decides_follow older [] = (λ _ i l. absurd (omega arith), λ _. refl)
decides_follow older (l ∷ ls) =
    let c = l.clause in
    let next = older ++ (c ∷ []) in
    Decides-like (follow older (l ∷ ls)) to from
    (Decides-and (follows older l.origin c) (follow next ls) (decides_follows older l.origin c) (decides_follow next ls))
  where
    to : (Follows older l.origin l.clause × ((i : ℕ) → i < length (clauses_in ls) → FollowsAt (older ++ (l.clause ∷ [])) ls i))
        → (i : ℕ) → i < length (clauses_in (l ∷ ls)) → FollowsAt older (l ∷ ls) i
    to h zero b = subst (λ cs. Follows cs l.origin l.clause) (sym (append-nil older)) h.0
    to h (suc i) b = rw (sym (append_assoc older (l.clause ∷ []) (take i (clauses_in ls)))) (h.1 i (omega arith))

    from : ((i : ℕ) → i < length (clauses_in (l ∷ ls)) → FollowsAt older (l ∷ ls) i)
        → Follows older l.origin l.clause × ((i : ℕ) → i < length (clauses_in ls) → FollowsAt (older ++ (l.clause ∷ [])) ls i)
    from h = (
      subst (λ cs. Follows cs l.origin l.clause) (append-nil older) (h 0 (omega arith)),
      λ i b. rw (append_assoc older (l.clause ∷ []) (take i (clauses_in ls))) (h (suc i) (omega arith)),
    )

-- ---- all four

pub four_facts : KeepingIsTheFourFacts
four_facts n ls =
    let cs = clauses_in ls in
    Decides-like (keeps_facts n ls)
    (λ h. record { one_way = λ k v s. h.0.0 k s v; different = h.0.1; within = h.1.0; following = h.1.1 })
    (λ f. ((λ k s v. f.one_way k v s, f.different), (f.within, f.following)))
    (Decides-and (list_all clean cs && apart cs) (list_all (within n) cs && follow [] ls)
    (Decides-and (list_all clean cs) (apart cs) (each_line clean OneWay (λ c. (clean-one_way c, one_way-clean c)) cs) (decides_apart cs))
    (Decides-and (list_all (within n) cs) (follow [] ls)
    (each_line (within n) (λ c. (l : ℤ) → holds l c ≡ true → nat_abs l ≤ n) (λ c. (within-holds n c, holds-within n c)) cs)
    (by_number cs (FollowsAt [] ls) (follow [] ls) (decides_follow [] ls))))
