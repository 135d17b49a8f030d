-- What holds of each line that a step may write, and so of the first. Assumes
-- nothing.
use Rattle.std.proofs.Common.{◌≡◌, ℕ, suc, ◌+◌, ◌<◌, Bool, true, false, not, ltb, List, [], ◌∷◌, length, get_or, take, ℤ, neg_ℤ, nat_abs, Some, sym, refl, ap, subst, arith}
use Rattle.std.specs.List.{All, flat_map, filter}
use Rattle.std.proofs.Math.Seq.{drop-cons}
use Rattle.std.proofs.lemmas.List.Elements.{All-nil, All-cons, All-head, All-tail, All-append, All-filter, filter_passes}
use Rattle.std.proofs.lemmas.List.FromFn.{length-enumerate_from, get_or-enumerate_from}
use Rattle.std.proofs.lemmas.List.Sums.{AllPass-from_list_all}
use Rattle.std.proofs.lemmas.Bool.{not-true}
use Rattle.std.proofs.lemmas.Bool.Decides.{nat_tests}
use Rattle.words.specs.Bits.{keep, first}
use Rattle.clauses.specs.Values.{assigned}
use Rattle.clauses.specs.Clauses.{Signs, holds, literals, broken, critical, has, clashes, resolvent, bar}
use Rattle.lines.specs.Lines.{Candidate, resolved, widened, line, numbered}
use Rattle.lines.specs.ReadingOff.{in_one}
use Rattle.clause_laws.proofs.Found.{Of}
use Rattle.steps.specs.Writing.{fresh, broken_lines, critical_lines, younger, learnt, barred, swept}
use Rattle.steps.proofs.Clashing.{literals_held}

-- ---- lists

-- what f makes of each element that P holds of
All-flat_map : {A B : Type 0} (P : A → Type 0) (Q : B → Type 0) (f : A → List B) (xs : List A) → All P xs → ((x : A) → P x → All Q (f x)) → All Q (flat_map f xs)
All-flat_map P Q f [] h each = All-nil Q
All-flat_map P Q f (x ∷ xs) h each =
    All-append Q (f x) (flat_map f xs) (each x (All-head P x xs h)) (All-flat_map P Q f xs (All-tail P x xs h) each)

All-keep : {A : Type 0} (Q : A → Type 0) (b : Bool) (x : A) → (b ≡ true → Q x) → All Q (keep b x [])
All-keep Q true x h = All-cons Q x [] (h refl) (All-nil Q)
All-keep Q false x h = All-nil Q

All-in_one : {A : Type 0} (Q : A → Type 0) (vs : List ℕ) (f : ℕ → A) → ((v : ℕ) → vs ≡ v ∷ [] → Q (f v)) → All Q (in_one vs f)
All-in_one Q [] f h = All-nil Q
All-in_one Q (v ∷ []) f h = All-cons Q (f v) [] (h v refl) (All-nil Q)
All-in_one Q (v ∷ w ∷ vs) f h = All-nil Q

pub All-first : {A : Type 0} (Q : A → Type 0) (xs : List A) (x : A) → All Q xs → first xs ≡ Some x → Q x
All-first Q [] x h e = let z : ◌≡◌ {A = ℕ} 0 1 = cc in absurd (omega arith)
All-first Q (y ∷ xs) x h e = let same : y ≡ x = cc in subst Q same (All-head Q y xs h)

-- ---- lines and their numbers

-- line i is this clause, and what all lines pass, it passes
abbrev pub Numbered : List Signs → ℕ × Signs → Type 0
Numbered cs g = (line g.0 cs ≡ g.1 ∷ []) × Of cs g.1

pub numbered_each : (cs : List Signs) → All (Numbered cs) (numbered cs)
numbered_each cs k d h =
    let at : k < length cs = omega (arith, length-enumerate_from 1 cs) in
    let next : suc k ≡ 1 + k = omega arith in
    let c = get_or cs k d.1 in
    let named : line (suc k) cs ≡ c ∷ [] = ap (take 1) (drop-cons cs k d.1 at) in
    subst (Numbered cs) (sym (get_or-enumerate_from 1 cs k d at))
    (subst (λ (i : ℕ). line i cs ≡ c ∷ []) next named, λ t a. AllPass-from_list_all t cs a k d.1 at)

-- a numbered line that passes the test
abbrev Passing : List Signs → (ℕ × Signs → Bool) → ℕ × Signs → Type 0
Passing cs t g = Numbered cs g × (t g ≡ true)

passing_each : (cs : List Signs) (t : ℕ × Signs → Bool) → All (Passing cs t) (filter t (numbered cs))
passing_each cs t k d h = (All-filter t (Numbered cs) (numbered cs) (numbered_each cs) k d h, filter_passes t (numbered cs) k d h)

-- ---- the three steps

fresh_each : (Q : Candidate → Type 0) (cs : List Signs) (l : Candidate) → (has l.clause cs ≡ false → Q l) → All Q (fresh cs l)
fresh_each Q cs l h = All-keep Q (not (has l.clause cs)) l (λ e. h (not-true (has l.clause cs) e))

pub learnt_each : (Q : Candidate → Type 0) (cs : List Signs) (a : List Bool)
    → ((g h : ℕ × Signs) (l : ℤ) → Numbered cs g → Numbered cs h → broken (assigned a) g.1 ≡ true → holds l g.1 ≡ true → critical (assigned a) (neg_ℤ l) h.1 ≡ true
    → has (resolvent (nat_abs l) g.1 h.1) cs ≡ false → Q (resolved (nat_abs l) g.0 h.0 (resolvent (nat_abs l) g.1 h.1)))
    → All Q (learnt cs a)
unfolding learnt
learnt_each Q cs a each =
    let is_broken : ℕ × Signs → Bool = λ g. broken (assigned a) g.1 in
    let is_critical : ℤ → ℕ × Signs → Bool = λ l h. critical (assigned a) (neg_ℤ l) h.1 in
    All-flat_map (Passing cs is_broken) Q _ (broken_lines cs a) (passing_each cs is_broken)
    (λ g x. All-flat_map (λ l. holds l g.1 ≡ true) Q _ (literals g.1) (literals_held g.1)
    (λ l e. All-flat_map (Passing cs (is_critical l)) Q _ (critical_lines cs a (neg_ℤ l)) (passing_each cs (is_critical l))
    (λ h y. fresh_each Q cs _ (each g h l x.0 y.0 x.1 e y.1))))

pub barred_each : (Q : Candidate → Type 0) (cs : List Signs) (a : List Bool)
    → ((g : ℕ × Signs) → Numbered cs g → broken (assigned a) g.1 ≡ true → has (bar (length a) (assigned a)) cs ≡ false → Q (widened g.0 (bar (length a) (assigned a))))
    → All Q (barred cs a)
unfolding barred
barred_each Q cs a each =
    let is_broken : ℕ × Signs → Bool = λ g. broken (assigned a) g.1 in
    All-flat_map (Passing cs is_broken) Q _ (broken_lines cs a) (passing_each cs is_broken) (λ g x. fresh_each Q cs _ (each g x.0 x.1))

pub swept_each : (Q : Candidate → Type 0) (cs : List Signs)
    → ((g h : ℕ × Signs) (v : ℕ) → Numbered cs g → Numbered cs h → g.0 < h.0 → clashes g.1 h.1 ≡ v ∷ [] → has (resolvent v g.1 h.1) cs ≡ false → Q (resolved v g.0 h.0 (resolvent v g.1 h.1)))
    → All Q (swept cs)
unfolding swept
swept_each Q cs each =
    let is_younger : ℕ × Signs → ℕ × Signs → Bool = λ g h. ltb g.0 h.0 in
    All-flat_map (Numbered cs) Q _ (numbered cs) (numbered_each cs)
    (λ g x. All-flat_map (Passing cs (is_younger g)) Q _ (younger cs g.0) (passing_each cs (is_younger g))
    (λ h y. All-flat_map (λ l. All Q (fresh cs l)) Q (fresh cs) _
    (All-in_one (λ l. All Q (fresh cs l)) (clashes g.1 h.1) _ (λ v one. fresh_each Q cs _ (each g h v x y.0 (grind (arith, nat_tests)) one))) (λ l z. z)))
