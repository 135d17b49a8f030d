-- Reading off from a book that holds all resolvents breaks no clause. Assumes
-- nothing.
use Rattle.std.proofs.Common.{◌≡◌, ℕ, zero, suc, ◌+◌, Bool, true, false, not, ◌⊎◌, List, [], ◌∷◌, ◌++◌, length, sym, refl, ap, ◌∙◌, subst, ap₂, inl, inr, arith}
use Rattle.std.proofs.lemmas.Bool.{false≢true, and_parts, and_from, not-true, both_ways}
use Rattle.words.specs.Bits.{later}
use Rattle.clauses.specs.declared.value.Value.{Value}
use Rattle.clauses.specs.declared.value.Value.TheVariants.{True, False, Unset}
use Rattle.std.specs.List.{list_all}
use Rattle.clauses.specs.Values.{Values, valued, assigned}
use Rattle.clauses.specs.Clauses.{Sign, sign, Signs, empty, false_at, broken, same, has, opposed, clashes_from, clashes, either, union, changed, no_plus, no_minus, resolvent}
use Rattle.lines.specs.ReadingOff.{in_one, resolvents, closed, breaks, read_on}
use Rattle.clauses.proofs.Tests.{any_ext}
use Rattle.clause_laws.specs.Laws.{ReadingOffBreaksNone}
use Rattle.clause_laws.proofs.Found.{Of, found, none}
use Rattle.clause_laws.proofs.Breaking.{unset_breaks, same-broken}

-- Two signs of one variable that are both false don't clash, and both
-- together are false.
both_false : (s t : Sign) (x : Value) → false_at s x ≡ true → false_at t x ≡ true → (opposed s t ≡ false) × (false_at (either s t) x ≡ true)
both_false (sign false false) (sign r u) x h k = (refl, k)
both_false (sign false true) (sign false u) True h k = (refl, refl)
both_false (sign false true) (sign true u) True h k = absurd (false≢true k)
both_false (sign false true) t False h k = absurd (false≢true h)
both_false (sign false true) t Unset h k = absurd (false≢true h)
both_false (sign true false) (sign r false) False h k = (refl, refl)
both_false (sign true false) (sign true true) False h k = absurd (false≢true k)
both_false (sign true false) (sign false true) False h k = absurd (false≢true k)
both_false (sign true true) t False h k = absurd (false≢true h)
both_false (sign true q) t True h k = absurd (false≢true h)
both_false (sign true q) t Unset h k = absurd (false≢true h)

both_broken : (m : Values) (v : ℕ) (c d : Signs) → broken m c ≡ true → broken m d ≡ true → (clashes_from v c d ≡ []) × (broken m (union c d) ≡ true)
both_broken m v [] d h k = (refl, k)
both_broken m v (s ∷ c) [] h k = (refl, h)
both_broken m v (s ∷ c) (t ∷ d) h k =
    let p = and_parts (false_at s (m 0)) (broken (later m) c) h in
    let q = and_parts (false_at t (m 0)) (broken (later m) d) k in
    let heads = both_false s t (m 0) p.0 q.0 in
    let tails = both_broken (later m) (suc v) c d p.1 q.1 in
    (rw heads.0 tails.0, and_from (false_at (either s t) (m 0)) (broken (later m) (union c d)) heads.1 tails.1)

-- all literals of both but those of the variable at place k
abbrev rest : ℕ → Signs → Signs → Signs
rest k c d = changed k no_plus (changed k no_minus (union c d))

-- What is if the next variable, true, breaks c and, false, breaks d: one is
-- broken before, or they clash in just this variable and the resolvent is.
-- The first variable is v.
abbrev Split : ℕ → Signs → Signs → List Bool → Type 0
Split v c d a =
    (broken (assigned a) c ≡ true) ⊎ ((broken (assigned a) d ≡ true) ⊎ ((clashes_from v c d ≡ (v + length a) ∷ []) × (broken (assigned a) (rest (length a) c d) ≡ true)))

one_before : (v : ℕ) (s t : Sign) (c d : Signs) (b : Bool) (a : List Bool) → false_at s (valued b) ≡ true → false_at t (valued b) ≡ true → Split (suc v) c d a → Split v (s ∷ c) (t ∷ d) (b ∷ a)
one_before v s t c d b a h k (inl e) = inl (and_from (false_at s (valued b)) (broken (assigned a) c) h e)
one_before v s t c d b a h k (inr (inl e)) = inr (inl (and_from (false_at t (valued b)) (broken (assigned a) d) k e))
one_before v s t c d b a h k (inr (inr e)) =
    let heads = both_false s t (valued b) h k in
    inr (inr (rw heads.0 (e.0 ∙ ap (λ w. w ∷ []) (omega arith)), and_from (false_at (either s t) (valued b)) (broken (assigned a) (rest (length a) c d)) heads.1 e.1))

split : (v : ℕ) (c d : Signs) (a : List Bool) → broken (assigned (a ++ (true ∷ []))) c ≡ true → broken (assigned (a ++ (false ∷ []))) d ≡ true → Split v c d a
split v [] d a h k = inl refl
split v (s ∷ c) [] a h k = inr (inl refl)
split v (sign true q ∷ c) (t ∷ d) [] h k = absurd (false≢true h)
split v (sign false false ∷ c) (t ∷ d) [] h k = inl h
split v (sign false true ∷ c) (sign false false ∷ d) [] h k = inr (inl k)
split v (sign false true ∷ c) (sign true true ∷ d) [] h k = absurd (false≢true k)
split v (sign false true ∷ c) (sign false true ∷ d) [] h k = absurd (false≢true k)
split v (sign false true ∷ c) (sign true false ∷ d) [] h k =
    let p = both_broken (assigned []) (suc v) c d h k in
    inr (inr (ap₂ {C = List ℕ} (λ w ws. w ∷ ws) (omega arith) p.0, p.1))
split v (s ∷ c) (t ∷ d) (b ∷ a) h k =
    let p = and_parts (false_at s (valued b)) (broken (assigned (a ++ (true ∷ []))) c) h in
    let q = and_parts (false_at t (valued b)) (broken (assigned (a ++ (false ∷ []))) d) k in
    one_before v s t c d b a p.0 q.0 (split (suc v) c d a p.1 q.1)

resolved : (c d : Signs) (k : ℕ) → clashes c d ≡ suc k ∷ [] → resolvents c d ≡ rest k c d ∷ []
resolved c d k e = ap (λ vs. in_one vs (λ v. resolvent v c d)) e

module _ (cs : List Signs) (holds-resolvents : closed cs ≡ true) where
  -- the book has the resolvent of two that clash only in the variable at place k
  has_rest : (c d : Signs) (k : ℕ) → Of cs c → Of cs d → clashes c d ≡ suc k ∷ [] → has (rest k c d) cs ≡ true
  has_rest c d k of_c of-d e =
      let h = of-d (λ y. list_all (λ r. has r cs) (resolvents c y)) (of_c (λ x. list_all (λ y. list_all (λ r. has r cs) (resolvents x y)) cs) holds-resolvents) in
      (and_parts (has (rest k c d) cs) true (subst (λ rs. list_all (λ r. has r cs) rs ≡ true) (resolved c d k e) h)).0

  -- one more variable
  next : (a : List Bool) → breaks a cs ≡ false → breaks (a ++ (not (breaks (a ++ (true ∷ [])) cs) ∷ [])) cs ≡ false
  next a unbroken = go (breaks (a ++ (true ∷ [])) cs) refl
    where
      never : (c : Signs) → Of cs c → broken (assigned a) c ≡ true → ⊥
      never c of_c e =
          both_ways (broken (assigned a) c) (not-true (broken (assigned a) c) (of_c (λ x. not (broken (assigned a) x)) (none (broken (assigned a)) cs unbroken))) e

      never_same : (c : Signs) → has c cs ≡ true → broken (assigned a) c ≡ true → ⊥
      never_same c h e = let d = found (same c) cs h in never d.0 d.2 (sym (same-broken (assigned a) c d.0 d.1) ∙ e)

      clash : (c d : Signs) → Of cs c → Of cs d → Split 1 c d a → ⊥
      clash c d of_c of-d (inl e) = never c of_c e
      clash c d of_c of-d (inr (inl e)) = never d of-d e
      clash c d of_c of-d (inr (inr e)) =
          never_same (rest (length a) c d) (has_rest c d (length a) of_c of-d (e.0 ∙ ap (λ w. w ∷ []) (omega arith))) e.1

      otherwise : breaks (a ++ (true ∷ [])) cs ≡ true → (u : Bool) → breaks (a ++ (false ∷ [])) cs ≡ u → u ≡ false
      otherwise e false f = refl
      otherwise e true f =
          let c = found (broken (assigned (a ++ (true ∷ [])))) cs e in
          let d = found (broken (assigned (a ++ (false ∷ [])))) cs f in
          absurd (clash c.0 d.0 c.2 d.2 (split 1 c.0 d.0 a c.1 d.1))

      go : (t : Bool) → breaks (a ++ (true ∷ [])) cs ≡ t → breaks (a ++ (not t ∷ [])) cs ≡ false
      go false e = e
      go true e = otherwise e (breaks (a ++ (false ∷ [])) cs) refl

  unbroken_on : (k : ℕ) (a : List Bool) → breaks a cs ≡ false → breaks (read_on k cs a) cs ≡ false
  unbroken_on zero a unbroken = unbroken
  unbroken_on (suc k) a unbroken = unbroken_on k (a ++ (not (breaks (a ++ (true ∷ [])) cs) ∷ [])) (next a unbroken)

pub reading_off : ReadingOffBreaksNone
reading_off n cs no-empty holds-resolvents =
    unbroken_on cs holds-resolvents n [] (any_ext (broken (assigned [])) empty unset_breaks cs ∙ no-empty)
