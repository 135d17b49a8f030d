-- The bar of an assignment is the largest clause that it breaks. Assumes
-- nothing.
use Rattle.std.proofs.Common.{◌≡◌, ℕ, zero, suc, ◌≤◌, Bool, true, false, cond, ltb, List, [], ◌∷◌, length, ℤ, pos, negsuc, sym, refl, ap, ◌∙◌, arith}
use Rattle.std.proofs.lemmas.Bool.{and_parts, and_from, ltb-false}
use Rattle.words.specs.Bits.{width, later, listed}
use Rattle.words.proofs.Variables.{listed_same}
use Rattle.clauses.specs.declared.value.Value.{Value}
use Rattle.clauses.specs.declared.value.Value.TheVariants.{True, False, Unset}
use Rattle.clauses.specs.Values.{Values, is_true, is_false, assigned}
use Rattle.clauses.specs.Literals.{value_of}
use Rattle.clauses.specs.Clauses.{Sign, sign, Signs, blank, holds_plus, holds_minus, sign_at, holds, literals_from, false_at, broken, inside, included, bar}
use Rattle.clauses.proofs.Contrary.{false-contrary}
use Rattle.clause_laws.specs.Laws.{TheBarIsBroken}
use Rattle.clause_laws.proofs.Breaking.{unset_breaks}

-- the literals of one variable that are false
abbrev against : Value → Sign
against x = sign (is_false x) (is_true x)

-- the first w places of the clause of all literals that are false
abbrev wall : ℕ → Values → Signs
wall w m = listed w (λ k. against (m k))

unset_after : (a : List Bool) (k : ℕ) → length a ≤ k → assigned a k ≡ Unset
unset_after [] k h = refl
unset_after (b ∷ a) zero h = absurd (omega arith)
unset_after (b ∷ a) (suc k) h = unset_after a k (omega arith)

-- past the variables of the assignment no literal is false, so their number
-- doesn't matter
bar_is : (a : List Bool) → bar (length a) (assigned a) ≡ wall width (assigned a)
unfolding bar
bar_is a =
    listed_same width (λ k. cond (ltb k (length a)) (against (assigned a k)) blank) (λ k. against (assigned a k)) (λ k _. place k (ltb k (length a)) refl)
  where
    place : (k : ℕ) (t : Bool) → ltb k (length a) ≡ t → cond t (against (assigned a k)) blank ≡ against (assigned a k)
    place k true e = refl
    place k false e = ap against (sym (unset_after a k (ltb-false k (length a) e)))

wall-at : (w : ℕ) (a : List Bool) (k : ℕ) → length a ≤ w → sign_at (wall w (assigned a)) k ≡ against (assigned a k)
wall-at zero [] k h = refl
wall-at zero (b ∷ a) k h = absurd (omega arith)
wall-at (suc w) a zero h = refl
wall-at (suc w) [] (suc k) h = wall-at w [] k (omega arith)
wall-at (suc w) (b ∷ a) (suc k) h = wall-at w a k (omega arith)

wall-holds : (w : ℕ) (a : List Bool) → length a ≤ w → (l : ℤ) → holds l (wall w (assigned a)) ≡ is_false (value_of (assigned a) l)
wall-holds w a h (pos zero) = refl
wall-holds w a h (pos (suc k)) = ap holds_plus (wall-at w a k h)
wall-holds w a h (negsuc k) = ap holds_minus (wall-at w a k h) ∙ false-contrary (assigned a k)

wall-broken : (w : ℕ) (m : Values) → broken m (wall w m) ≡ true
wall-broken zero m = refl
wall-broken (suc w) m = and_from (false_at (against (m 0)) (m 0)) (broken (later m) (wall w (later m))) (false-here (m 0)) (wall-broken w (later m))
  where
    false-here : (x : Value) → false_at (against x) x ≡ true
    false-here True = refl
    false-here False = refl
    false-here Unset = refl

wall-size : (w v : ℕ) (a : List Bool) → length a ≤ w → length (literals_from v (wall w (assigned a))) ≡ length a
wall-size zero v [] h = refl
wall-size zero v (b ∷ a) h = absurd (omega arith)
wall-size (suc w) v [] h = wall-size w (suc v) [] (omega arith)
wall-size (suc w) v (true ∷ a) h = ap suc (wall-size w (suc v) a (omega arith))
wall-size (suc w) v (false ∷ a) h = ap suc (wall-size w (suc v) a (omega arith))

-- one more place
wider : (w : ℕ) (m : Values) (s : Sign) (c : Signs) → (broken (later m) c ≡ true → included c (wall w (later m)) ≡ true) → broken m (s ∷ c) ≡ true → included (s ∷ c) (wall (suc w) m) ≡ true
wider w m (sign p q) c rest k =
    let r = and_parts (false_at (sign p q) (m 0)) (broken (later m) c) k in
    and_from (inside (sign p q) (against (m 0))) (included c (wall w (later m))) r.0 (rest r.1)

wall_includes : (w : ℕ) (a : List Bool) → length a ≤ w → (c : Signs) → broken (assigned a) c ≡ true → included c (wall w (assigned a)) ≡ true
wall_includes w a h [] k = refl
wall_includes zero [] h (s ∷ c) k = sym (unset_breaks (s ∷ c)) ∙ k
wall_includes zero (b ∷ a) h (s ∷ c) k = absurd (omega arith)
wall_includes (suc w) [] h (s ∷ c) k = wider w (assigned []) s c (wall_includes w [] (omega arith) c) k
wall_includes (suc w) (b ∷ a) h (s ∷ c) k = wider w (assigned (b ∷ a)) s c (wall_includes w a (omega arith) c) k

pub bar-broken : TheBarIsBroken
bar-broken a h =
    rw (bar_is a) (wall-holds width a h, wall-broken width (assigned a), wall-size width 0 a h, wall_includes width a h)
