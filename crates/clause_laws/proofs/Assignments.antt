-- What an assignment of all variables of a clause says of it. Assumes nothing.
use Rattle.std.proofs.Common.{◌≡◌, Bool, true, false, not, ◌&&◌, ◌||◌, List, [], ◌∷◌, length, sym, refl, ◌∙◌, ap₂, ⊎_elim}
use Rattle.std.proofs.lemmas.Bool.{false≢true, true≢false, and_parts, and_from, and_cases, or_left, or_right, or_parts, not-false}
use Rattle.std.specs.List.{list_any, list_all}
use Rattle.clauses.specs.Values.{valued, assigned}
use Rattle.clauses.specs.Clauses.{Sign, sign, Signs, absent, one_way, clean, within, true_at, false_at, meets, broken}

-- ---- a tautology is met

both_ways_true : (s : Sign) (b : Bool) → one_way s ≡ false → true_at s (valued b) ≡ true
both_ways_true (sign true true) true e = refl
both_ways_true (sign true true) false e = refl
both_ways_true (sign true false) b e = absurd (true≢false e)
both_ways_true (sign false q) b e = absurd (true≢false e)

absent-one_way : (s : Sign) → absent s ≡ true → one_way s ≡ true
absent-one_way (sign true q) e = absurd (false≢true e)
absent-one_way (sign false q) e = refl

pub both_ways_met : (a : List Bool) (c : Signs) → within (length a) c ≡ true → clean c ≡ false → meets (assigned a) c ≡ true
both_ways_met a [] w e = absurd (true≢false e)
both_ways_met [] (s ∷ c) w e =
    let p = and_parts (absent s) (within 0 c) w in
    or_right (true_at s (assigned [] 0)) (meets (assigned []) c) (both_ways_met [] c p.1 (rw (absent-one_way s p.0) at e))
both_ways_met (b ∷ a) (s ∷ c) w e =
    ⊎_elim
    (λ x. or_left (true_at s (valued b)) (meets (assigned a) c) (both_ways_true s b x))
    (λ x. or_right (true_at s (valued b)) (meets (assigned a) c) (both_ways_met a c w x))
    (and_cases (one_way s) (clean c) e)

-- ---- broken or met

pub neither : (x y : Bool) → (not x && not y) ≡ not (x || y)
neither true y = refl
neither false y = refl

absent-false : (s : Sign) → absent s ≡ true → false_at s (assigned [] 0) ≡ not (true_at s (assigned [] 0))
absent-false (sign true q) e = absurd (false≢true e)
absent-false (sign false true) e = absurd (false≢true e)
absent-false (sign false false) e = refl

valued-false : (s : Sign) (b : Bool) → false_at s (valued b) ≡ not (true_at s (valued b))
valued-false (sign true true) true = refl
valued-false (sign true true) false = refl
valued-false (sign true false) true = refl
valued-false (sign true false) false = refl
valued-false (sign false true) true = refl
valued-false (sign false true) false = refl
valued-false (sign false false) b = refl

pub broken-or-met : (a : List Bool) (c : Signs) → within (length a) c ≡ true → broken (assigned a) c ≡ not (meets (assigned a) c)
broken-or-met a [] w = refl
broken-or-met [] (s ∷ c) w =
    let p = and_parts (absent s) (within 0 c) w in
    ap₂ {C = Bool} (λ x y. x && y) (absent-false s p.0) (broken-or-met [] c p.1)
    ∙ neither (true_at s (assigned [] 0)) (meets (assigned []) c)
broken-or-met (b ∷ a) (s ∷ c) w =
    ap₂ {C = Bool} (λ x y. x && y) (valued-false s b) (broken-or-met a c w)
    ∙ neither (true_at s (valued b)) (meets (assigned a) c)

-- where none is broken all are met
pub all_met : (a : List Bool) (cs : List Signs) → list_all (within (length a)) cs ≡ true → list_any (broken (assigned a)) cs ≡ false → list_all (meets (assigned a)) cs ≡ true
all_met a [] w h = refl
all_met a (c ∷ cs) w h =
    let p = and_parts (within (length a) c) (list_all (within (length a)) cs) w in
    let q = or_parts (broken (assigned a) c) (list_any (broken (assigned a)) cs) h in
    and_from (meets (assigned a) c) (list_all (meets (assigned a)) cs) (not-false (meets (assigned a) c) (sym (broken-or-met a c p.0) ∙ q.0)) (all_met a cs p.1 q.1)
