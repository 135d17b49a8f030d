-- What is left of a walk over the lines, and the candidates that are left with
-- it. Assumes nothing.
use Rattle.std.proofs.Common.{◌≡◌, ℕ, zero, suc, ◌+◌, ◌<◌, ◌≤◌, Bool, true, false, cond, ltb, List, [], ◌∷◌, ◌++◌, length, get_or, drop, filter, Some, None, refl, sym, ap, ◌∙◌, add-one, arith}
use Rattle.std.specs.List.{flat_map, enumerate_from}
use Rattle.std.proofs.Math.Seq.{drop-cons}
use Rattle.std.proofs.lemmas.Bool.{lt-ltb}
use Rattle.std.proofs.lemmas.Bool.Decides.{nat_tests}
use Rattle.std.proofs.lemmas.List.{drop_all}
use Rattle.words.specs.Bits.{first}
use Rattle.clauses.specs.Clauses.{Signs}
use Rattle.lines.specs.Lines.{Candidate}
use Rattle.steps.specs.Writing.{younger}

-- the lines from index i on, with their numbers
abbrev pub left : List Signs → ℕ → List (ℕ × Signs)
left cs i = enumerate_from (i + 1) (drop i cs)

-- the line at index i, with its number
abbrev pub at : List Signs → ℕ → ℕ × Signs
at cs i = (i + 1, get_or cs i [])

left_more : (cs : List Signs) (i : ℕ) → i < length cs → left cs i ≡ at cs i ∷ left cs (i + 1)
left_more cs i h = rw (drop-cons cs i [] h, add-one i) refl

left_none : (cs : List Signs) (i : ℕ) → length cs ≤ i → left cs i ≡ []
left_none cs i h = rw (drop_all i cs h) refl

-- ---- candidates

pub candidates_more : (f : ℕ × Signs → List Candidate) (cs : List Signs) (i : ℕ) → i < length cs → flat_map f (left cs i) ≡ f (at cs i) ++ flat_map f (left cs (i + 1))
candidates_more f cs i h = ap (flat_map f) (left_more cs i h)

pub candidates_none : (f : ℕ × Signs → List Candidate) (cs : List Signs) (i : ℕ) → length cs ≤ i → flat_map f (left cs i) ≡ []
candidates_none f cs i h = ap (flat_map f) (left_none cs i h)

-- those of the lines that pass
pub flat_map-filter : {A B : Type 0} (f : A → List B) (p : A → Bool) (xs : List A) → flat_map f (filter p xs) ≡ flat_map (λ x. cond (p x) (f x) []) xs
flat_map-filter f p [] = refl
flat_map-filter {A} {B} f p (x ∷ xs) = go (p x) (flat_map-filter f p xs)
  where
    go : (b : Bool) → flat_map f (filter p xs) ≡ flat_map (λ y. cond (p y) (f y) []) xs
        → flat_map f (cond b (x ∷ filter p xs) (filter p xs)) ≡ cond b (f x) [] ++ flat_map (λ y. cond (p y) (f y) []) xs
    go true h = ap (λ ys. f x ++ ys) h
    go false h = h

-- all numbers from k on are above i
above : (i k : ℕ) (cs : List Signs) → i < k → filter (λ j. ltb i j.0) (enumerate_from k cs) ≡ enumerate_from k cs
above i k [] h = refl
above i k (c ∷ cs) h = rw (lt-ltb i k h) (ap (λ js. (k, c) ∷ js) (above i (k + 1) cs (omega arith)))

-- those above i are what stands after n more
younger_from : (n k i : ℕ) (cs : List Signs) → i ≡ k + n → filter (λ j. ltb i j.0) (enumerate_from k cs) ≡ enumerate_from (i + 1) (drop (n + 1) cs)
younger_from n k i [] e = sym (ap (enumerate_from (i + 1)) (drop_all (n + 1) [] (omega arith)))
younger_from zero k i (c ∷ cs) e =
    let here : ltb i k ≡ false = grind (arith, nat_tests) in
    let next : k + 1 ≡ i + 1 = omega arith in
    rw here (above i (k + 1) cs (omega arith) ∙ ap (λ m. enumerate_from m cs) next)
younger_from (suc n) k i (c ∷ cs) e =
    let here : ltb i k ≡ false = grind (arith, nat_tests) in
    let next : suc n + 1 ≡ suc (n + 1) = omega arith in
    rw (here, next) (younger_from n (k + 1) i cs (omega arith))

-- the lines after the one at index i are those from the next index on
pub younger-left : (cs : List Signs) (i : ℕ) → younger cs (i + 1) ≡ left cs (i + 1)
younger-left cs i = younger_from i 1 (i + 1) cs (omega arith)

-- ---- the first of them

pub first-append : {A : Type 0} (xs ys : List A) (x : A) → first xs ≡ Some x → first (xs ++ ys) ≡ Some x
first-append [] ys x h = cc
first-append (z ∷ xs) ys x h = h

pub none-empty : {A : Type 0} (xs : List A) → first xs ≡ None → xs ≡ []
none-empty [] h = refl
none-empty (x ∷ xs) h = cc

-- where the whole is what is left, and the next line has a candidate, its first
-- is the first of the whole
pub first_found :
    (f : ℕ × Signs → List Candidate) (cs : List Signs) (i : ℕ) (whole after : List Candidate) (x : Candidate) → i < length cs
    → whole ≡ flat_map f (left cs i) ++ after → first (f (at cs i)) ≡ Some x → first whole ≡ Some x
first_found f cs i whole after x h e k =
    ap first (e ∙ ap (λ ys. ys ++ after) (candidates_more f cs i h))
    ∙ first-append (f (at cs i) ++ flat_map f (left cs (i + 1))) after x (first-append (f (at cs i)) (flat_map f (left cs (i + 1))) x k)
