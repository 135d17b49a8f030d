-- How many lines are given. Assumes nothing.
use Rattle.std.proofs.Common.{◌≡◌, ℕ, ◌+◌, ◌-◌, ◌<◌, ◌≤◌, Bool, true, false, not, cond, List, [], ◌∷◌, ◌++◌, length, get_or, take, drop, map, min, refl, sym, ap, ap₂, ◌∙◌, arith, length-append}
use Rattle.std.specs.List.{filter}
use Rattle.std.proofs.lemmas.List.{map-append, take_more, take-map, take_min, take_all, drop-take, take-append-drop, take-take, length-map, length-take, get_or-map, get_or_past}
use Rattle.std.proofs.lemmas.List.Elements.{filter-append}
use Rattle.std.proofs.lemmas.List.Filters.{length-filter_both}
use Rattle.words.specs.Bits.{alike}
use Rattle.lines.specs.declared.line.Line.{Line}
use Rattle.lines.specs.Lines.{Candidate, candidate_of, candidates, given}
use Rattle.pages.specs.Says.{of_kind, count_of, given_at, sheet_number}
use Rattle.pages.specs.Numberings.{given_before}

pub count_append : (b : Bool) (ls ks : List Candidate) → count_of b (ls ++ ks) ≡ count_of b ls + count_of b ks
count_append b ls ks = ap length (filter-append (of_kind b) ls ks) ∙ length-append (filter (of_kind b) ls) (filter (of_kind b) ks)

alike_not : (b : Bool) → alike b false ≡ not (alike b true)
alike_not true = refl
alike_not false = refl

-- each line is of one kind
pub count_both : (ls : List Candidate) → count_of true ls + count_of false ls ≡ length ls
count_both ls = length-filter_both (of_kind true) (of_kind false) (λ l. alike_not (given l.origin)) ls

pub count_part : (b : Bool) (k : ℕ) (ls : List Candidate) → count_of b (take k ls) ≤ count_of b ls
count_part b k ls = let e = sym (count_append b (take k ls) (drop k ls)) ∙ ap (count_of b) (take-append-drop k ls) in omega arith

-- one more line of those of one kind
pub chosen_next : (b : Bool) (ls : List Line) (i : ℕ) (d : Line) → i < length ls
    → filter (of_kind b) (candidates (take (i + 1) ls)) ≡ filter (of_kind b) (candidates (take i ls)) ++ cond (alike (given (get_or ls i d).origin) b) (candidate_of (get_or ls i d) ∷ []) []
chosen_next b ls i d h =
    ap (λ ks. filter (of_kind b) (candidates ks)) (take_more ls i d h)
    ∙ ap (filter (of_kind b)) (map-append candidate_of (take i ls) (get_or ls i d ∷ []))
    ∙ filter-append (of_kind b) (candidates (take i ls)) (candidate_of (get_or ls i d) ∷ [])

counted : (b : Bool) (ls : List Line) (i : ℕ) (d : Line) → i < length ls → given (get_or ls i d).origin ≡ b
    → count_of true (candidates (take (i + 1) ls)) ≡ count_of true (candidates (take i ls)) + length (cond (alike b true) (candidate_of (get_or ls i d) ∷ []) [])
counted b ls i d h e =
    ap length (chosen_next true ls i d h) ∙ length-append (filter (of_kind true) (candidates (take i ls))) (cond (alike (given (get_or ls i d).origin) true) (candidate_of (get_or ls i d) ∷ []) [])
    ∙ ap (λ b. count_of true (candidates (take i ls)) + length (cond (alike b true) (candidate_of (get_or ls i d) ∷ []) [])) e

pub counted_yes : (ls : List Line) (i : ℕ) (d : Line) → i < length ls → given (get_or ls i d).origin ≡ true → count_of true (candidates (take (i + 1) ls)) ≡ count_of true (candidates (take i ls)) + 1
counted_yes ls i d h e = counted true ls i d h e

pub counted_no : (ls : List Line) (i : ℕ) (d : Line) → i < length ls → given (get_or ls i d).origin ≡ false → count_of true (candidates (take (i + 1) ls)) ≡ count_of true (candidates (take i ls))
counted_no ls i d h e = let c = counted false ls i d h e in omega arith

-- the lines from one place to another
pub counted_between : (ls : List Line) (from to begin end : ℕ) → from ≤ to → end ≡ min to (length ls) → begin ≡ min from end
    → given_before ls from + count_of true (candidates (take (end - begin) (drop begin ls))) ≡ given_before ls to
counted_between ls from to begin end h last first =
    let low : begin ≤ end = omega arith in
    let same : begin ≡ min from (length ls) = omega arith in
    let whole : begin + (end - begin) ≡ end = omega arith in
    let stretch : take (end - begin) (drop begin ls) ≡ drop begin (take end ls) = sym (drop-take begin (end - begin) ls) ∙ ap (λ k. drop begin (take k ls)) whole in
    let front : take begin (take end ls) ≡ take from ls = take-take begin end ls low ∙ ap (λ k. take k ls) same ∙ take_min from ls in
    let all : take end ls ≡ take to ls = ap (λ k. take k ls) last ∙ take_min to ls in
    let parts : candidates (take from ls) ++ candidates (drop begin (take end ls)) ≡ candidates (take to ls) =
    sym (map-append candidate_of (take from ls) (drop begin (take end ls)))
    ∙ ap (λ ks. candidates (ks ++ drop begin (take end ls))) (sym front) ∙ ap candidates (take-append-drop begin (take end ls) ∙ all) in
    ap₂ {C = ℕ} (λ ks js. count_of true ks + count_of true (candidates js)) (take-map candidate_of from ls) stretch
    ∙ sym (count_append true (candidates (take from ls)) (candidates (drop begin (take end ls))))
    ∙ ap (count_of true) (parts ∙ sym (take-map candidate_of to ls))

-- no more than there are
pub before_most : (ls : List Line) (k : ℕ) → given_before ls k ≤ min k (length ls)
before_most ls k =
    let cs = candidates ls in
    omega (arith, count_both (take k cs), length-take k cs, length-map ls candidate_of)

-- the rest of the first k are of the other kind
pub others_before : (ls : List Line) (k : ℕ) → min k (length ls) - given_before ls k ≡ count_of false (take k (candidates ls))
others_before ls k =
    let cs = candidates ls in
    omega (arith, count_both (take k cs), length-take k cs, length-map ls candidate_of)

pub before_all : (ls : List Line) → given_before ls (length ls) ≡ count_of true (candidates ls)
before_all ls =
    let cs = candidates ls in
    let e : length ls ≡ length cs = sym (length-map ls candidate_of) in
    let h : length cs ≤ length ls = omega arith in
    ap (count_of true) (take_all (length ls) cs h)

pub few_in_all : (ls : List Line) (k : ℕ) → given_before ls (length ls) + (min k (length ls) - given_before ls k) ≤ length ls
few_in_all ls k =
    let cs = candidates ls in
    omega (arith, before_all ls, others_before ls k, count_part false k cs, count_both cs, length-map ls candidate_of)

-- line k, if there is one
pub given_some : (ls : List Line) (k : ℕ) (d : Line) → k - 1 < length ls → given_at (candidates ls) k ≡ given (get_or ls (k - 1) d).origin
given_some ls k d h =
    let more : k - 1 < length (candidates ls) = omega (arith, length-map ls candidate_of) in
    get_or-map (λ (l : Candidate). given l.origin) (candidates ls) (k - 1) (candidate_of d) false more ∙ ap (λ (l : Candidate). given l.origin) (get_or-map candidate_of ls (k - 1) d (candidate_of d) h)

pub given_none : (ls : List Line) (k : ℕ) → length ls ≤ k - 1 → given_at (candidates ls) k ≡ false
given_none ls k h = get_or_past (map (λ l. given l.origin) (candidates ls)) (k - 1) false (omega (arith, length-map (candidates ls) (λ (l : Candidate). given l.origin), length-map ls candidate_of))

pub number_given : (ls : List Line) (k : ℕ) → given_at (candidates ls) k ≡ true → given_before ls k ≡ sheet_number (candidates ls) k
number_given ls k e = ap (λ b. cond b (given_before ls k) (count_of true (candidates ls) + count_of false (take k (candidates ls)))) (sym e)

pub number_other : (ls : List Line) (k all end : ℕ) → given_at (candidates ls) k ≡ false → all ≡ count_of true (candidates ls) → end ≡ min k (length ls)
    → all + (end - given_before ls k) ≡ sheet_number (candidates ls) k
number_other ls k all end e a m =
    ap₂ {C = ℕ} (λ x y. x + (y - given_before ls k)) a m
    ∙ ap (λ x. count_of true (candidates ls) + x) (others_before ls k)
    ∙ ap (λ b. cond b (given_before ls k) (count_of true (candidates ls) + count_of false (take k (candidates ls)))) (sym e)
