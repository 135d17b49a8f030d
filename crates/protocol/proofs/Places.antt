-- A word cut at the first place of a byte. Assumes nothing.
use Rattle.std.proofs.Common.{◌≡◌, ℕ, ◌+◌, ◌<◌, Bool, true, false, cond, ◌==◌, not, List, [], ◌∷◌, ◌++◌, length, take, drop, get_or, refl, ap, subst, ◌∙◌, arith, eq-eqb, eqb-true, length-append}
use Rattle.std.specs.List.{AllByRecursion, position_or_len, before_first, after_first}
use Rattle.std.proofs.Math.Seq.{take-append_seam, drop-append-add}
use Rattle.std.proofs.lemmas.List.Sums.{split_at_first, passes_at_first}
use Rattle.std.proofs.lemmas.Bool.Decides.{nat_tests}
use Rattle.protocol.specs.Reading.{has}

-- a word without a byte
abbrev pub Lacks : ℕ → List ℕ → Type 0
Lacks c w = AllByRecursion (λ b. (b == c) ≡ false) w

abbrev is_byte : ℕ → ℕ → Bool
is_byte c b = b == c

pub cut_found : (c : ℕ) (w : List ℕ) → has c w ≡ true
    → w ≡ before_first (is_byte c) w ++ (c ∷ after_first (is_byte c) w)
cut_found c w h =
    let inside : position_or_len (is_byte c) w < length w = grind (arith, nat_tests) in
    let here = eqb-true (get_or w _ 0) c (passes_at_first (is_byte c) w 0 inside) in
    subst
    (λ b. w ≡ before_first (is_byte c) w ++ (b ∷ after_first (is_byte c) w))
    here (split_at_first (is_byte c) w 0 inside)

place_after : (c : ℕ) (xs ys : List ℕ) → Lacks c xs
    → position_or_len (is_byte c) (xs ++ (c ∷ ys)) ≡ length xs
place_after c [] ys h =
    ap (λ b. cond (not b) (1 + position_or_len (is_byte c) ys) 0) (eq-eqb c c refl)
place_after c (x ∷ xs) ys h =
    ap (λ b. cond (not b) (1 + position_or_len (is_byte c) (xs ++ (c ∷ ys))) 0) h.0
    ∙ omega (arith, place_after c xs ys h.1)

place_none : (c : ℕ) (xs : List ℕ) → Lacks c xs → position_or_len (is_byte c) xs ≡ length xs
place_none c [] h = refl
place_none c (x ∷ xs) h =
    ap (λ b. cond (not b) (1 + position_or_len (is_byte c) xs) 0) h.0
    ∙ omega (arith, place_none c xs h.1)

pub has_none : (c : ℕ) (xs : List ℕ) → Lacks c xs → has c xs ≡ false
has_none c xs h =
    let e = place_none c xs h in
    grind (arith, nat_tests)

module _ (c : ℕ) (xs ys : List ℕ) (lacks : Lacks c xs) where
  pub has_here : has c (xs ++ (c ∷ ys)) ≡ true
  has_here =
      let e = place_after c xs ys lacks in
      let l = length-append xs (c ∷ ys) in
      grind (arith, nat_tests)

  pub before_here : before_first (is_byte c) (xs ++ (c ∷ ys)) ≡ xs
  before_here =
      ap (λ n. take n (xs ++ (c ∷ ys))) (place_after c xs ys lacks) ∙ take-append_seam xs (c ∷ ys)

  pub after_here : after_first (is_byte c) (xs ++ (c ∷ ys)) ≡ ys
  after_here =
      ap (λ n. drop (n + 1) (xs ++ (c ∷ ys))) (place_after c xs ys lacks)
      ∙ drop-append-add xs (c ∷ ys) 1
