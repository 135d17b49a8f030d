-- Bytes of words and of numbers tell them. Assumes nothing.
use Rattle.std.proofs.Common.{◌≡◌, ℕ, suc, ◌+◌, ◌*◌, ◌-◌, ◌^◌, ◌<◌, ◌≤◌, Bool, true, false, List, [], ◌∷◌, ◌++◌, map, ℤ, pos, negsuc, decimal, refl, sym, ap, ap₂, ◌∙◌, arith, rules}
use Rattle.std.specs.List.{AllByRecursion}
use Rattle.std.specs.Fmt.{signed_decimal}
use Rattle.std.specs.Str.{all_ascii_digits}
use Rattle.std.specs.Char.{is_ascii_digit}
use Rattle.std.specs.Prelude.{unsigned_abs}
use lib.Signed.{mag}
use Rattle.std.proofs.lemmas.Bool.{and_parts}
use Rattle.std.proofs.lemmas.Bool.Decides.{nat_tests}
use Rattle.std.proofs.lemmas.Fmt.{digits_decimal, signed_decimal_injective}
use Rattle.std.proofs.lemmas.Str.Parse.{IsNumeralModel, numerals_by_fold}
use Rattle.writing.specs.Items.{bytes}
use Rattle.writing.specs.Told.{words_items, numbers_items, Unbroken, Small, WordsAreTold, NumbersAreTold}

-- ---- a word ends at the first low byte

abbrev low : Bool → ℕ
low true = 10
low false = 32

low_told : (t u : Bool) → low t ≡ low u → t ≡ u
low_told true true e = refl
low_told true false e = absurd (omega arith)
low_told false true e = absurd (omega arith)
low_told false false e = refl

is_low : (t : Bool) → low t ≤ 32
is_low true = omega arith
is_low false = omega arith

head_told : (a b : ℕ) (xs ys : List ℕ) → a ∷ xs ≡ b ∷ ys → a ≡ b
head_told a b xs ys e = cc

tail_told : (a b : ℕ) (xs ys : List ℕ) → a ∷ xs ≡ b ∷ ys → xs ≡ ys
tail_told a b xs ys e = cc

span : (cs bs rs ss : List ℕ) (t u : Bool) → Unbroken cs → Unbroken bs → cs ++ (low t ∷ rs) ≡ bs ++ (low u ∷ ss) → (cs ≡ bs) × (t ≡ u) × (rs ≡ ss)
span [] [] rs ss t u h k e = (refl, low_told t u (head_told _ _ rs ss e), tail_told _ _ rs ss e)
span [] (b ∷ bs) rs ss t u h k e = let x = head_told (low t) b rs (bs ++ (low u ∷ ss)) e in let y = is_low t in absurd (omega (arith, k.0))
span (a ∷ cs) [] rs ss t u h k e = let x = head_told a (low u) (cs ++ (low t ∷ rs)) ss e in let y = is_low u in absurd (omega (arith, h.0))
span (a ∷ cs) (b ∷ bs) rs ss t u h k e =
    let r = span cs bs rs ss t u h.1 k.1 (tail_told a b (cs ++ (low t ∷ rs)) (bs ++ (low u ∷ ss)) e) in
    (ap₂ {C = List ℕ} (λ x xs. x ∷ xs) (head_told a b (cs ++ (low t ∷ rs)) (bs ++ (low u ∷ ss)) e) r.0, r.1, r.2)

first_word : (w : List ℕ) (t : Bool) (xs : List (List ℕ × Bool)) → bytes (words_items ((w, t) ∷ xs)) ≡ w ++ (low t ∷ bytes (words_items xs))
first_word w true xs = refl
first_word w false xs = refl

nonempty : (cs rs : List ℕ) (t : Bool) → [] ≡ cs ++ (low t ∷ rs) → ⊥
nonempty [] rs t e = cc
nonempty (a ∷ cs) rs t e = cc

pub words_told : WordsAreTold
words_told [] [] h k e = refl
words_told [] ((v, u) ∷ ys) h k e = absurd (nonempty v (bytes (words_items ys)) u (e ∙ first_word v u ys))
words_told ((w, t) ∷ xs) [] h k e = absurd (nonempty w (bytes (words_items xs)) t (sym e ∙ first_word w t xs))
words_told ((w, t) ∷ xs) ((v, u) ∷ ys) h k e =
    let s = span w v (bytes (words_items xs)) (bytes (words_items ys)) t u h.0 k.0 (sym (first_word w t xs) ∙ e ∙ first_word v u ys) in
    ap₂ {C = List (List ℕ × Bool)} (λ x xs. x ∷ xs) (ap₂ {C = List ℕ × Bool} (λ a b. (a, b)) s.0 s.1) (words_told xs ys h.1 k.1 s.2)

-- ---- numbers are words

abbrev read_on : ℕ → List ℕ → ℕ
read_on n [] = n
read_on n (c ∷ cs) = read_on (10 * n + (c - 48)) cs

own : IsNumeralModel (λ ds. all_ascii_digits ds ≡ true) (read_on 0)
own = numerals_by_fold _ (search rules) read_on (search rules)

digit_high : (c : ℕ) → is_ascii_digit c ≡ true → 32 < c
digit_high c h = grind (arith, nat_tests)

digits_high : (ds : List ℕ) → all_ascii_digits ds ≡ true → Unbroken ds
digits_high [] h = tt
digits_high (c ∷ cs) h = let p = and_parts (is_ascii_digit c) (all_ascii_digits cs) h in (digit_high c p.0, digits_high cs p.1)

mag_small : (z : ℤ) → unsigned_abs z < 2 ^ 63 → mag z < 2 ^ 63
mag_small (pos n) h = h
mag_small (negsuc n) h = omega arith

pub signed_unbroken : (z : ℤ) → unsigned_abs z < 2 ^ 63 → Unbroken (signed_decimal z)
signed_unbroken (pos n) h = digits_high (decimal n) (digits_decimal own n (omega arith))
signed_unbroken (negsuc n) h = (omega arith, digits_high (decimal (suc n)) (digits_decimal own (suc n) (omega arith)))

abbrev as_word : ℤ × Bool → List ℕ × Bool
as_word x = (signed_decimal x.0, x.1)

as_words : (xs : List (ℤ × Bool)) → bytes (numbers_items xs) ≡ bytes (words_items (map as_word xs))
as_words [] = refl
as_words ((z, true) ∷ xs) = ap (λ bs. signed_decimal z ++ (10 ∷ bs)) (as_words xs)
as_words ((z, false) ∷ xs) = ap (λ bs. signed_decimal z ++ (32 ∷ bs)) (as_words xs)

unbroken : (xs : List (ℤ × Bool)) → Small xs → AllByRecursion (λ x. Unbroken x.0) (map as_word xs)
unbroken [] h = tt
unbroken (x ∷ xs) h = (signed_unbroken x.0 h.0, unbroken xs h.1)

same_numbers : (xs ys : List (ℤ × Bool)) → Small xs → Small ys → map as_word xs ≡ map as_word ys → xs ≡ ys
same_numbers [] [] h k e = refl
same_numbers [] (y ∷ ys) h k e = cc
same_numbers (x ∷ xs) [] h k e = cc
same_numbers ((z, t) ∷ xs) ((w, u) ∷ ys) h k e =
    let first : as_word (z, t) ≡ as_word (w, u) = cc in
    let rest : map as_word xs ≡ map as_word ys = cc in
    let number = signed_decimal_injective z w (mag_small z h.0) (mag_small w k.0) (ap (λ x. x.0) first) in
    ap₂ {C = List (ℤ × Bool)} (λ x xs. x ∷ xs) (ap₂ {C = ℤ × Bool} (λ a b. (a, b)) number (ap (λ x. x.1) first)) (same_numbers xs ys h.1 k.1 rest)

pub numbers_told : NumbersAreTold
numbers_told xs ys h k e =
    same_numbers xs ys h k (words_told (map as_word xs) (map as_word ys) (unbroken xs h) (unbroken ys k) (sym (as_words xs) ∙ e ∙ as_words ys))
