-- A word and the bytes that it is. Assumes nothing.
use Rattle.std.proofs.Common.{◌≡◌, ℕ, ◌%◌, ◌/◌, ◌<◌, ◌≤◌, true, false, cond, ◌⊎◌, inl, inr, nat_lt, nat_le, not, ◌==◌, suc, decimal, slice_index, zero, option_and_then, List, [], ◌∷◌, ◌++◌, codes, length, replicate, Option, Some, None, Result, Ok, Err, refl, sym, ap, subst, ◌∙◌, arith, length-append}
use Rattle.std.proofs.lemmas.List.{length-replicate}
use Rattle.std.specs.Str.{bytes_eq}
use Rattle.std.proofs.lemmas.Slice.Eq.{bytes_eq-Decides}
use Rattle.std.proofs.lemmas.Bool.Decides.{nat_tests}
use Rattle.hex.specs.Hex.{encode_lower, encode_with, lower_digits, decode_of, IsBytes}
use Rattle.hex.specs.declared.error.FromHexError.{FromHexError}
use Rattle.hex.proofs.HexLemmas.{decode_of-encode_lower, decode_of-ok, length-encode_with}
use Rattle.protocol.specs.Commands.{IsHex, IsPadded, IsText, most_size}
use Rattle.protocol.specs.Reading.{hex_of, if_lower, lone, has, natural_of, padding_of, front_of, padded_of, short, text_of}
use Rattle.protocol.proofs.Tries.{both-left, both-right, both, cond-some, cond-either, then-some, same-some}
use Rattle.protocol.proofs.Places.{Lacks, cut_found, has_here, has_none, before_here, after_here}
use Rattle.protocol.proofs.Numerals.{numeral_of-some, numeral_of-digits}
use Rattle.std.specs.List.{list_all, before_first, after_first}
use Rattle.std.proofs.lemmas.Bool.{false_from_ne_true}
use Rattle.std.proofs.lemmas.List.Sums.{AllPass-from_list_all}

pub hex_of_minus : (w : List ℕ) → bytes_eq w (codes "-") ≡ true → hex_of w ≡ Some []
unfolding hex_of
hex_of_minus w h = ap (λ b. cond b (Some []) (if_lower w (decode_of w))) h

pub hex_of_digits : (w : List ℕ) → bytes_eq w (codes "-") ≡ false
    → hex_of w ≡ if_lower w (decode_of w)
unfolding hex_of
hex_of_digits w h = ap (λ b. cond b (Some []) (if_lower w (decode_of w))) h

-- ---- bytes in digits

if_lower-some : (w : List ℕ) (r : Result (List ℕ) FromHexError) (bytes : List ℕ)
    → decode_of w ≡ r → if_lower w r ≡ Some bytes
    → (w ≡ encode_lower bytes) × (0 < length bytes) × IsBytes bytes
if_lower-some w (Ok xs) bytes is h =
    let p = cond-some _ _ bytes h in
    let same = same-some xs bytes p.1 in
    let lower = (bytes_eq-Decides w (encode_lower xs)).0 (both-left _ (nat_lt 0 (length xs)) p.0) in
    let some = both-right (bytes_eq w (encode_lower xs)) _ p.0 in
    let more : 0 < length xs = grind (arith, nat_tests) in
    subst (λ l. (w ≡ encode_lower l) × (0 < length l) × IsBytes l) same
    (lower, more, (decode_of-ok w xs is).3)
if_lower-some w (Err e) bytes is h = absurd (cc)

pub hex_of-some : (w bytes : List ℕ) → hex_of w ≡ Some bytes → IsHex w bytes
unfolding hex_of
hex_of-some w bytes h =
    elim (cond-either _ (Some []) (if_lower w (decode_of w)) bytes h) [
      | inl p ↦ inl ((bytes_eq-Decides w (codes "-")).0 p.0, sym (same-some [] bytes p.1))
      | inr p ↦ inr (if_lower-some w (decode_of w) bytes refl p.1)
    ]

if_lower-encoded : (bytes : List ℕ) → 0 < length bytes → IsBytes bytes
    → if_lower (encode_lower bytes) (decode_of (encode_lower bytes)) ≡ Some bytes
if_lower-encoded bytes more fits =
    let w : List ℕ = encode_lower bytes in
    let same = (bytes_eq-Decides w w).1 refl in
    let test : nat_lt 0 (length bytes) ≡ true = grind (arith, nat_tests) in
    ap (if_lower w) (decode_of-encode_lower bytes fits)
    ∙ ap (λ b. cond b (Some bytes) None) (both (bytes_eq w w) _ same test)

-- digits are no minus sign, which has one byte
digits-no_minus : (bytes : List ℕ) → bytes_eq (encode_lower bytes) (codes "-") ≡ false
digits-no_minus bytes =
    false_from_ne_true _ (λ h.
    let same = (bytes_eq-Decides (encode_lower bytes) (codes "-")).0 h in
    let one : length (encode_lower bytes) ≡ 1 = ap length same in
    let even = length-encode_with lower_digits bytes in
    omega arith)

pub hex_of-is : (w bytes : List ℕ) → IsHex w bytes → hex_of w ≡ Some bytes
hex_of-is w bytes (inl p) =
    subst (λ v. hex_of v ≡ Some bytes) (sym p.0)
    (hex_of_minus (codes "-") refl ∙ ap Some (sym p.1))
hex_of-is w bytes (inr p) =
    subst (λ v. hex_of v ≡ Some bytes) (sym p.0)
    (hex_of_digits (encode_lower bytes) (digits-no_minus bytes) ∙ if_lower-encoded bytes p.1 p.2)

-- ---- bytes that are no digits

module _ (c : ℕ) (none : list_all (λ d. not (d == c)) lower_digits ≡ true) where
  digit_differs : (k : ℕ) → k < 16 → (slice_index lower_digits k == c) ≡ false
  digit_differs k low =
      let pass = AllPass-from_list_all (λ d. not (d == c)) lower_digits none k 0 low in
      grind (arith, nat_tests)

  digits_lack : (bytes : List ℕ) → IsBytes bytes → Lacks c (encode_lower bytes)
  unfolding encode_with
  digits_lack [] fits = tt
  digits_lack (b ∷ bytes) fits =
      let byte : b < 256 = fits 0 in (
        digit_differs (b / 16) (omega arith),
        (digit_differs (b % 16) (omega arith), digits_lack bytes (λ k. fits (suc k))),
      )

  hex_lacks : (45 == c) ≡ false → (w bytes : List ℕ) → IsHex w bytes → Lacks c w
  hex_lacks minus w bytes (inl p) = subst (Lacks c) (sym p.0) (minus, tt)
  hex_lacks minus w bytes (inr p) = subst (Lacks c) (sym p.0) (digits_lack bytes p.2)

-- ---- a padding

lone-some : {A : Type 0} (xs : List A) (x : A) → lone xs ≡ Some x → xs ≡ x ∷ []
lone-some [] x h = absurd (cc)
lone-some (y ∷ []) x h = cc
lone-some (y ∷ z ∷ xs) x h = absurd (cc)

-- the word of a byte and how often it comes
abbrev pub padding_word : ℕ → ℕ → List ℕ
padding_word byte count = encode_lower (byte ∷ []) ++ (42 ∷ decimal count)

one_byte : (w : List ℕ) (byte : ℕ) → IsHex w (byte ∷ [])
    → (w ≡ encode_lower (byte ∷ [])) × (byte < 256)
one_byte w byte (inl p) = absurd (cc)
one_byte w byte (inr p) = (p.0, p.2 0)

one_fits : (byte : ℕ) → byte < 256 → IsBytes (byte ∷ [])
one_fits byte fits zero = fits
one_fits byte fits (suc i) = omega arith

pub padding_of-some : (w text : List ℕ) → padding_of w ≡ Some text
    → (byte : ℕ) × (count : ℕ) × (byte < 256) × (w ≡ padding_word byte count)
    × (text ≡ replicate count byte)
padding_of-some w text h =
    let cut = cond-some (has 42 w) _ text h in
    let digits = then-some _ (hex_of (before_first (λ b. b == 42) w)) text cut.1 in
    let byte = then-some _ (lone digits.0) text digits.2 in
    let count = then-some _ (natural_of most_size (after_first (λ b. b == 42) w)) text byte.2 in
    let one = lone-some digits.0 byte.0 byte.1 in
    let hex = hex_of-some _ _ (digits.1 ∙ ap Some one) in
    let word = one_byte _ byte.0 hex in
    let number = numeral_of-some 10 (omega arith) (omega arith) most_size count.0 _ count.1 in (
      byte.0,
      count.0,
      word.1,
      cut_found 42 w cut.0 ∙ ap (λ v. v ++ (42 ∷ after_first (λ b. b == 42) w)) word.0
          ∙ ap (λ v. encode_lower (byte.0 ∷ []) ++ (42 ∷ v)) number.0,
      sym (same-some _ _ count.2),
    )

abbrev padding_in : Option (List ℕ) → Option ℕ → Option (List ℕ)
padding_in digits number =
    option_and_then (λ bytes. option_and_then (λ byte.
    option_and_then (λ count. Some (replicate count byte)) number) (lone bytes)) digits

pub padding_of-is : (byte count : ℕ) → byte < 256 → count ≤ most_size
    → padding_of (padding_word byte count) ≡ Some (replicate count byte)
padding_of-is byte count fits few =
    let bytes : List ℕ = byte ∷ [] in
    let ds : List ℕ = encode_lower bytes in
    let all : IsBytes bytes = one_fits byte fits in
    let lacks = digits_lack 42 refl bytes all in
    let hex =
    ap hex_of (before_here 42 ds (decimal count) lacks)
    ∙ hex_of-is ds bytes (inr (refl, omega arith, all)) in
    let number =
    ap (natural_of most_size) (after_here 42 ds (decimal count) lacks)
    ∙ numeral_of-digits 10 (omega arith) (omega arith) most_size count (omega arith) few in
    λ i. cond (has_here 42 ds (decimal count) lacks i) (padding_in (hex i) (number i)) None

-- ---- a text

short-some : (o : Option (List ℕ)) (text : List ℕ) → short o ≡ Some text
    → (o ≡ Some text) × (length text ≤ most_size)
short-some (Some xs) text h =
    let p = cond-some (nat_le (length xs) most_size) (Some xs) text h in
    let same : xs ≡ text = same-some xs text p.1 in
    let few : length xs ≤ most_size = grind (arith, nat_tests) in
    (p.1, subst (λ l. length l ≤ most_size) same few)
short-some None text h = absurd (cc)

short-is : (text : List ℕ) → length text ≤ most_size → short (Some text) ≡ Some text
short-is text few =
    let test : nat_le (length text) most_size ≡ true = grind (arith, nat_tests) in
    ap (λ b. cond b (Some text) None) test

front_of-some : (w bytes : List ℕ) → front_of w ≡ Some bytes
    → IsHex w bytes ⊎ ((w ≡ []) × (bytes ≡ []))
front_of-some [] bytes h = inr (refl, sym (same-some [] bytes h))
front_of-some (c ∷ w) bytes h = inl (hex_of-some (c ∷ w) bytes h)

-- a word cut at its plus
abbrev after_plus : List ℕ → Option (List ℕ)
after_plus w = padded_of (before_first (λ b. b == 43) w) (after_first (λ b. b == 43) w)

padded-some : (w front rest text : List ℕ) → w ≡ front ++ (43 ∷ rest)
    → padded_of front rest ≡ Some text → IsPadded w text
padded-some w front rest text cut h =
    let bytes = then-some _ (front_of front) text h in
    let padding = then-some _ (padding_of rest) text bytes.2 in
    let p = padding_of-some rest padding.0 padding.1 in
    record {
      front_word = front;
      front = bytes.0;
      byte = p.0;
      count = p.1;
      begins = front_of-some front bytes.0 bytes.1;
      is_byte = p.2;
      word = cut ∙ ap (λ r. front ++ (43 ∷ r)) p.3;
      text_is = sym (same-some _ _ padding.2) ∙ ap (λ r. bytes.0 ++ r) p.4;
    }

plus_or_none : (w text : List ℕ)
    → cond (has 43 w) (after_plus w) (hex_of w) ≡ Some text
    → ((has 43 w ≡ true) × (after_plus w ≡ Some text))
    ⊎ ((has 43 w ≡ false) × (hex_of w ≡ Some text))
plus_or_none w text h = cond-either (has 43 w) _ _ text h

pub text_of-some : (w text : List ℕ) → text_of w ≡ Some text → IsText w text
text_of-some w text h =
    let p = short-some _ text h in
    elim (plus_or_none w text p.0) [
      | inl q ↦ (inr (padded-some w _ _ text (cut_found 43 w q.0) q.1), p.1)
      | inr q ↦ (inl (hex_of-some w text q.1), p.1)
    ]

-- what a text begins with
abbrev Begins : List ℕ → List ℕ → Type 0
Begins w bytes = IsHex w bytes ⊎ ((w ≡ []) × (bytes ≡ []))

begins-lacks : (w bytes : List ℕ) → Begins w bytes → Lacks 43 w
begins-lacks w bytes (inl h) = hex_lacks 43 refl refl w bytes h
begins-lacks w bytes (inr h) = subst (Lacks 43) (sym h.0) tt

no_hex : (bytes : List ℕ) → IsHex [] bytes → ⊥
no_hex bytes (inl p) = absurd (cc)
no_hex bytes (inr p) =
    let none : 0 ≡ length (encode_lower bytes) = ap length p.0 in
    let even = length-encode_with lower_digits bytes in
    absurd (omega arith)

front_of-is : (w bytes : List ℕ) → Begins w bytes → front_of w ≡ Some bytes
front_of-is [] bytes (inl h) = absurd (no_hex bytes h)
front_of-is (c ∷ w) bytes (inl h) = hex_of-is (c ∷ w) bytes h
front_of-is [] bytes (inr h) = ap Some (sym h.1)
front_of-is (c ∷ w) bytes (inr h) = absurd (cc)

abbrev padded_in : Option (List ℕ) → Option (List ℕ) → Option (List ℕ)
padded_in bytes padding =
    option_and_then (λ xs. option_and_then (λ ys. Some (xs ++ ys)) padding) bytes

padded-is : (w bytes : List ℕ) (byte count : ℕ) → Begins w bytes → byte < 256
    → length (bytes ++ replicate count byte) ≤ most_size
    → text_of (w ++ (43 ∷ padding_word byte count)) ≡ Some (bytes ++ replicate count byte)
padded-is w bytes byte count begins fits few =
    let rest : List ℕ = padding_word byte count in
    let whole : List ℕ = w ++ (43 ∷ rest) in
    let lacks = begins-lacks w bytes begins in
    let size = length-append bytes (replicate count byte) in
    let repeats = length-replicate count byte in
    let front = ap front_of (before_here 43 w rest lacks) ∙ front_of-is w bytes begins in
    let padding =
    ap padding_of (after_here 43 w rest lacks) ∙ padding_of-is byte count fits (omega arith) in
    let found : text_of whole ≡ short (Some (bytes ++ replicate count byte)) =
    λ i. short
    (cond (has_here 43 w rest lacks i) (padded_in (front i) (padding i)) (hex_of whole)) in
    found ∙ short-is _ few

hex_text : (w text : List ℕ) → IsHex w text → length text ≤ most_size → text_of w ≡ Some text
hex_text w text h few =
    let none = has_none 43 w (hex_lacks 43 refl refl w text h) in
    let found : text_of w ≡ short (Some text) =
    λ i. short (cond (none i) (after_plus w) (hex_of-is w text h i)) in
    found ∙ short-is text few

pub text_of-is : (w text : List ℕ) → IsText w text → text_of w ≡ Some text
text_of-is w text h =
    elim h.0 [
      | inl hex ↦ hex_text w text hex h.1
      | inr p ↦
          let few = subst (λ t. length t ≤ most_size) p.text_is h.1 in
          ap text_of p.word ∙ padded-is p.front_word p.front p.byte p.count p.begins p.is_byte few
          ∙ ap Some (sym p.text_is)
    ]
