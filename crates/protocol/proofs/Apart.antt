-- The bytes of a line tell its words, and the words tell the answer. Assumes nothing.
use Rattle.std.proofs.Common.{◌≡◌, ℕ, suc, ◌/◌, ◌%◌, ◌^◌, ◌<◌, ◌≤◌, ◌==◌, Bool, true, false, if◌then◌else◌, List, [], ◌∷◌, ◌++◌, map, length, get_or, Some, None, Option, Result, IfSome, nat_lt, codes, decimal, refl, sym, ap, ◌∙◌, arith, rules}
use Rattle.std.specs.List.{AllByRecursion, list_all}
use Rattle.std.specs.Str.{bytes_eq}
use Rattle.std.specs.Str.Parse.{AllDigits, IsNumeral, digits_value}
use Rattle.std.specs.Char.{digit_value}
use Rattle.std.specs.Result.{result_unwrap_or}
use Rattle.std.proofs.lemmas.Fmt.{digits_is_IsNumeral, decimal_is_IsNumeral}
use Rattle.std.proofs.lemmas.Bool.{and_parts}
use borrow.Author.Tests.{ltb-true}
use Rattle.std.proofs.lemmas.Bool.Decides.{nat_tests}
use Rattle.hex.specs.declared.error.FromHexError.{FromHexError}
use Rattle.hex.specs.Hex.{IsBytes, encode_lower, encode_with, decode_of, hex_digit_value}
use Rattle.hex.proofs.HexLemmas.{decode_of-encode_lower, IsDigits-lower_digits}
use Rattle.writing.specs.Items.{bytes}
use Rattle.writing.specs.Told.{words_items, Unbroken}
use Rattle.writing.proofs.Apart.{words_told}
use Rattle.text.specs.declared.faults.Refuser.{Refuser}
use Rattle.text.specs.declared.faults.Refuser.TheVariants as by
use Rattle.lines.specs.declared.line.Origin.TheVariants.{Given, Resolved, Widened}
use Rattle.answers.specs.declared.run.Outcome.{Outcome}
use Rattle.answers.specs.declared.run.Outcome.TheVariants.{Met, NoneMeets, Spent, Full}
use Rattle.protocol.specs.Commands.{hexadecimal, outcome_word}
use Rattle.protocol.specs.Said.{Said, done, refused, stands, taken, faulty, headed, head_faulty, ended, line, written, unwritten, state, error, refuser_word, number_word, said_words, spoken}
use Rattle.protocol.specs.Telling.{Proper, AnAnswerIsItsLine}

-- ---- words of a line

-- the words of a line, each with whether it is the last
abbrev endings : List (List ℕ) → List (List ℕ × Bool)
endings [] = ([], true) ∷ []
endings (w ∷ []) = (w, true) ∷ []
endings (w ∷ v ∷ ws) = (w, false) ∷ endings (v ∷ ws)

spoken_bytes : (ws : List (List ℕ)) → spoken ws ≡ bytes (words_items (endings ws))
spoken_bytes [] = refl
spoken_bytes (w ∷ []) = refl
spoken_bytes (w ∷ v ∷ ws) = ap (λ bs. w ++ (32 ∷ bs)) (spoken_bytes (v ∷ ws))

endings_unbroken : (ws : List (List ℕ))
    → AllByRecursion Unbroken ws → AllByRecursion (λ x. Unbroken x.0) (endings ws)
endings_unbroken [] h = (tt, tt)
endings_unbroken (w ∷ []) h = (h.0, tt)
endings_unbroken (w ∷ v ∷ ws) h = (h.0, endings_unbroken (v ∷ ws) h.1)

-- ---- bytes above a space's

digit_high : (c : ℕ) → digit_value c < 16 → 32 < c
digit_high c h = grind (arith, nat_tests)

digits_high : (radix : ℕ) (w : List ℕ) → radix ≤ 16 → AllDigits radix w → Unbroken w
digits_high radix [] r h = tt
digits_high radix (c ∷ cs) r h =
    let d = h.0 in
    (digit_high c (omega arith), digits_high radix cs r h.1)

hex_high : (c d : ℕ) → hex_digit_value c ≡ Some d → 32 < c
hex_high c d h = grind (arith, nat_tests)

buffer_high : (bs : List ℕ) → IsBytes bs → Unbroken (encode_lower bs)
unfolding encode_with
buffer_high [] h = tt
buffer_high (b ∷ bs) h =
    let byte : b < 256 = h 0 in
    let high = IsDigits-lower_digits (b / 16) (omega arith) in
    let low = IsDigits-lower_digits (b % 16) (omega arith) in
    (hex_high _ _ high, (hex_high _ _ low, buffer_high bs (λ i. h (suc i))))

literal_high : (w : List ℕ) → list_all (λ b. nat_lt 32 b) w ≡ true → Unbroken w
literal_high [] h = tt
literal_high (c ∷ cs) h =
    let p = and_parts (nat_lt 32 c) (list_all (λ b. nat_lt 32 b) cs) h in
    (ltb-true 32 c p.0, literal_high cs p.1)

-- ---- numbers and buffers

module _ (n : ℕ) (small : n < 2 ^ 64) where
  decimal_is : IsNumeral 10 (decimal n) × (digits_value 10 (decimal n) ≡ n)
  decimal_is = decimal_is_IsNumeral n small

  hexadecimal_is : IsNumeral 16 (hexadecimal n) × (digits_value 16 (hexadecimal n) ≡ n)
  hexadecimal_is = digits_is_IsNumeral 16 false (omega arith) (omega arith) n (omega arith)

  decimal_told : digits_value 10 (decimal n) ≡ n
  decimal_told = decimal_is.1

  hexadecimal_told : digits_value 16 (hexadecimal n) ≡ n
  hexadecimal_told = hexadecimal_is.1

  decimal_high : Unbroken (decimal n)
  decimal_high = digits_high 10 (decimal n) (omega arith) decimal_is.0.1

  hexadecimal_high : Unbroken (hexadecimal n)
  hexadecimal_high = digits_high 16 (hexadecimal n) (omega arith) hexadecimal_is.0.1

buffer_told : (bs : List ℕ) → IsBytes bs → result_unwrap_or (decode_of (encode_lower bs)) [] ≡ bs
buffer_told bs h = ap (λ (r : Result (List ℕ) FromHexError). result_unwrap_or r []) (decode_of-encode_lower bs h)

-- ---- the words of an answer

outcome_high : (o : Outcome) → Unbroken (outcome_word o)
outcome_high Met = literal_high (codes "met") refl
outcome_high NoneMeets = literal_high (codes "none") refl
outcome_high Spent = literal_high (codes "spent") refl
outcome_high Full = literal_high (codes "full") refl

refuser_high : (r : Refuser) → Unbroken (refuser_word r)
refuser_high by.Text = literal_high (codes "text") refl
refuser_high by.Book = literal_high (codes "book") refl
refuser_high by.Session = literal_high (codes "session") refl

ruleset high = (literal_high, decimal_high, hexadecimal_high, buffer_high, outcome_high, refuser_high)

unbroken : (a : Said) → Proper a → AllByRecursion Unbroken (said_words a)
unbroken (stands (Some k)) h = search (rules, high)
unbroken (stands None) h = search (rules, high)
unbroken (line Given p q) h = search (rules, high)
unbroken (line (Resolved v a b) p q) h = search (rules, high)
unbroken (line (Widened a) p q) h = search (rules, high)
unbroken a h = search (rules, high)

-- ---- the answer of some words

abbrev number_back : List ℕ → Option ℕ
number_back w = if bytes_eq w (codes "none") then None else Some (digits_value 10 w)

abbrev refuser_back : List ℕ → Refuser
refuser_back w =
    if bytes_eq w (codes "text") then by.Text
    else if bytes_eq w (codes "book") then by.Book
    else by.Session

module _ (ws : List (List ℕ)) where
  abbrev dec : ℕ → ℕ
  dec i = digits_value 10 (get_or ws i [])

  abbrev hex : ℕ → ℕ
  hex i = digits_value 16 (get_or ws i [])

  abbrev buf : ℕ → List ℕ
  buf i = result_unwrap_or (decode_of (get_or ws i [])) []

  abbrev first_is : List ℕ → Bool
  first_is w = bytes_eq (get_or ws 0 []) w

  abbrev back : Said
  back =
      if first_is (codes "ok") then done
      else if first_is (codes "refused") then (
      if length ws == 2 then refused (dec 1)
      else unwritten (dec 1) (buf 2)
      )
      else if first_is (codes "line") then stands (number_back (get_or ws 1 []))
      else if first_is (codes "taken") then taken (dec 1)
      else if first_is (codes "fault") then (
      if length ws == 5 then head_faulty (dec 2) (dec 4)
      else faulty (refuser_back (get_or ws 1 [])) (dec 2) (dec 4) (dec 6)
      )
      else if first_is (codes "head") then headed (dec 1) (dec 2)
      else if first_is (codes "met") then ended Met (dec 1)
      else if first_is (codes "none") then ended NoneMeets (dec 1)
      else if first_is (codes "spent") then ended Spent (dec 1)
      else if first_is (codes "full") then ended Full (dec 1)
      else if first_is (codes "given") then line Given (hex 2) (hex 4)
      else if first_is (codes "resolved") then line (Resolved (dec 1) (dec 2) (dec 3)) (hex 5) (hex 7)
      else if first_is (codes "widened") then line (Widened (dec 1)) (hex 3) (hex 5)
      else if first_is (codes "length") then written (dec 1) (buf 2)
      else if first_is (codes "lines") then state (dec 1) (dec 3) (hex 5)
      else error

refuser_told : (r : Refuser) → refuser_back (refuser_word r) ≡ r
refuser_told by.Text = refl
refuser_told by.Book = refl
refuser_told by.Session = refl

digits_back : (w : List ℕ) → AllDigits 10 w → number_back w ≡ Some (digits_value 10 w)
digits_back [] h = refl
digits_back (c ∷ cs) h =
    let d = h.0 in
    let no : (c == 110) ≡ false = grind (arith, nat_tests) in
    rw no refl

number_told : (k : Option ℕ) → IfSome k (λ n. n < 2 ^ 64) → number_back (number_word k) ≡ k
number_told None h = refl
number_told (Some k) h = digits_back (decimal k) (decimal_is k h).0.1 ∙ ap Some (decimal_told k h)

told : (a : Said) → Proper a → back (map (λ x. x.0) (endings (said_words a))) ≡ a
told done h = refl
told (refused k) h = ap refused (decimal_told k h)
told (stands (Some k)) h = ap stands (number_told (Some k) h)
told (stands None) h = refl
told (taken k) h = ap taken (decimal_told k h)
told (faulty r k place t) h =
    cc (refuser_told r, decimal_told k h.0, decimal_told place h.1.0, decimal_told t h.1.1.0)
told (headed n m) h = cc (decimal_told n h.0, decimal_told m h.1.0)
told (head_faulty k place) h = cc (decimal_told k h.0, decimal_told place h.1.0)
told (ended Met steps) h = ap (ended Met) (decimal_told steps h)
told (ended NoneMeets steps) h = ap (ended NoneMeets) (decimal_told steps h)
told (ended Spent steps) h = ap (ended Spent) (decimal_told steps h)
told (ended Full steps) h = ap (ended Full) (decimal_told steps h)
told (line Given p q) h = cc (hexadecimal_told p h.1.0, hexadecimal_told q h.1.1.0)
told (line (Resolved v a b) p q) h =
    cc (decimal_told v h.0.0, decimal_told a h.0.1.0, decimal_told b h.0.1.1.0, hexadecimal_told p h.1.0, hexadecimal_told q h.1.1.0)
told (line (Widened a) p q) h = cc (decimal_told a h.0.0, hexadecimal_told p h.1.0, hexadecimal_told q h.1.1.0)
told (written length buffer) h = cc (decimal_told length h.0, buffer_told buffer h.1)
told (unwritten k buffer) h = cc (decimal_told k h.0, buffer_told buffer h.1)
told (state lines n a) h = cc (decimal_told lines h.0, decimal_told n h.1.0, hexadecimal_told a h.1.1.0)
told error h = refl

pub answer_is_its_line : AnAnswerIsItsLine
answer_is_its_line a b h k e =
    let same = words_told (endings (said_words a)) (endings (said_words b))
    (endings_unbroken (said_words a) (unbroken a h)) (endings_unbroken (said_words b) (unbroken b k))
    (sym (spoken_bytes (said_words a)) ∙ e ∙ spoken_bytes (said_words b)) in
    sym (told a h) ∙ ap (λ xs. back (map (λ x. x.0) xs)) same ∙ told b k
