-- What is written is read: its words are those that say its clauses. Assumes nothing.
use Rattle.std.proofs.Common.{◌≡◌, ℕ, suc, ◌+◌, ◌<◌, ◌≤◌, Bool, true, false, List, [], ◌∷◌, ◌++◌, length, ℤ, pos, negsuc, nat_abs, codes, decimal, sym, refl, ap, ◌∙◌, append_assoc, append-nil, arith}
use Rattle.std.specs.List.{flat_map, AllByRecursion}
use Rattle.std.specs.Fmt.{signed_decimal}
use Rattle.std.proofs.lemmas.Fmt.{decimal_nonempty, digits_decimal}
use Rattle.std.proofs.lemmas.Bool.{and_parts}
use Rattle.std.proofs.lemmas.Bool.Decides.{nat_tests}
use Rattle.text_laws.specs.Laws.{WrittenIsRead, WrittenHasItsHead}
use Rattle.limits.specs.Limits.{most_literals}
use Rattle.tokens.specs.Numbers.{is_digit, all_digits}
use Rattle.tokens.specs.Scanning.{a_word, scan, gap, inside}
use Rattle.tokens.specs.Words.{pieces, words_of, parts_words, ends_line}
use Rattle.text_laws.specs.Writing.{Literal, Writable, clause_words, clause_line, saying, written}
use Rattle.tokens.proofs.Lines.{pieces_scanned}
use Rattle.text_laws.proofs.Numerals.{own}
use Rattle.text_laws.proofs.Headed.{head_tells}
use Rattle.text_laws.proofs.Sound.{sound_texts}

-- bytes that part no words
abbrev Inner : List ℕ → Type 0
Inner w = AllByRecursion (λ b. parts_words b ≡ false) w

digits_inner : (ds : List ℕ) → all_digits ds ≡ true → Inner ds
digits_inner [] h = tt
digits_inner (b ∷ ds) h =
    let k = and_parts (is_digit b) (all_digits ds) h in
    let d = k.0 in
    (grind (arith, nat_tests), digits_inner ds k.1)

abbrev OneWord : List ℕ → Type 0
OneWord w = (0 < length w) × Inner w

-- a written number is one word
decimal_word : (n : ℕ) → n < 100000 → OneWord (decimal n)
decimal_word n small = (decimal_nonempty n (omega arith), digits_inner (decimal n) (digits_decimal own n (omega arith)))

signed_word : (x : ℤ) → nat_abs x < 100000 → OneWord (signed_decimal x)
signed_word (pos n) small = decimal_word n small
signed_word (negsuc n) small = (omega arith, (refl, (decimal_word (suc n) small).1))

-- past the word p, where no comment can come, the bytes bs are just the words ws, at any place
abbrev AreWords : List ℕ → List (List ℕ) → Type 0
AreWords bs ws = (fresh : Bool) (p : ℕ) → words_of (scan (gap false fresh) p bs) ≡ ws

-- a scan inside a word, of which v is left, gives it at the byte b that ends it
rest_of_word : (s p : ℕ) (w v : List ℕ) (b : ℕ) (rest : List ℕ) (ws : List (List ℕ)) → Inner v → parts_words b ≡ true → AreWords rest ws
    → words_of (scan (inside a_word false s w) p (v ++ b ∷ rest)) ≡ (w ++ v) ∷ ws
rest_of_word s p w [] b rest ws i h more = rw (h, append-nil, more (ends_line b) (p + 1))
rest_of_word s p w (c ∷ v) b rest ws i h more = rw (i.0, ← append_assoc w (c ∷ []) v) (rest_of_word s (p + 1) (w ++ c ∷ []) v b rest ws i.1 h more)

-- and a scan that stands before a word gives it
next_word : (w : List ℕ) (b : ℕ) (rest : List ℕ) (ws : List (List ℕ)) → OneWord w → parts_words b ≡ true → AreWords rest ws → AreWords (w ++ b ∷ rest) (w ∷ ws)
next_word [] b rest ws i h more fresh p = absurd (omega arith)
next_word (c ∷ w) b rest ws i h more fresh p = rw i.1.0 (rest_of_word p (p + 1) (c ∷ []) w b rest ws i.1.1 h more)

-- a clause's line has the clause's words, and so have the lines of all clauses
module _ (n : ℕ) (few : n < 100000) where
  clause_line-words : (xs : List ℤ) (rest : List ℕ) (ws : List (List ℕ)) → AllByRecursion (Literal n) xs → AreWords rest ws → AreWords (clause_line xs ++ rest) (clause_words xs ++ ws)
  clause_line-words [] rest ws a more = next_word (48 ∷ []) 10 rest ws (omega arith, (refl, tt)) refl more
  clause_line-words (x ∷ xs) rest ws a more =
      rw append_assoc (next_word (signed_decimal x) 32 (clause_line xs ++ rest) (clause_words xs ++ ws) (signed_word x (omega arith)) refl (clause_line-words xs rest ws a.1 more))

  clause-lines-words : (cs : List (List ℤ)) → AllByRecursion (λ c. (length c ≤ most_literals) × AllByRecursion (Literal n) c) cs → AreWords (flat_map clause_line cs) (flat_map clause_words cs)
  clause-lines-words [] a = λ fresh p. refl
  clause-lines-words (c ∷ cs) a = clause_line-words c (flat_map clause_line cs) (flat_map clause_words cs) a.0.1 (clause-lines-words cs a.1)

-- a written text says its clauses
written-words : (n : ℕ) (cs : List (List ℤ)) → Writable n cs → words_of (pieces (written n cs)) ≡ saying n cs
written-words n cs a =
    let m = length cs in
    let sizes = next_word (decimal n) 32 _ _ (decimal_word n a.0) refl (next_word (decimal m) 10 _ _ (decimal_word m (omega arith)) refl (clause-lines-words n a.0 cs a.2)) in
    ap words_of (sym (pieces_scanned true 0 (written n cs))) ∙ ap (λ ws. codes "p" ∷ codes "cnf" ∷ ws) (sizes false 6)

pub written_read : WrittenIsRead
written_read limit n cs a l fits = (sound_texts limit (written n cs) cs).1 n l a fits (written-words n cs a)

pub written_head : WrittenHasItsHead
written_head n cs a l fits =
    ((head_tells (written n cs)).0 n (length cs)).1
    (record { short = fits; narrow = l; few = a.1; rest = _; words = written-words n cs a })
