-- Words and comments follow one another, and between them bytes only part words. Assumes nothing.
use Rattle.std.proofs.Common.{◌≡◌, ℕ, ◌+◌, ◌<◌, ◌≤◌, Bool, true, false, cond, List, [], ◌∷◌, ◌++◌, length, get_or, drop, sym, refl, ap, ◌∙◌, ⊎_elim, arith}
use Rattle.std.specs.List.{list_any}
use Rattle.std.proofs.lemmas.Bool.{false≢true, cases_lt, and_from, le-leb, lt-ltb, or_left, or_right}
use Rattle.std.proofs.lemmas.List.{drop_more, length-drop, length_push}
use Rattle.text_laws.specs.Telling.{start_of, end_of, covers, EveryByteIsTold, PiecesFollow}
use Rattle.tokens.specs.Scanning.{Part, a_word, a_comment, Mode, gap, inside, part_ends, piece_of, early_past_part, opened, next_mode, ended, unended, scan}
use Rattle.tokens.specs.Words.{Piece, parts_words, ends_line, pieces}
use Rattle.tokens.proofs.Gaps.{ends_parts}
use Rattle.tokens.proofs.Lines.{pieces_scanned}

module _ (text : List ℕ) where
  -- b is the byte at the place q, and bs are those after it
  abbrev pub Reads : ℕ → ℕ → List ℕ → Type 0
  Reads q b bs = (q < length text) × (get_or text q 0 ≡ b) × (bs ≡ drop (q + 1) text)

  pub reads : (q b : ℕ) (bs : List ℕ) → (b ∷ bs) ≡ drop q text → Reads q b bs
  reads q b bs e =
      let within : q < length text = omega (arith, length-drop q text, ap length e) in
      let same : (b ∷ bs) ≡ get_or text q 0 ∷ drop (q + 1) text = e ∙ drop_more text q 0 within in
      (within, cc, cc)

  -- from the place l up to q all bytes part words
  abbrev Blank : ℕ → ℕ → Type 0
  Blank l q = (p : ℕ) → l ≤ p → p < q → parts_words (get_or text p 0) ≡ true

  blank_on : (l q : ℕ) → Blank l q → parts_words (get_or text q 0) ≡ true → Blank l (q + 1)
  blank_on l q h y p a b =
      ⊎_elim (h p a)
      (λ over. let same : q ≡ p = omega arith in rw same at y)
      (cases_lt p q)

  -- the pieces stand one behind the other from l on, with only such bytes around them
  abbrev Laid : ℕ → List Piece → Type 0
  Laid l [] = Blank l (length text)
  Laid l (x ∷ ps) = (l ≤ start_of x) × Blank l (start_of x) × Laid (end_of x) ps

  -- so does the piece in progress, if there is one, where a scan has come to q
  abbrev Since : ℕ → ℕ → Mode → Type 0
  Since l q (gap early fresh) = (l ≤ q) × Blank l q
  Since l q (inside part early s w) = (l ≤ s) × Blank l s × (s + length w ≡ q)

  laid_piece : (l s : ℕ) (part : Part) (w : List ℕ) (ps : List Piece) → l ≤ s → Blank l s
      → Laid (s + length w) ps → Laid l (piece_of part s w ∷ ps)
  laid_piece l s a_word w ps a h r = (a, h, r)
  laid_piece l s a_comment w ps a h r = (a, h, r)

  end_laid : (l q : ℕ) (m : Mode) → [] ≡ drop q text → Since l q m → Laid l (unended m)
  end_laid l q (gap early fresh) e (a, h) =
      λ p under over. h p under (omega (arith, length-drop q text, ap length e))
  end_laid l q (inside part early s w) e (a, h, place) =
      laid_piece l s part w [] a h
      (λ p under over. absurd (omega (arith, length-drop q text, ap length e, place)))

  -- one byte b, and the bytes bs after it, of which the same is known
  module _ (q b : ℕ) (bs : List ℕ) (here : Reads q b bs)
      (rest : (l : ℕ) (m : Mode) → Since l (q + 1) m → Laid l (scan m (q + 1) bs)) where
    past_part : (l : ℕ) (part : Part) (early : Bool) (s : ℕ) (w : List ℕ)
        → Since l q (inside part early s w) → (ends : Bool) → part_ends part b ≡ ends
        → Laid l (cond ends (piece_of part s w ∷ []) [] ++ scan (cond ends
        (gap (early_past_part part early w) (ends_line b)) (inside part early s (w ++ b ∷ [])))
        (q + 1) bs)
    past_part l part early s w (a, h, place) false n =
        rest l (inside part early s (w ++ b ∷ [])) (a, h, omega (arith, length_push w b, place))
    past_part l part early s w (a, h, place) true y =
        let parts : parts_words (get_or text q 0) ≡ true = rw here.1 (ends_parts part b y) in
        laid_piece l s part w _ a h
        (rest (s + length w) _ (
          omega (arith, place),
          blank_on (s + length w) q
              (λ p under over. absurd (omega (arith, place))) parts,
        ))

    past_gap : (l : ℕ) (early fresh : Bool) → Since l q (gap early fresh) → (parts : Bool)
        → parts_words b ≡ parts → Laid l (scan (cond parts (gap early (ends_line b))
        (inside (opened early fresh b) early q (b ∷ []))) (q + 1) bs)
    past_gap l early fresh (a, h) true y =
        rest l _ (omega arith, blank_on l q h (rw here.1 y))
    past_gap l early fresh (a, h) false n = rest l _ (a, h, omega arith)

    past_byte : (l : ℕ) (m : Mode) → Since l q m
        → Laid l (ended m b ++ scan (next_mode m q b) (q + 1) bs)
    past_byte l (gap early fresh) since = past_gap l early fresh since (parts_words b) refl
    past_byte l (inside part early s w) since =
        past_part l part early s w since (part_ends part b) refl

  scan_laid : (l q : ℕ) (m : Mode) (bs : List ℕ) → bs ≡ drop q text → Since l q m
      → Laid l (scan m q bs)
  scan_laid l q m [] e since = end_laid l q m e since
  scan_laid l q m (b ∷ bs) e since =
      let here = reads q b bs e in
      past_byte q b bs here (λ l' m'. scan_laid l' (q + 1) m' bs here.2) l m since

  pieces_laid : Laid 0 (pieces text)
  pieces_laid =
      rw (pieces_scanned true 0 text) at (scan_laid 0 0 (gap true true) text refl
      (omega arith, λ p under over. absurd (omega arith)))

  laid_told : (l p : ℕ) (ps : List Piece) → Laid l ps → l ≤ p → p < length text
      → parts_words (get_or text p 0) ≡ false → list_any (covers p) ps ≡ true
  laid_told l p [] h a b n = absurd (false≢true (sym n ∙ h p a b))
  laid_told l p (x ∷ ps) (starts, blank, later) a b n =
      ⊎_elim (λ before. absurd (false≢true (sym n ∙ blank p a before)))
      (λ from. ⊎_elim
      (λ within. or_left _ _ (and_from _ _ (le-leb _ p from) (lt-ltb p _ within)))
      (λ past. or_right (covers p x) _ (laid_told (end_of x) p ps later past b n))
      (cases_lt p (end_of x)))
      (cases_lt p (start_of x))

  laid_follow : (l : ℕ) (before after : List Piece) (x y : Piece)
      → Laid l (before ++ (x ∷ y ∷ after)) → end_of x ≤ start_of y
  laid_follow l [] after x y h = h.2.0
  laid_follow l (z ∷ before) after x y h = laid_follow (end_of z) before after x y h.2

pub every_byte_is_told : EveryByteIsTold
every_byte_is_told text p h n =
    laid_told text 0 p (pieces text) (pieces_laid text) (omega arith) h n

pub pieces_follow : PiecesFollow
pieces_follow text before after x y e =
    laid_follow text 0 before after x y (rw e at (pieces_laid text))
