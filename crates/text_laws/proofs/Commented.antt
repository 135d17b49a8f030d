-- Which lines of a text are comments. Assumes nothing.
use Rattle.std.proofs.Common.{◌≡◌, ℕ, zero, suc, ◌+◌, ◌<◌, Bool, true, false, cond, not, ◌&&◌, ◌||◌, List, [], ◌∷◌, ◌++◌, length, get_or, ◌==◌, codes, take, drop, sym, refl, ap, ◌∙◌, subst, ⊎_elim, slice_index, append_assoc, arith}
use Rattle.std.specs.List.{AllByRecursion}
use Rattle.std.specs.Str.{bytes_eq}
use Rattle.std.proofs.lemmas.Bool.{cases_lt, and_parts, and_right, eqb-true, not-true}
use Rattle.std.proofs.lemmas.List.{take_more, drop_more, take-append-drop, get_or_past, length-drop, length-take-le, append-nil}
use Rattle.std.proofs.lemmas.List.Elements.{All-from_recursion}
use Rattle.text_laws.specs.Telling.{has_p, IsAComment, CommentsAreLines}
use Rattle.text_laws.proofs.Told.{Reads, reads}
use Rattle.tokens.specs.Scanning.{begins_line}
use Rattle.tokens.specs.Words.{Stretch, at, Piece, word, comment, ends_line, cut, lines, filled_words, words, is_comment, early_after, early_past, parts_words, stretches, line_pieces, pieces_of_lines, pieces, words_of}
use Rattle.tokens.proofs.Gaps.{next_line}
use Rattle.tokens.proofs.Lines.{then_lines, lines_begin}

neither : (x y z : Bool) → ((x && not y) && not z) ≡ (x && not (y || z))
neither false y z = refl
neither true false z = refl
neither true true z = refl

-- comments may come exactly where no word is p so far
early-has_p : (early : Bool) (ps : List Piece)
    → early_past early ps ≡ (early && not (has_p (words_of ps)))
early-has_p false [] = refl
early-has_p true [] = refl
early-has_p early (comment p c ∷ ps) = early-has_p early ps
early-has_p early (word p w ∷ ps) =
    early-has_p (early_after early w) ps
    ∙ neither early (bytes_eq w (codes "p")) (has_p (words_of ps))

module _ (text : List ℕ) where
  -- l stands at p and goes on to the end of its line
  abbrev RestOfLine : ℕ → List ℕ → Type 0
  RestOfLine p l =
      (take (length l) (drop p text) ≡ l) × AllByRecursion (λ b. ends_line b ≡ false) l
      × (p + length l < length text → ends_line (get_or text (p + length l) 0) ≡ true)

  abbrev WholeLines : List Stretch → Type 0
  WholeLines [] = Unit {0}
  WholeLines (at p l ∷ ls) = (begins_line text p ≡ true) × RestOfLine p l × WholeLines ls

  -- the lines from the place q on, which is in the midst of the first
  abbrev LinesFrom : ℕ → List Stretch → Type 0
  LinesFrom q [] = ⊥
  LinesFrom q (at p l ∷ ls) = (p ≡ q) × RestOfLine p l × WholeLines ls

  module _ (q b : ℕ) (bs : List ℕ) (here : Reads text q b bs) where
    cut_lines : (ends : Bool) → ends_line b ≡ ends → (ls : List Stretch)
        → LinesFrom (q + 1) ls → LinesFrom q (cut ends q b ls)
    cut_lines ends e [] h = absurd h
    cut_lines true e (at p l ∷ ls) (place, whole, later) =
        let same : q + 0 ≡ q = omega arith in (
          refl,
          (refl, tt, λ h. rw (same, here.1) e),
          (rw (place, next_line text q, here.1) e, whole, later),
        )
    cut_lines false e (at p l ∷ ls) (place, (there, kept, closes), later) =
        let same : p + length l ≡ q + length (b ∷ l) = omega (arith, place) in (
          refl,
          (rw (drop_more text q 0 here.0, here.1, ← place, there), (e, kept), rw same at closes),
          later,
        )

  lines_from : (q : ℕ) (bs : List ℕ) → bs ≡ drop q text → LinesFrom q (lines q bs)
  lines_from q [] e =
      (refl, (refl, tt, λ h. absurd (omega (arith, length-drop q text, ap length e))), tt)
  lines_from q (b ∷ bs) e =
      let here = reads text q b bs e in
      cut_lines q b bs here (ends_line b) refl (lines (q + 1) bs) (lines_from (q + 1) bs here.2)

  -- each of the pieces that is a comment is a line that may be one
  abbrev CommentsHold : Bool → List Piece → Type 0
  CommentsHold early [] = Unit {0}
  CommentsHold early (word p w ∷ ps) = CommentsHold (early_after early w) ps
  CommentsHold early (comment p c ∷ ps) =
      ((begins_line text p ≡ true) × RestOfLine p c × (get_or c 0 0 ≡ 99) × (early ≡ true))
      × CommentsHold early ps

  after_words : (early : Bool) (ss : List Stretch) (ps : List Piece)
      → CommentsHold (early_past early (filled_words ss)) ps
      → CommentsHold early (filled_words ss ++ ps)
  after_words early [] ps h = h
  after_words early (at p [] ∷ ss) ps h = after_words early ss ps h
  after_words early (at p (b ∷ bs) ∷ ss) ps h =
      after_words (early_after early (b ∷ bs)) ss ps h

  line_holds : (early : Bool) (p : ℕ) (l : List ℕ) (rest : Bool → List Piece)
      → begins_line text p ≡ true → RestOfLine p l
      → ((e : Bool) → CommentsHold e (rest e)) → (c : Bool) → is_comment early l ≡ c
      → CommentsHold early (cond c (comment p l ∷ []) (words p l)
      ++ rest (early_past early (cond c (comment p l ∷ []) (words p l))))
  line_holds early p l rest opens whole later true y =
      let (may, first) = and_parts early (get_or l 0 0 == 99) y in
      ((opens, whole, eqb-true (get_or l 0 0) 99 first, may), later early)
  line_holds early p l rest opens whole later false n =
      after_words early (stretches parts_words p l) _ (later _)

  lines_hold : (early : Bool) (ls : List Stretch) → WholeLines ls
      → CommentsHold early (pieces_of_lines early ls)
  lines_hold early [] h = tt
  lines_hold early (at p l ∷ ls) (opens, whole, later) =
      line_holds early p l (λ e. pieces_of_lines e ls) opens whole (λ e. lines_hold e ls later)
      (is_comment early l) refl

  all_lines : (ls : List Stretch) → LinesFrom 0 ls → WholeLines ls
  all_lines [] h = tt
  all_lines (at p l ∷ ls) (place, whole, later) = (ap (begins_line text) place, whole, later)

  comment_holds : (early : Bool) (before after : List Piece) (p : ℕ) (c : List ℕ)
      → CommentsHold early (before ++ (comment p c ∷ after))
      → CommentsHold (early_past early before) (comment p c ∷ after)
  comment_holds early [] after p c h = h
  comment_holds early (word q w ∷ before) after p c h =
      comment_holds (early_after early w) before after p c h
  comment_holds early (comment q d ∷ before) after p c h = comment_holds early before after p c h.1

is_a_comment : (text : List ℕ) (before after : List Piece) (p : ℕ) (c : List ℕ)
    → pieces text ≡ before ++ (comment p c ∷ after) → IsAComment text p c (words_of before)
is_a_comment text before after p c e =
    let whole = all_lines text (lines 0 text) (lines_from text 0 text refl) in
    let all = rw e at (lines_hold text true (lines 0 text) whole) in
    let ((opens, (there, kept, closes), first, early), later) =
    comment_holds text true before after p c all in
    record {
      there = there;
      opens = opens;
      first = first;
      whole = All-from_recursion _ c kept;
      closes = closes;
      early = not-true _ (sym (early-has_p true before) ∙ early);
    }

-- a byte before lines joins the first of them
cut_front : (t : Bool) (p b : ℕ) (s : Stretch) (ss ts : List Stretch)
    → cut t p b (s ∷ ss ++ ts) ≡ cut t p b (s ∷ ss) ++ ts
cut_front true p b s ss ts = refl
cut_front false p b (at q l) ss ts = refl

-- the lines up to an LF, and those behind it
lines_split : (q : ℕ) (f bs : List ℕ)
    → lines q (f ++ 10 ∷ bs) ≡ lines q f ++ lines (q + length f + 1) bs
lines_split q [] bs = let same : q + 0 + 1 ≡ q + 1 = omega arith in rw same
lines_split q (b ∷ f) bs =
    let same : q + 1 + length f + 1 ≡ q + length (b ∷ f) + 1 = omega arith in
    let tail = subst (λ r. lines (q + 1) (f ++ 10 ∷ bs) ≡ lines (q + 1) f ++ lines r bs) same
    (lines_split (q + 1) f bs) in
    let (l, ls, e) = lines_begin (q + 1) f in
    ap (cut (ends_line b) q b) tail ∙ rw e (cut_front (ends_line b) q b (at (q + 1) l) ls _)

early_past-append : (early : Bool) (ps rs : List Piece)
    → early_past early (ps ++ rs) ≡ early_past (early_past early ps) rs
early_past-append early [] rs = refl
early_past-append early (word p w ∷ ps) rs = early_past-append (early_after early w) ps rs
early_past-append early (comment p c ∷ ps) rs = early_past-append early ps rs

pieces_split : (early : Bool) (ls ms : List Stretch)
    → pieces_of_lines early (ls ++ ms) ≡ then_lines early (pieces_of_lines early ls) ms
pieces_split early [] ms = refl
pieces_split early (at p l ∷ ls) ms =
    let ps = line_pieces early p l in
    let past = early_past early ps in
    ap (λ rs. ps ++ rs) (pieces_split past ls ms)
    ∙ rw (append_assoc ps, early_past-append early ps (pieces_of_lines past ls))

-- an empty line has no pieces
empty_line : (early : Bool) (p : ℕ) (ls : List Stretch)
    → pieces_of_lines early (ls ++ at p [] ∷ []) ≡ pieces_of_lines early ls
empty_line early p ls =
    let may = early_past early (pieces_of_lines early ls) in
    pieces_split early ls (at p [] ∷ [])
    ∙ rw (and_right may false refl) (append-nil (pieces_of_lines early ls))

-- a line that begins at p with the byte c
opens_with_c : (p : ℕ) (ss : List Stretch)
    → (l : List ℕ) × (ls : List Stretch) × (cut false p 99 ss ≡ at p (99 ∷ l) ∷ ls)
opens_with_c p [] = ([], [], refl)
opens_with_c p (at q l ∷ ss) = (l, ss, refl)

module _ (text : List ℕ) where
  -- whole lines stand before p, and a line begins there
  abbrev Splits : ℕ → Type 0
  Splits p =
      (ls : List Stretch) × (lines 0 text ≡ ls ++ lines p (drop p text))
      × (pieces_of_lines true ls ≡ pieces (take p text))

  after_line : (n : ℕ) → n < length text → get_or text n 0 ≡ 10 → Splits (n + 1)
  after_line n within lf =
      let f = take n text in
      let size : length f ≡ n = length-take-le n text (omega arith) in
      let bytes : text ≡ f ++ 10 ∷ drop (n + 1) text =
      sym (take-append-drop n text)
      ∙ ap (λ bs. f ++ bs) (drop_more text n 0 within ∙ ap (λ b. b ∷ drop (n + 1) text) lf) in
      let up_to : take (n + 1) text ≡ f ++ 10 ∷ [] =
      take_more text n 0 within ∙ ap (λ b. f ++ b ∷ []) lf in (
        lines 0 f,
        ap (lines 0) bytes ∙ lines_split 0 f (drop (n + 1) text)
            ∙ ap (λ k. lines 0 f ++ lines k (drop (n + 1) text)) (omega (arith, size)),
        sym (ap pieces up_to ∙ ap (pieces_of_lines true) (lines_split 0 f [])
            ∙ empty_line true (0 + length f + 1) (lines 0 f)),
      )

  splits : (p : ℕ) → p < length text → begins_line text p ≡ true → Splits p
  splits zero within opens = ([], refl, refl)
  splits (suc n) within opens =
      let same : suc n ≡ n + 1 = omega arith in
      let lf : ends_line (get_or text n 0) ≡ true =
      sym (next_line text n) ∙ ap (begins_line text) (sym same) ∙ opens in
      subst Splits (sym same) (after_line n (omega arith) (eqb-true (get_or text n 0) 10 lf))

comes_as_comment : (text : List ℕ) (p : ℕ) → begins_line text p ≡ true
    → slice_index text p ≡ 99 → has_p (words_of (pieces (take p text))) ≡ false
    → (c : List ℕ) × (before after : List Piece) × (pieces text ≡ before ++ (comment p c ∷ after))
comes_as_comment text p opens is_c no_p =
    let within : p < length text =
    ⊎_elim (λ l. l) (λ past. absurd (omega (arith, is_c, get_or_past text p 0 past)))
    (cases_lt p (length text)) in
    let (ls, bytes, is_before) = splits text p within opens in
    let before = pieces_of_lines true ls in
    let may : early_past true before ≡ true =
    early-has_p true before ∙ ap (λ ps. not (has_p (words_of ps))) is_before ∙ ap not no_p in
    let here : drop p text ≡ 99 ∷ drop (p + 1) text =
    drop_more text p 0 within ∙ ap (λ b. b ∷ drop (p + 1) text) is_c in
    let (l, rest, cuts) = opens_with_c p (lines (p + 1) (drop (p + 1) text)) in (
      99 ∷ l,
      before,
      pieces_of_lines true rest,
      ap (pieces_of_lines true) (bytes ∙ ap (λ ms. ls ++ ms) (ap (lines p) here ∙ cuts))
          ∙ pieces_split true ls (at p (99 ∷ l) ∷ rest)
          ∙ ap (λ e. before ++ pieces_of_lines e (at p (99 ∷ l) ∷ rest)) may,
    )

pub comments_are_lines : CommentsAreLines
comments_are_lines = (is_a_comment, comes_as_comment)
