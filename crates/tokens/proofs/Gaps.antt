-- A scan that goes on by one byte, and through a whole gap, word or comment. Assumes nothing.
use Rattle.std.proofs.Common.{◌≡◌, ℕ, zero, suc, ◌+◌, ◌-◌, ◌<◌, ◌≤◌, Bool, true, false, cond, not, eqb, List, [], ◌∷◌, ◌++◌, length, get_or, take, drop, sym, refl, ap, ◌∙◌, subst, arith}
use Rattle.std.specs.List.{prefix_len}
use Rattle.std.proofs.lemmas.List.{drop_more, drop_all, drop-drop, get_or-drop, length-drop, length-take-le, append-nil, append_assoc}
use Rattle.std.proofs.lemmas.List.Sums.{prefix_len-le-length, prefix_len_passes, prefix_len_stops}
use Rattle.std.proofs.lemmas.Bool.{ne_eqb}
use Rattle.std.proofs.lemmas.Bool.Decides.{nat_tests}
use Rattle.tokens.specs.declared.stream.Tokens.{Tokens}
use Rattle.tokens.specs.Words.{Piece, word, comment, parts_words, ends_line, early_after}
use Rattle.tokens.specs.Scanning.{Part, a_word, a_comment, Mode, gap, inside, part_ends, piece_of, early_past_part, opened, unended, scan, begins_line, pieces_from, coming, GapEnds, opens_here}

-- after the byte at p, the next place begins a line if that byte is LF
pub next_line : (t : List ℕ) (p : ℕ) → begins_line t (p + 1) ≡ ends_line (get_or t p 0)
next_line t p =
    let no : eqb (p + 1) 0 ≡ false = ne_eqb (p + 1) 0 (λ e. omega arith) in
    let back : p + 1 - 1 ≡ p = omega arith in
    simp (no, back)

-- a count of the first bytes that pass is no more than there are
pub within : (test : ℕ → Bool) (bytes : List ℕ) (n : ℕ) → n ≡ prefix_len test bytes → n ≤ length bytes
within test bytes n e = omega (arith, e, prefix_len-le-length test bytes)

-- a byte that ends a part, as LF a comment, parts words
pub ends_parts : (part : Part) (b : ℕ) → part_ends part b ≡ true → parts_words b ≡ true
ends_parts a_word b y = y
ends_parts a_comment b y = grind (arith, nat_tests)

pub no_end : (part : Part) (b : ℕ) → parts_words b ≡ false → part_ends part b ≡ false
no_end a_word b y = y
no_end a_comment b y = grind (arith, nat_tests)

-- one byte b, and the bytes after it
module _ (p b : ℕ) (bs : List ℕ) (early : Bool) where
  gap_byte : (fresh : Bool) → parts_words b ≡ true → scan (gap early fresh) p (b ∷ bs) ≡ scan (gap early (ends_line b)) (p + 1) bs
  gap_byte fresh y = simp y

  part_byte : (part : Part) (s : ℕ) (w : List ℕ) → part_ends part b ≡ false → scan (inside part early s w) p (b ∷ bs) ≡ scan (inside part early s (w ++ b ∷ [])) (p + 1) bs
  part_byte part s w y = simp y

  part_gap : (part : Part) (s : ℕ) (w : List ℕ) (fresh : Bool) → part_ends part b ≡ true → scan (inside part early s w) p (b ∷ bs) ≡ piece_of part s w ∷ scan (gap (early_past_part part early w) fresh) p (b ∷ bs)
  part_gap part s w fresh y = let parts = ends_parts part b y in simp parts (simp y)

  -- in a gap, a byte that parts no words opens a part
  gap_opens : (fresh : Bool) (part : Part) → parts_words b ≡ false → opened early fresh b ≡ part → scan (gap early fresh) p (b ∷ bs) ≡ scan (inside part early p []) p (b ∷ bs)
  gap_opens fresh part y e = let no = no_end part b y in simp (y, e) (simp no)

module _ (t : List ℕ) (p : ℕ) (h : p < length t) (early : Bool) where
  pub gap_more : parts_words (get_or t p 0) ≡ true → pieces_from early t (p + 1) ≡ pieces_from early t p
  gap_more y =
      ap (λ f. scan (gap early f) (p + 1) (drop (p + 1) t)) (next_line t p)
      ∙ sym (ap (scan (gap early (begins_line t p)) p) (drop_more t p 0 h) ∙ gap_byte p (get_or t p 0) (drop (p + 1) t) early (begins_line t p) y)

  pub gap_stop : (part : Part) → parts_words (get_or t p 0) ≡ false → opened early (begins_line t p) (get_or t p 0) ≡ part → pieces_from early t p ≡ scan (inside part early p []) p (drop p t)
  gap_stop part y e = rw (drop_more t p 0 h) (gap_opens p (get_or t p 0) (drop (p + 1) t) early (begins_line t p) part y e)

-- at the end of the text
module _ (t : List ℕ) (p : ℕ) (h : length t ≤ p) where
  scan_end : (m : Mode) → scan m p (drop p t) ≡ unended m
  scan_end m = ap (scan m p) (drop_all p t h)

  pub none_left : (early : Bool) → pieces_from early t p ≡ []
  none_left early = scan_end (gap early (begins_line t p))

-- the bytes of a gap, n of them from the place p on
gap_on : (t : List ℕ) (early : Bool) (p n : ℕ) → ((j : ℕ) → j < n → (p + j < length t) × (parts_words (get_or t (p + j) 0) ≡ true)) → pieces_from early t (p + n) ≡ pieces_from early t p
gap_on t early p zero h = ap (pieces_from early t) (omega arith)
gap_on t early p (suc n) h =
    let last = h n (omega arith) in
    ap (pieces_from early t) (omega arith) ∙ gap_more t (p + n) last.0 early last.1 ∙ gap_on t early p n (λ j k. h j (omega arith))

-- A gap goes on as far as bytes part words, and there a word or a comment
-- begins or the text ends: `rest` is what stands at a place of a text, and n
-- bytes of it are the gap.
module _ (s : Tokens) (rest : List ℕ) (n : ℕ) (is_rest : rest ≡ drop s.at s.text.now) (is_gap : n ≡ prefix_len parts_words rest) where
  gap_bytes : n ≡ prefix_len parts_words (drop s.at s.text.now)
  gap_bytes = is_gap ∙ ap (prefix_len parts_words) is_rest

  pub gap_passed : pieces_from s.early s.text.now (s.at + n) ≡ coming s
  gap_passed =
      let t = s.text.now in
      gap_on t s.early s.at n (λ j h.
      let k : j < prefix_len parts_words (drop s.at t) = omega (arith, gap_bytes) in (
        omega (arith, prefix_len-le-length parts_words (drop s.at t), length-drop s.at t),
        ap parts_words (sym (get_or-drop s.at t j 0)) ∙ prefix_len_passes parts_words (drop s.at t) j 0 k,
      ))

  pub gap_stops : s.at + n < length s.text.now → parts_words (get_or s.text.now (s.at + n) 0) ≡ false
  gap_stops h =
      let t = s.text.now in
      let k : prefix_len parts_words (drop s.at t) < length (drop s.at t) = omega (arith, gap_bytes, length-drop s.at t) in
      ap parts_words (sym (get_or-drop s.at t n 0)) ∙ ap (λ m. parts_words (get_or (drop s.at t) m 0)) gap_bytes ∙ prefix_len_stops parts_words (drop s.at t) 0 k

-- a word or a comment that began at s with the bytes w, of which n more follow
abbrev Runs : Part → Bool → ℕ → List ℕ → Bool → ℕ → List ℕ → ℕ → Type 0
Runs part early s w fresh p bs n =
    scan (inside part early s w) p bs ≡ piece_of part s (w ++ take n bs) ∷ scan (gap (early_past_part part early (w ++ take n bs)) fresh) (p + n) (drop n bs)

abbrev stays : Part → ℕ → Bool
stays part b = not (part_ends part b)

module _ (part : Part) (early : Bool) (s : ℕ) (w : List ℕ) (fresh : Bool) (p b : ℕ) (bs : List ℕ) where
  abbrev more : ℕ
  more = prefix_len (stays part) bs

  run_ends : part_ends part b ≡ true → Runs part early s w fresh p (b ∷ bs) 0
  run_ends e = let here : p + 0 ≡ p = omega arith in rw (append-nil, here) (part_gap p b bs early part s w fresh e)

  run_goes_on : part_ends part b ≡ false → Runs part early s (w ++ b ∷ []) fresh (p + 1) bs more → Runs part early s w fresh p (b ∷ bs) (suc more)
  run_goes_on e rest =
      let place : p + 1 + more ≡ p + suc more = omega arith in
      part_byte p b bs early part s w e ∙ rest ∙ rw (append_assoc, place)

  run_step : (ends : Bool) → part_ends part b ≡ ends → Runs part early s (w ++ b ∷ []) fresh (p + 1) bs more → Runs part early s w fresh p (b ∷ bs) (prefix_len (stays part) (b ∷ bs))
  run_step true e rest = subst (Runs part early s w fresh p (b ∷ bs)) (sym (ap (λ x. cond (not x) (1 + more) 0) e)) (run_ends e)
  run_step false e rest =
      let one : 1 + more ≡ suc more = omega arith in
      subst (Runs part early s w fresh p (b ∷ bs)) (sym (ap (λ x. cond (not x) (1 + more) 0) e ∙ one)) (run_goes_on e rest)

part_run : (part : Part) (early : Bool) (s : ℕ) (w : List ℕ) (fresh : Bool) (p : ℕ) (bs : List ℕ) → Runs part early s w fresh p bs (prefix_len (stays part) bs)
part_run part early s w fresh p [] = rw append-nil
part_run part early s w fresh p (b ∷ bs) = run_step part early s w fresh p b bs (part_ends part b) refl (part_run part early s (w ++ b ∷ []) fresh (p + 1) bs)

-- Where a gap ends, a word or a comment begins, and goes on as far as it may:
-- `rest` is what stands there, and n bytes of it are the word or the comment.
module _ (t : List ℕ) (p : ℕ) (h : p < length t) (early : Bool) (part : Part) (rest : List ℕ) (n : ℕ)
    (is_rest : rest ≡ drop p t) (is_size : n ≡ prefix_len (stays part) rest) where
  run_here : (fresh : Bool) → Runs part early p [] fresh p (drop p t) n
  run_here fresh =
      subst (Runs part early p [] fresh p (drop p t)) (sym (is_size ∙ ap (prefix_len (stays part)) is_rest)) (part_run part early p [] fresh p (drop p t))

  first_part : parts_words (get_or t p 0) ≡ false → opened early (begins_line t p) (get_or t p 0) ≡ part
      → pieces_from early t p ≡ piece_of part p (take n rest) ∷ pieces_from (early_past_part part early (take n rest)) t (p + length (take n rest))
  first_part y e =
      gap_stop t p h early part y e ∙ run_here (begins_line t (p + n))
      ∙ ap (λ ds. piece_of part p (take n (drop p t)) ∷ scan (gap (early_past_part part early (take n (drop p t))) (begins_line t (p + n))) (p + n) ds) (drop-drop n p t)
      ∙ (λ i. piece_of part p (take n (sym is_rest i)) ∷ pieces_from (early_past_part part early (take n (sym is_rest i))) t (p + sym (length-take-le n rest (within (stays part) rest n is_size)) i))

-- what begins where a gap ends in a text, of which `rest` stands there
module _ (s : Tokens) (rest : List ℕ) (n : ℕ) (h : s.at < length s.text.now) (ends : GapEnds s) (is_rest : rest ≡ drop s.at s.text.now) where
  pub first_comment : opens_here s ≡ true → n ≡ prefix_len (λ b. not (ends_line b)) rest
      → coming s ≡ comment s.at (take n rest) ∷ pieces_from s.early s.text.now (s.at + length (take n rest))
  first_comment o e = first_part s.text.now s.at h s.early a_comment rest n is_rest e (ends.0 h) (ap (λ b. cond b a_comment a_word) o)

  pub first_word : (x : Piece) (early : Bool) → opens_here s ≡ false → n ≡ prefix_len (λ b. not (parts_words b)) rest
      → x ≡ word s.at (take n rest) → early ≡ early_after s.early (take n rest)
      → coming s ≡ x ∷ pieces_from early s.text.now (s.at + length (take n rest))
  first_word x early o e is_word is_early =
      rw (is_word, is_early) (first_part s.text.now s.at h s.early a_word rest n is_rest e (ends.0 h) (ap (λ b. cond b a_comment a_word) o))
