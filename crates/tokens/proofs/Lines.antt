-- Scanning a text byte by byte gives the same pieces as going line by line. Assumes nothing.
use Rattle.std.proofs.Common.{◌≡◌, ℕ, ◌+◌, Bool, true, false, cond, ◌&&◌, eqb, List, [], ◌∷◌, ◌++◌, get_or, refl, ap, ◌∙◌, append_assoc, arith}
use Rattle.std.proofs.lemmas.List.{append-nil}
use Rattle.std.proofs.lemmas.Bool.{eqb-true, and_right}
use Rattle.std.proofs.lemmas.Bool.Decides.{nat_tests}
use Rattle.tokens.specs.Scanning.{a_word, a_comment, Mode, gap, inside, opens_comment, next_mode, ended, unended, scan}
use Rattle.tokens.specs.Words.{Stretch, at, Piece, word, comment, cut, stretches, lines, parts_words, ends_line, words, filled_words, early_after, early_past, pieces_of_lines}

-- a word that began at s with the bytes w goes on into the first stretch
abbrev lengthened : ℕ → List ℕ → List Stretch → List Piece
lengthened s w [] = word s w ∷ []
lengthened s w (at p v ∷ ss) = word s (w ++ v) ∷ filled_words ss

-- comments may come, the word that is being scanned not counted
abbrev early_in : Mode → Bool
early_in (gap early fresh) = early
early_in (inside a_word early s w) = early
early_in (inside a_comment early s w) = early

-- the pieces that a scan gives on its line, of which the bytes l at the place p are left
abbrev on_line : Mode → ℕ → List ℕ → List Piece
on_line (gap early fresh) p l = cond (opens_comment early fresh (get_or l 0 0)) (comment p l ∷ []) (words p l)
on_line (inside a_word early s w) p l = lengthened s w (stretches parts_words p l)
on_line (inside a_comment early s w) p l = comment s (w ++ l) ∷ []

-- the pieces ps, and those of the lines after them
abbrev pub then_lines : Bool → List Piece → List Stretch → List Piece
then_lines early ps ls = ps ++ pieces_of_lines (early_past early ps) ls

-- the pieces that a scan gives, by the rest of its line and the lines after it
abbrev by_lines : Mode → List Stretch → List Piece
by_lines m [] = unended m
by_lines m (at p l ∷ ls) = then_lines (early_in m) (on_line m p l) ls

-- a byte that isn't c opens no comment
no_comment : (early fresh : Bool) (b : ℕ) → eqb b 99 ≡ false → opens_comment early fresh b ≡ false
no_comment early fresh b h = and_right early (fresh && eqb b 99) (and_right fresh (eqb b 99) h)

-- a word with one byte more, and one that begins with the byte, as `cut` puts it into its stretch
longer : (s p b : ℕ) (w : List ℕ) (ss : List Stretch) → lengthened s (w ++ b ∷ []) ss ≡ lengthened s w (cut false p b ss)
longer s p b w [] = refl
longer s p b w (at q v ∷ ss) = rw append_assoc

begun : (p b : ℕ) (ss : List Stretch) → lengthened p (b ∷ []) ss ≡ filled_words (cut false p b ss)
begun p b [] = refl
begun p b (at q v ∷ ss) = refl

-- at the end of a line or of the text only the piece that ends there is left
nothing_left : (m : Mode) (p : ℕ) → on_line m p [] ≡ unended m
nothing_left (gap early fresh) p = rw (no_comment early fresh 0 refl)
nothing_left (inside a_word early s w) p = rw append-nil
nothing_left (inside a_comment early s w) p = rw append-nil

-- the byte LF: the piece ends, and a line begins
line_ends : (m : Mode) (p q : ℕ) (l : List ℕ) (ls : List Stretch) → ended m 10 ++ by_lines (next_mode m p 10) (at q l ∷ ls) ≡ then_lines (early_in m) (unended m) (at q l ∷ ls)
line_ends (gap early fresh) p q l ls = refl
line_ends (inside a_word early s w) p q l ls = refl
line_ends (inside a_comment early s w) p q l ls = refl

-- any other byte b belongs to the line, before its rest l
module _ (p b : ℕ) (l : List ℕ) (ls : List Stretch) (same_line : ends_line b ≡ false) where
  abbrev GoesOn : Mode → Type 0
  GoesOn m = ended m b ++ by_lines (next_mode m p b) (at (p + 1) l ∷ ls) ≡ by_lines m (at p (b ∷ l) ∷ ls)

  in_gap : (early fresh : Bool) → parts_words b ≡ false → (c : Bool) → opens_comment early fresh b ≡ c → GoesOn (gap early fresh)
  in_gap early fresh e true o = rw (e, o)
  in_gap early fresh e false o = rw (e, o, begun)

  line_goes_on : (m : Mode) (t : Bool) → parts_words b ≡ t → GoesOn m
  line_goes_on (gap early fresh) true e = rw (e, same_line, no_comment early fresh b (grind (arith, nat_tests)), and_right early false refl)
  line_goes_on (gap early fresh) false e = in_gap early fresh e (opens_comment early fresh b) refl
  line_goes_on (inside a_word early s w) true e = rw (e, same_line, append-nil, and_right (early_after early w) false refl)
  line_goes_on (inside a_word early s w) false e = rw (e, longer s p b w)
  line_goes_on (inside a_comment early s w) t e = rw (same_line, append_assoc)

-- stretches begin where the bytes do
abbrev pub Begins : ℕ → List Stretch → Type 0
Begins p ss = (l : List ℕ) × (ls : List Stretch) × (ss ≡ at p l ∷ ls)

cut_begins : (t : Bool) (p b : ℕ) (ss : List Stretch) → Begins p (cut t p b ss)
cut_begins true p b ss = ([], ss, refl)
cut_begins false p b [] = (b ∷ [], [], refl)
cut_begins false p b (at q v ∷ ss) = (b ∷ v, ss, refl)

pub lines_begin : (p : ℕ) (bs : List ℕ) → Begins p (lines p bs)
lines_begin p [] = ([], [], refl)
lines_begin p (b ∷ bs) = cut_begins (ends_line b) p b (lines (p + 1) bs)

-- the step of a scan by one byte
one_byte : (m : Mode) (p b : ℕ) (ss : List Stretch) → Begins (p + 1) ss → (t : Bool) → ends_line b ≡ t → ended m b ++ by_lines (next_mode m p b) ss ≡ by_lines m (cut t p b ss)
one_byte m p b ss (l, ls, e) true h = rw (e, eqb-true b 10 h, nothing_left) (line_ends m p (p + 1) l ls)
one_byte m p b ss (l, ls, e) false h = rw e (line_goes_on p b l ls h m (parts_words b) refl)

scan_from : (m : Mode) (p : ℕ) (bs : List ℕ) → scan m p bs ≡ by_lines m (lines p bs)
scan_from m p [] = rw (nothing_left, append-nil)
scan_from m p (b ∷ bs) =
    ap (λ ps. ended m b ++ ps) (scan_from (next_mode m p b) (p + 1) bs)
    ∙ one_byte m p b (lines (p + 1) bs) (lines_begin (p + 1) bs) (ends_line b) refl

-- at a line's first byte the rest of the line is the whole line
from_line : (early : Bool) (ls : List Stretch) → by_lines (gap early true) ls ≡ pieces_of_lines early ls
from_line early [] = refl
from_line early (at p l ∷ ls) = refl

pub pieces_scanned : (early : Bool) (p : ℕ) (text : List ℕ) → scan (gap early true) p text ≡ pieces_of_lines early (lines p text)
pieces_scanned early p text = scan_from (gap early true) p text ∙ from_line early (lines p text)
