-- A text's lines, comments and words, each with the place of its first byte, counted from 0. Assumes nothing.
use Rattle.std.specs.Prelude.{ℕ, ◌+◌, Bool, true, false, cond, not, ◌&&◌, ◌||◌, List, [], ◌∷◌, ◌++◌, codes, ◌==◌, slice_index}
use Rattle.std.specs.Str.{bytes_eq}

-- words are parted by space, tab, CR and LF
abbrev pub parts_words : ℕ → Bool
parts_words b = b == 32 || (b == 9 || (b == 13 || b == 10))

-- a line ends at LF
abbrev pub ends_line : ℕ → Bool
ends_line b = b == 10

-- bytes and the place of the first of them
pub data Stretch : Type 0 where
  at : ℕ → List ℕ → Stretch

-- what stands in a text, in order: words outside comments, and comments
pub data Piece : Type 0 where
  word : ℕ → List ℕ → Piece
  comment : ℕ → List ℕ → Piece

abbrev pub cut : Bool → ℕ → ℕ → List Stretch → List Stretch
cut true p b ss = at p [] ∷ ss
cut false p b [] = at p (b ∷ []) ∷ []
cut false p b (at q bs ∷ ss) = at p (b ∷ bs) ∷ ss

-- the stretches, empty ones too, between the bytes that pass the test; p is the first byte's place
abbrev pub stretches : (ℕ → Bool) → ℕ → List ℕ → List Stretch
stretches parts p [] = at p [] ∷ []
stretches parts p (b ∷ bs) = cut (parts b) p b (stretches parts (p + 1) bs)

abbrev pub lines : ℕ → List ℕ → List Stretch
lines p bs = stretches ends_line p bs

abbrev pub filled_words : List Stretch → List Piece
filled_words [] = []
filled_words (at p [] ∷ ss) = filled_words ss
filled_words (at p (b ∷ bs) ∷ ss) = word p (b ∷ bs) ∷ filled_words ss

-- the words of a line
abbrev pub words : ℕ → List ℕ → List Piece
words p bs = filled_words (stretches parts_words p bs)

-- A line is a comment if its first byte is c and comments may still come:
-- `early` says that no word p stands before it outside comments.
abbrev pub is_comment : Bool → List ℕ → Bool
is_comment early line = early && slice_index line 0 == 99

-- comments may still come after this word
abbrev pub early_after : Bool → List ℕ → Bool
early_after early w = early && not (bytes_eq w (codes "p"))

abbrev pub early_past : Bool → List Piece → Bool
early_past early [] = early
early_past early (word p w ∷ ps) = early_past (early_after early w) ps
early_past early (comment p w ∷ ps) = early_past early ps

abbrev pub line_pieces : Bool → ℕ → List ℕ → List Piece
line_pieces early p line = cond (is_comment early line) (comment p line ∷ []) (words p line)

abbrev pub pieces_of_lines : Bool → List Stretch → List Piece
pieces_of_lines early [] = []
pieces_of_lines early (at p line ∷ ls) =
    line_pieces early p line ++ pieces_of_lines (early_past early (line_pieces early p line)) ls

-- the words and the comments of a text
abbrev pub pieces : List ℕ → List Piece
pieces text = pieces_of_lines true (lines 0 text)

-- the bytes of the words, without their places
abbrev pub words_of : List Piece → List (List ℕ)
words_of [] = []
words_of (word p w ∷ ps) = w ∷ words_of ps
words_of (comment p c ∷ ps) = words_of ps
