-- What is left of a text's words and comments in the middle of it, byte by byte. Assumes nothing.
-- That this gives the same pieces as going line by line is promised by `Tokens::new`.
use Rattle.std.specs.Prelude.{◌≡◌, ℕ, ◌+◌, ◌-◌, ◌<◌, ◌≤◌, Bool, false, cond, ◌&&◌, ◌||◌, List, [], ◌∷◌, ◌++◌, length, drop, Some, None, Option, ◌==◌, slice_index}
use Rattle.tokens.specs.declared.stream.Placed.{Placed}
use Rattle.tokens.specs.declared.stream.Token.{Token}
use Rattle.tokens.specs.declared.stream.Token.TheVariants.{Number, Problem, Format, Comment, Other}
use Rattle.tokens.specs.declared.stream.Tokens.{Tokens}
use Rattle.tokens.specs.Words.{Piece, word, comment, parts_words, ends_line, early_after}

-- what begins after a gap: a word, or a comment, which is a whole line
pub data Part : Type 0 where
  a_word : Part
  a_comment : Part

-- a word ends at a byte that parts words, a comment at the end of its line
abbrev pub part_ends : Part → ℕ → Bool
part_ends a_word b = parts_words b
part_ends a_comment b = ends_line b

abbrev pub piece_of : Part → ℕ → List ℕ → Piece
piece_of a_word p w = word p w
piece_of a_comment p w = comment p w

-- comments may still come after it
abbrev pub early_past_part : Part → Bool → List ℕ → Bool
early_past_part a_word early w = early_after early w
early_past_part a_comment early w = early

-- Where a scan stands: in a gap, `early` while comments may come and `fresh` at
-- a line's first byte; or inside a word or a comment that began at a place,
-- with the bytes so far.
pub data Mode : Type 0 where
  gap : Bool → Bool → Mode
  inside : Part → Bool → ℕ → List ℕ → Mode

abbrev pub opens_comment : Bool → Bool → ℕ → Bool
opens_comment early fresh b = early && (fresh && b == 99)

abbrev pub opened : Bool → Bool → ℕ → Part
opened early fresh b = cond (opens_comment early fresh b) a_comment a_word

-- where it stands after the byte b at the place p
abbrev pub next_mode : Mode → ℕ → ℕ → Mode
next_mode (gap early fresh) p b = cond (parts_words b) (gap early (ends_line b)) (inside (opened early fresh b) early p (b ∷ []))
next_mode (inside part early s w) p b =
    cond (part_ends part b) (gap (early_past_part part early w) (ends_line b)) (inside part early s (w ++ b ∷ []))

-- the piece that the byte b ends, if it ends one
abbrev pub ended : Mode → ℕ → List Piece
ended (gap early fresh) b = []
ended (inside part early s w) b = cond (part_ends part b) (piece_of part s w ∷ []) []

-- the piece that the end of the text ends
abbrev pub unended : Mode → List Piece
unended (gap early fresh) = []
unended (inside part early s w) = piece_of part s w ∷ []

abbrev pub scan : Mode → ℕ → List ℕ → List Piece
scan m p [] = unended m
scan m p (b ∷ bs) = ended m b ++ scan (next_mode m p b) (p + 1) bs

-- the place p begins a line
abbrev pub begins_line : List ℕ → ℕ → Bool
begins_line text p = p == 0 || slice_index text (p - 1) == 10

-- the pieces from the place p on, where p stands in no word and in no comment
abbrev pub pieces_from : Bool → List ℕ → ℕ → List Piece
pieces_from early text p = scan (gap early (begins_line text p)) p (drop p text)

-- the pieces that are still to come
abbrev pub coming : Tokens → List Piece
coming t = pieces_from t.early t.text.now t.at

-- a gap ends here: a word or a comment begins, or nothing is to come
abbrev pub GapEnds : Tokens → Type 0
GapEnds t =
    (t.at < length t.text.now → parts_words (slice_index t.text.now t.at) ≡ false) × (length t.text.now ≤ t.at → coming t ≡ [])

-- a comment begins where a gap ends
abbrev pub opens_here : Tokens → Bool
opens_here t = opens_comment t.early (begins_line t.text.now t.at) (slice_index t.text.now t.at)

-- the piece that a token at a place stands for
abbrev pub piece : ℕ → Token → Piece
piece p (Number w x) = word p w.now
piece p (Problem w) = word p w.now
piece p (Format w) = word p w.now
piece p (Comment w) = comment p w.now
piece p (Other w) = word p w.now

abbrev pub piece_at : Placed → Piece
piece_at t = piece t.place t.token

-- a token that stands for the word w
abbrev pub IsWord : Token → List ℕ → Type 0
IsWord t w = (p : ℕ) → piece p t ≡ word p w

-- what was told is the first piece that was to come; `None`: there was none
abbrev pub Told : List Piece → Option Placed → List Piece → Type 0
Told was None left = (was ≡ []) × (left ≡ [])
Told was (Some t) left = was ≡ piece_at t ∷ left
