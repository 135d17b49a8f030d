-- What a text's words and comments are, in terms of its bytes. Assumes nothing.
use Rattle.std.specs.Prelude.{◌≡◌, ℕ, ◌+◌, ◌<◌, ◌≤◌, Bool, true, false, ◌&&◌, List, ◌∷◌, ◌++◌, length, take, drop, codes, All, nat_le, nat_lt, slice_index}
use Rattle.std.specs.List.{list_any}
use Rattle.std.specs.Str.{bytes_eq}
use Rattle.tokens.specs.Scanning.{begins_line}
use Rattle.tokens.specs.Words.{Piece, word, comment, parts_words, ends_line, pieces, words_of}

-- the place of its first byte, and the one behind its last
abbrev pub start_of : Piece → ℕ
start_of (word p w) = p
start_of (comment p c) = p

abbrev pub end_of : Piece → ℕ
end_of (word p w) = p + length w
end_of (comment p c) = p + length c

-- the byte at the place p is one of its own
abbrev pub covers : ℕ → Piece → Bool
covers p x = nat_le (start_of x) p && nat_lt p (end_of x)

-- Each byte that parts no words is told, as one of a word or of a comment.
abbrev pub EveryByteIsTold : Type 0
EveryByteIsTold =
    (text : List ℕ) (p : ℕ) → p < length text → parts_words (slice_index text p) ≡ false
    → list_any (covers p) (pieces text) ≡ true

-- Words and comments follow one another.
abbrev pub PiecesFollow : Type 0
PiecesFollow =
    (text : List ℕ) (before after : List Piece) (x y : Piece)
    → pieces text ≡ before ++ (x ∷ y ∷ after) → end_of x ≤ start_of y

-- some word is p
abbrev pub has_p : List (List ℕ) → Bool
has_p ws = list_any (λ w. bytes_eq w (codes "p")) ws

-- A whole line, without its LF, whose first byte is c (99), and before which the
-- words ws stand, none of them p.
pub record IsAComment (text : List ℕ) (p : ℕ) (c : List ℕ) (ws : List (List ℕ)) : Type 0 where
  pub there : take (length c) (drop p text) ≡ c
  pub opens : begins_line text p ≡ true
  pub first : slice_index c 0 ≡ 99
  pub whole : All (λ b. ends_line b ≡ false) c
  pub closes : p + length c < length text → ends_line (slice_index text (p + length c)) ≡ true
  pub early : has_p ws ≡ false

-- A comment is such a line, and such a line is a comment.
abbrev pub CommentsAreLines : Type 0
CommentsAreLines =
    ((text : List ℕ) (before after : List Piece) (p : ℕ) (c : List ℕ)
    → pieces text ≡ before ++ (comment p c ∷ after) → IsAComment text p c (words_of before))
    × ((text : List ℕ) (p : ℕ) → begins_line text p ≡ true → slice_index text p ≡ 99
    → has_p (words_of (pieces (take p text))) ≡ false
    → (c : List ℕ) × (before after : List Piece) × (pieces text ≡ before ++ (comment p c ∷ after)))
