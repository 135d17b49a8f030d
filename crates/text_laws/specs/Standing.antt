-- Where words stand in a text, and how far words have come that a sound text may
-- begin with: a problem line, whole clauses, and literals of one that isn't
-- whole yet. Assumes nothing.
use Rattle.std.specs.Prelude.{◌≡◌, ℕ, ◌+◌, ◌-◌, ◌<◌, ◌≤◌, true, false, List, [], ◌∷◌, ◌++◌, length, map, take, drop, ℤ, codes, decimal, All, slice_index}
use Rattle.std.specs.List.{flat_map}
use Rattle.std.specs.Fmt.{signed_decimal}
use Rattle.limits.specs.Limits.{most_clauses}
use Rattle.tokens.specs.Words.{Piece, word, parts_words, pieces, words_of}
use Rattle.text_laws.specs.Writing.{Writable, clause_words, saying}

-- A word of the text outside comments, at the place p; the words ws stand before
-- it.
abbrev pub WordAt : List ℕ → ℕ → List (List ℕ) → List ℕ → Type 0
WordAt text p ws w =
    (before after : List Piece) × (pieces text ≡ before ++ (word p w ∷ after))
    × (words_of before ≡ ws)

-- The bytes w are a part of the text: its bytes from the place p on. None of them
-- parts words, and the bytes on both sides do, if there are any.
pub record IsAWord (text : List ℕ) (p : ℕ) (w : List ℕ) : Type 0 where
  pub some : 0 < length w
  pub there : take (length w) (drop p text) ≡ w
  pub whole : All (λ b. parts_words b ≡ false) w
  pub opens : 0 < p → parts_words (slice_index text (p - 1)) ≡ true
  pub closes : p + length w < length text → parts_words (slice_index text (p + length w)) ≡ true

-- The words of a sound text of the clauses cs, over at most `limit` variables.
abbrev pub Sound : ℕ → List (List ℕ) → List (List ℤ) → Type 0
Sound limit ws cs = (n : ℕ) × (n ≤ limit) × Writable n cs × (ws ≡ saying n cs)

-- The words of some sound text begin with these.
abbrev pub GoesOn : ℕ → List (List ℕ) → Type 0
GoesOn limit ws = (rest : List (List ℕ)) × (cs : List (List ℤ)) × Sound limit (ws ++ rest) cs

-- the words of a problem line with n and m, of the clauses cs, and of the
-- literals ls of a further one
abbrev pub begun : ℕ → ℕ → List (List ℤ) → List ℤ → List (List ℕ)
begun n m cs ls =
    codes "p" ∷ codes "cnf" ∷ decimal n ∷ decimal m
    ∷ (flat_map clause_words cs ++ map signed_decimal ls)

-- The words ws are such, where a clause is missing: after the clauses cs the
-- literals ls of the next, whose 0 isn't there yet.
pub record Begun (limit : ℕ) (ws : List (List ℕ)) (cs : List (List ℤ)) : Type 0 where
  pub n : ℕ
  pub m : ℕ
  pub ls : List ℤ
  pub narrow : n ≤ limit
  pub missing : length cs < m
  pub few : m ≤ most_clauses
  pub writable : Writable n (cs ++ (ls ∷ []))
  pub words : ws ≡ begun n m cs ls
