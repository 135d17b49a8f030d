-- What a page says, and its bytes. Assumes nothing.
use Rattle.std.specs.Prelude.{ℕ, List, [], ◌∷◌, ◌++◌, ℤ, pos}
use Rattle.std.specs.Fmt.{signed_decimal}

-- A page is a list of items: a number, the bytes of an ASCII word, one space,
-- or the end of a line.
pub data Item : Type 0 where
  number : ℤ → Item
  word : List ℕ → Item
  space : Item
  line_end : Item

abbrev pub natural : ℕ → Item
natural n = number (pos n)

-- decimal digits, and the sign of a number below 0; LF ends a line
abbrev pub bytes_of : Item → List ℕ
bytes_of (number z) = signed_decimal z
bytes_of (word w) = w
bytes_of space = 32 ∷ []
bytes_of line_end = 10 ∷ []

-- every page's bytes are taken from here
abbrev pub bytes : List Item → List ℕ
bytes [] = []
bytes (i ∷ is) = bytes_of i ++ bytes is

-- the most that a length can tell
abbrev pub most : ℕ
most = 18446744073709551615
