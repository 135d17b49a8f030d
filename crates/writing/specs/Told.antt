-- What the bytes of a page tell. Assumes nothing.
use Rattle.std.specs.Prelude.{◌≡◌, ℕ, ◌^◌, ◌<◌, Bool, true, false, List, [], ◌∷◌, ℤ, unsigned_abs}
use Rattle.std.specs.List.{AllByRecursion}
use Rattle.writing.specs.Items.{Item, number, word, space, line_end, bytes}

-- what stands after a word: the end of its line, where it is the last of it,
-- else one space
abbrev pub ending : Bool → Item
ending true = line_end
ending false = space

-- words, each with whether it is the last of its line
abbrev pub words_items : List (List ℕ × Bool) → List Item
words_items [] = []
words_items (x ∷ xs) = word x.0 ∷ ending x.1 ∷ words_items xs

-- the same of numbers
abbrev pub numbers_items : List (ℤ × Bool) → List Item
numbers_items [] = []
numbers_items (x ∷ xs) = number x.0 ∷ ending x.1 ∷ numbers_items xs

-- bytes above that of a space: no space, no tab and no end of a line
abbrev pub Unbroken : List ℕ → Type 0
Unbroken w = AllByRecursion (λ b. 32 < b) w

-- Two pages of words that differ, or break their lines at different places, have
-- different bytes.
abbrev pub WordsAreTold : Type 0
WordsAreTold =
    (xs ys : List (List ℕ × Bool))
    → AllByRecursion (λ x. Unbroken x.0) xs → AllByRecursion (λ y. Unbroken y.0) ys
    → bytes (words_items xs) ≡ bytes (words_items ys) → xs ≡ ys

abbrev pub Small : List (ℤ × Bool) → Type 0
Small xs = AllByRecursion (λ x. unsigned_abs x.0 < 2 ^ 63) xs

-- So it is of numbers.
abbrev pub NumbersAreTold : Type 0
NumbersAreTold =
    (xs ys : List (ℤ × Bool)) → Small xs → Small ys
    → bytes (numbers_items xs) ≡ bytes (numbers_items ys) → xs ≡ ys
