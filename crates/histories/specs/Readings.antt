-- What holds of every reading of a text. Assumes nothing.
use Rattle.std.specs.Prelude.{◌≡◌, ℕ, true, List, ℤ}
use Rattle.std.specs.List.{list_all}
use Rattle.text.specs.Reading.{Reading, clause, well, refused}
use Rattle.text.specs.Refusals.{read_refusal, number_of}
use Rattle.clauses.specs.Literals.{names}

-- every number is a literal over n variables
abbrev pub Named : ℕ → List ℤ → Type 0
Named n xs = list_all (names n) xs ≡ true

-- The clauses hold such numbers alone, and what refuses the text itself is no
-- want of a place.
abbrev pub Proper : ℕ → Reading → Type 0
Proper n (clause xs p rest) = Named n xs × Proper n rest
Proper n well = Unit {0}
Proper n (refused f) = number_of (read_refusal f) ≡ 8 → ⊥
