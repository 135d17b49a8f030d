-- Where an equal entry first stands. Assumes nothing.
use Rattle.std.specs.Prelude.{ℕ, ◌<◌, Bool, true, false, List, length, Some, None, Option}
use Rattle.std.specs.List.{HoldsAt}

-- none of the first n entries passes as equal
abbrev pub NoneOf : {T : Type 0} → (T → Bool → Type 0) → List T → ℕ → Type 0
NoneOf same xs n = (k : ℕ) → k < n → HoldsAt (λ y. same y false) xs k

-- `Some i`: entry i is equal, and none before it is. `None`: no entry is.
-- `same y b` says that an entry y is (true) or isn't (false) equal.
abbrev pub FirstEqual : {T : Type 0} → (T → Bool → Type 0) → List T → Option ℕ → Type 0
FirstEqual same xs None = NoneOf same xs (length xs)
FirstEqual same xs (Some i) = (i < length xs) × HoldsAt (λ y. same y true) xs i × NoneOf same xs i
