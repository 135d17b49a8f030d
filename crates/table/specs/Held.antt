-- What a stretch of lent places holds. Assumes nothing.
use Rattle.std.specs.Prelude.{◌≡◌, ℕ, ◌-◌, ◌<◌, ◌≤◌, List, [], ◌∷◌, ◌++◌, length, take, drop, Some, None, Ok, Err, Option, Result, slice_index_or}
use Rattle.table.specs.declared.filled.Filled.{Filled}
use Rattle.table.specs.declared.filled.Full.{Full}

-- the entries, oldest first
abbrev pub held : {T : Type 0} → Filled T → List T
held f = take f.len f.places.now

-- what the places beyond the entries hold
abbrev pub beyond : {T : Type 0} → Filled T → List T
beyond f = drop f.len f.places.now

-- all the lent places, used and free
abbrev pub places_of : {T : Type 0} → Filled T → List T
places_of f = f.places.now

-- how many more entries fit
abbrev pub free : {T : Type 0} → Filled T → ℕ
free f = length (places_of f) - f.len

-- A push onto `was` leaves `is`. With a free place the entry stands after the
-- others, its index is the answer, and each further place keeps what it held;
-- with none, nothing changes.
abbrev pub Pushed : {T : Type 0} → Filled T → T → Filled T → Result ℕ Full → Type 0
Pushed was x is (Ok i) =
    (i ≡ length (held was)) × (0 < free was) × (held is ≡ held was ++ (x ∷ [])) × (beyond is ≡ drop 1 (beyond was))
    × (length (places_of is) ≡ length (places_of was))
Pushed was x is (Err e) = (free was ≡ 0) × (is ≡ was)

-- `Some`: the entry at index i; `None`: there are no more than i entries
abbrev pub StandsAt : {T : Type 0} → List T → ℕ → Option T → Type 0
StandsAt xs i None = length xs ≤ i
StandsAt xs i (Some x) = (i < length xs) × (x ≡ slice_index_or xs i x)
