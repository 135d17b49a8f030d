-- What the operations on words do to their bits. Assumes nothing.
use Rattle.std.specs.Prelude.{◌≡◌, ℕ, ◌-◌, ◌^◌, ◌<◌, not, ◌&&◌, ◌||◌, length, ◌==◌, bit_and, bit_or, bit_xor, count_ones, nat_lt}
use Rattle.words.specs.Bits.{width, bit, alike, every, variables}

abbrev pub AndHasWhatBothHave : Type 0
AndHasWhatBothHave = (k a b : ℕ) → bit k (bit_and a b) ≡ (bit k a && bit k b)

abbrev pub OrHasWhatEitherHas : Type 0
OrHasWhatEitherHas = (k a b : ℕ) → bit k (bit_or a b) ≡ (bit k a || bit k b)

abbrev pub XorHasWhatOneAloneHas : Type 0
XorHasWhatOneAloneHas = (k a b : ℕ) → bit k (bit_xor a b) ≡ ((bit k a && not (bit k b)) || (not (bit k a) && bit k b))

abbrev pub NotHasTheOthers : Type 0
NotHasTheOthers = (k a : ℕ) → k < width → a < 2 ^ width → bit k (2 ^ width - 1 - a) ≡ not (bit k a)

abbrev pub PowerHasOneBit : Type 0
PowerHasOneBit = (k j : ℕ) → bit k (2 ^ j) ≡ (k == j)

abbrev pub MaskHasTheLowest : Type 0
MaskHasTheLowest = (k n : ℕ) → bit k (2 ^ n - 1) ≡ nat_lt k n

abbrev pub OnesCountsTheVariables : Type 0
OnesCountsTheVariables = (a : ℕ) → a < 2 ^ width → count_ones a ≡ length (variables a)

abbrev pub ZeroHasNone : Type 0
ZeroHasNone = (a : ℕ) → a < 2 ^ width → (a == 0) ≡ every width (λ k. not (bit k a))

abbrev pub SameBitsSameWord : Type 0
SameBitsSameWord = (a b : ℕ) → a < 2 ^ width → b < 2 ^ width → ((k : ℕ) → k < width → bit k a ≡ bit k b) → a ≡ b

abbrev pub EqualWordsHaveLikeBits : Type 0
EqualWordsHaveLikeBits = (a b : ℕ) → a < 2 ^ width → b < 2 ^ width → (a == b) ≡ every width (λ k. alike (bit k a) (bit k b))
