-- What a valuation says of the variables. Assumes nothing.
use Rattle.std.specs.Prelude.{ℕ, zero, suc, Bool, true, false, cond, ◌&&◌, List, [], ◌∷◌, nat_lt}
use Rattle.words.specs.Bits.{width, bit, listed}
use Rattle.clauses.specs.declared.value.Value.{Value}
use Rattle.clauses.specs.declared.value.Value.TheVariants.{True, False, Unset}

-- A valuation means for each variable true, false or unset. Variable v stands
-- at place v - 1.
abbrev pub Values : Type 0
Values = ℕ → Value

abbrev pub is_true : Value → Bool
is_true True = true
is_true False = false
is_true Unset = false

abbrev pub is_false : Value → Bool
is_false True = false
is_false False = true
is_false Unset = false

-- the value of -v where v has this one
abbrev pub contrary : Value → Value
contrary True = False
contrary False = True
contrary Unset = Unset

abbrev pub valued : Bool → Value
valued true = True
valued false = False

-- An assignment makes the variables 1, 2, .. true or false, as many as it has
-- truth values; the variables after them are unset.
abbrev pub assigned : List Bool → Values
assigned [] k = Unset
assigned (b ∷ a) zero = valued b
assigned (b ∷ a) (suc k) = assigned a k

-- The two valuations of the code: each variable as its bit in a word; and the
-- same only for the variables whose bits are set in another.
abbrev pub full : ℕ → Values
full word k = cond (nat_lt k width) (valued (bit k word)) Unset

abbrev pub partly : ℕ → ℕ → Values
partly set word k = cond (nat_lt k width && bit k set) (valued (bit k word)) Unset

-- what a word says of the variables 1 to n, as an assignment of these
unfoldable pub truths : ℕ → ℕ → List Bool
truths n word = listed n (λ k. bit k word)
