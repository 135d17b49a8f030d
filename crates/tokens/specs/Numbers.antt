-- Number words: 0, or an optional minus sign and one to five digits, the first not 0. Assumes nothing.
use Rattle.std.specs.Prelude.{ℕ, ◌+◌, ◌-◌, ◌*◌, Bool, true, cond, not, ◌&&◌, List, [], ◌∷◌, length, drop, ℤ, pos, neg_ℤ, Some, None, Option, ◌==◌, nat_le, slice_index}

abbrev pub is_digit : ℕ → Bool
is_digit b = nat_le 48 b && nat_le b 57

abbrev pub all_digits : List ℕ → Bool
all_digits [] = true
all_digits (b ∷ bs) = is_digit b && all_digits bs

-- the number that digits write, read after the number n
abbrev pub value_after : ℕ → List ℕ → ℕ
value_after n [] = n
value_after n (b ∷ bs) = value_after (n * 10 + (b - 48)) bs

-- one to five bytes, the first not 0
abbrev pub is_sized : List ℕ → Bool
is_sized w = nat_le 1 (length w) && (nat_le (length w) 5 && not (slice_index w 0 == 48))

-- one to five digits, the first not 0
abbrev pub is_plain : List ℕ → Bool
is_plain w = is_sized w && all_digits w

abbrev pub plain_value : List ℕ → Option ℕ
plain_value w = cond (is_plain w) (Some (value_after 0 w)) None

abbrev pub positive : Option ℕ → Option ℤ
positive None = None
positive (Some n) = Some (pos n)

abbrev pub negative : Option ℕ → Option ℤ
negative None = None
negative (Some n) = Some (neg_ℤ (pos n))

abbrev pub is_zero : List ℕ → Bool
is_zero w = length w == 1 && slice_index w 0 == 48

-- the number that a number word writes; `None` for any other word
abbrev pub number_word : List ℕ → Option ℤ
number_word w =
    cond (is_zero w) (Some (pos 0))
    (cond (slice_index w 0 == 45) (negative (plain_value (drop 1 w))) (positive (plain_value w)))
