-- Literals, and clauses as customers give them: lists of signed numbers, read
-- as sets. Assumes nothing.
use Rattle.std.specs.Prelude.{ℕ, zero, suc, ◌+◌, Bool, true, false, not, List, [], ◌∷◌, ℤ, pos, negsuc, neg_ℤ, ◌==◌, unsigned_abs}
use Rattle.words.specs.Bits.{one_to}
use Rattle.clauses.specs.declared.value.Value.{Value}
use Rattle.clauses.specs.declared.value.Value.TheVariants.{Unset}
use Rattle.std.specs.List.{list_any}
use Rattle.clauses.specs.Values.{Values, is_true, contrary}

-- A literal is a variable with a sign: as v it is true where the variable is, as
-- -v where the variable is false. Here it names one of the variables 1 to n.
abbrev pub names : ℕ → ℤ → Bool
names n l = one_to n (unsigned_abs l)

abbrev pub same_literal : ℤ → ℤ → Bool
same_literal (pos i) (pos j) = i == j
same_literal (pos i) (negsuc j) = false
same_literal (negsuc i) (pos j) = false
same_literal (negsuc i) (negsuc j) = i == j

-- the lowest 32-bit number, whose negative is none
abbrev pub lowest_number : ℤ
lowest_number = negsuc 2147483647

-- the value of a literal under a valuation; 0 is no literal
abbrev pub value_of : Values → ℤ → Value
value_of m (pos zero) = Unset
value_of m (pos (suc k)) = m k
value_of m (negsuc k) = contrary (m k)

-- the literal is one of these
abbrev pub among : ℤ → List ℤ → Bool
among l xs = list_any (same_literal l) xs

-- a valuation, as an assignment, meets a clause when some literal is then true
abbrev pub met : Values → List ℤ → Bool
met m xs = list_any (λ l. is_true (value_of m l)) xs

-- it holds some v and -v
abbrev pub tautology : List ℤ → Bool
tautology xs = list_any (λ l. among (neg_ℤ l) xs) xs

abbrev pub once : Bool → ℕ
once true = 1
once false = 0

-- how many literals it has, each counted once
abbrev pub set_size : List ℤ → ℕ
set_size [] = 0
set_size (x ∷ xs) = once (not (among x xs)) + set_size xs
