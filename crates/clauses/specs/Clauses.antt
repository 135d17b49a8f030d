-- Clauses as sets of literals: what meets, breaks and clashes with them, and
-- what is made of them. Assumes nothing.
use Rattle.std.specs.Prelude.{ℕ, zero, suc, Bool, true, false, cond, not, ◌&&◌, ◌||◌, List, [], ◌∷◌, length, ℤ, pos, negsuc, neg_ℤ, nat_lt}
use Rattle.words.specs.Bits.{width, alike, later, keep, listed}
use Rattle.clauses.specs.declared.value.Value.{Value}
use Rattle.std.specs.List.{list_any, list_all}
use Rattle.clauses.specs.Values.{Values, is_true, is_false}
use Rattle.clauses.specs.Literals.{value_of}

-- How a clause has one variable v: whether it holds v, whether it holds -v.
pub data Sign : Type 0 where
  sign : Bool → Bool → Sign

-- A clause is a set of literals: its sign for variable v stands at place
-- v - 1, and past the end it holds nothing.
abbrev pub Signs : Type 0
Signs = List Sign

-- it holds neither
abbrev pub blank : Sign
blank = sign false false

abbrev pub holds_plus : Sign → Bool
holds_plus (sign p q) = p

abbrev pub holds_minus : Sign → Bool
holds_minus (sign p q) = q

abbrev pub absent : Sign → Bool
absent (sign p q) = not p && not q

abbrev pub one_way : Sign → Bool
one_way (sign p q) = not (p && q)

-- ---- what it holds

abbrev pub sign_at : Signs → ℕ → Sign
sign_at [] k = blank
sign_at (s ∷ c) zero = s
sign_at (s ∷ c) (suc k) = sign_at c k

abbrev pub holds : ℤ → Signs → Bool
holds (pos zero) c = false
holds (pos (suc k)) c = holds_plus (sign_at c k)
holds (negsuc k) c = holds_minus (sign_at c k)

-- its literals by rising variable, where its first place is k
abbrev pub literals_from : ℕ → Signs → List ℤ
literals_from k [] = []
literals_from k (s ∷ c) = keep (holds_plus s) (pos (suc k)) (keep (holds_minus s) (negsuc k) (literals_from (suc k) c))

abbrev pub literals : Signs → List ℤ
literals c = literals_from 0 c

-- its length: how many literals it holds
abbrev pub size : Signs → ℕ
size c = length (literals c)

abbrev pub empty : Signs → Bool
empty c = list_all absent c

-- it holds no variable both ways
abbrev pub clean : Signs → Bool
clean c = list_all one_way c

-- no variable above n
abbrev pub within : ℕ → Signs → Bool
within n [] = true
within zero (s ∷ c) = absent s && within zero c
within (suc n) (s ∷ c) = within n c

-- ---- under a valuation

-- one of the literals is true
abbrev pub true_at : Sign → Value → Bool
true_at (sign p q) x = (p && is_true x) || (q && is_false x)

-- none of the literals is anything but false
abbrev pub false_at : Sign → Value → Bool
false_at (sign p q) x = (not p || is_false x) && (not q || is_true x)

-- some literal is true
abbrev pub meets : Values → Signs → Bool
meets m [] = false
meets m (s ∷ c) = true_at s (m 0) || meets (later m) c

-- all literals are false
abbrev pub broken : Values → Signs → Bool
broken m [] = true
broken m (s ∷ c) = false_at s (m 0) && broken (later m) c

-- ---- two clauses

abbrev pub same_sign : Sign → Sign → Bool
same_sign (sign p q) (sign r s) = alike p r && alike q s

-- they hold the same literals
abbrev pub same : Signs → Signs → Bool
same [] d = empty d
same (s ∷ c) [] = empty (s ∷ c)
same (s ∷ c) (t ∷ d) = same_sign s t && same c d

abbrev pub has : Signs → List Signs → Bool
has c cs = list_any (same c) cs

abbrev pub inside : Sign → Sign → Bool
inside (sign p q) (sign r s) = (not p || r) && (not q || s)

-- the second holds at least the literals of the first
abbrev pub included : Signs → Signs → Bool
included [] d = true
included (s ∷ c) [] = empty (s ∷ c)
included (s ∷ c) (t ∷ d) = inside s t && included c d

-- one holds the variable itself, the other its negative
abbrev pub opposed : Sign → Sign → Bool
opposed (sign p q) (sign r s) = (p && s) || (q && r)

-- one holds v and the other -v: they clash in v
abbrev pub clash_in : ℕ → Signs → Signs → Bool
clash_in v c d = (holds (pos v) c && holds (neg_ℤ (pos v)) d) || (holds (neg_ℤ (pos v)) c && holds (pos v) d)

-- the variables in which they clash, rising, where the first is v
abbrev pub clashes_from : ℕ → Signs → Signs → List ℕ
clashes_from v [] d = []
clashes_from v (s ∷ c) [] = []
clashes_from v (s ∷ c) (t ∷ d) = keep (opposed s t) v (clashes_from (suc v) c d)

abbrev pub clashes : Signs → Signs → List ℕ
clashes c d = clashes_from 1 c d

-- ---- what is made of them

abbrev pub either : Sign → Sign → Sign
either (sign p q) (sign r s) = sign (p || r) (q || s)

-- the literals of both
abbrev pub union : Signs → Signs → Signs
union [] d = d
union (s ∷ c) [] = s ∷ c
union (s ∷ c) (t ∷ d) = either s t ∷ union c d

-- the clause with another sign at place k
abbrev pub changed : ℕ → (Sign → Sign) → Signs → Signs
changed k f [] = []
changed zero f (s ∷ c) = f s ∷ c
changed (suc k) f (s ∷ c) = s ∷ changed k f c

abbrev pub no_plus : Sign → Sign
no_plus (sign p q) = sign false q

abbrev pub no_minus : Sign → Sign
no_minus (sign p q) = sign p false

-- all its literals but this one
abbrev pub without : ℤ → Signs → Signs
without (pos zero) c = c
without (pos (suc k)) c = changed k no_plus c
without (negsuc k) c = changed k no_minus c

-- The resolvent of two clauses that clash in v: just their remaining
-- literals, those of both but v and -v.
abbrev pub resolvent : ℕ → Signs → Signs → Signs
resolvent v c d = without (pos v) (without (neg_ℤ (pos v)) (union c d))

-- the literal is true, and the others of the clause are false
abbrev pub critical : Values → ℤ → Signs → Bool
critical m l c = (holds l c && is_true (value_of m l)) && broken m (without l c)

-- The bar of a valuation over n variables: the clause of all literals of the
-- variables 1 to n that are false.
unfoldable pub bar : ℕ → Values → Signs
bar n m = listed width (λ k. cond (nat_lt k n) (sign (is_false (m k)) (is_true (m k))) blank)
