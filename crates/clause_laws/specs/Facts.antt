-- The book's four facts, resolvents and clashes in terms of single lines and
-- literals: what the tests by recursion come to. Assumes nothing.
use Rattle.std.specs.Prelude.{◌≡◌, ℕ, ◌-◌, ◌<◌, ◌≤◌, Bool, true, not, ◌&&◌, ◌||◌, List, [], map, length, take, ℤ, pos, neg_ℤ, ◌==◌, ◌≢◌, nat_eq, slice_index_or, unsigned_abs}
use Rattle.std.specs.List.Sorted.{IsStrictlyIncreasing}
use Rattle.lines.specs.declared.line.Origin.{Origin}
use Rattle.lines.specs.declared.line.Origin.TheVariants.{Given, Resolved, Widened}
use Rattle.std.specs.List.{list_any}
use Rattle.clauses.specs.Clauses.{Signs, holds, literals, clean, clash_in, clashes, resolvent}
use Rattle.lines.specs.Lines.{Candidate, clauses_in, keeps_facts}

-- line k, from 1
abbrev pub line_at : List Signs → ℕ → Signs
line_at cs k = slice_index_or cs (k - 1) []

abbrev pub origins : List Candidate → List Origin
origins ls = map (λ (l : Candidate). l.origin) ls

-- there is a line k
abbrev pub Stands : List Signs → ℕ → Type 0
Stands cs k = (0 < k) × (k ≤ length cs)

-- the literal is one of v and -v
abbrev pub of_variable : ℕ → ℤ → Bool
of_variable v l = unsigned_abs l == v

-- A line follows from older ones: resolved, it names two of them that clash
-- in v, and holds just their other literals; widened, it names one and holds
-- at least its literals.
abbrev pub Follows : List Signs → Origin → Signs → Type 0
Follows older Given c = Unit {0}
Follows older (Resolved v i j) c =
    Stands older i × Stands older j × (clash_in v (line_at older i) (line_at older j) ≡ true)
    × ((l : ℤ) → holds l c ≡ ((holds l (line_at older i) || holds l (line_at older j)) && not (of_variable v l)))
Follows older (Widened i) c = Stands older i × ((l : ℤ) → holds l (line_at older i) ≡ true → holds l c ≡ true)

-- The four facts of a book over n variables.
pub record FourFacts (n : ℕ) (ls : List Candidate) : Type 0 where
  -- no line holds a variable both ways
  pub one_way : (k v : ℕ) → Stands (clauses_in ls) k → holds (pos v) (line_at (clauses_in ls) k) ≡ true → holds (neg_ℤ (pos v)) (line_at (clauses_in ls) k) ≢ true
  -- no two lines are the same clause
  pub different : (i j : ℕ) → Stands (clauses_in ls) i → Stands (clauses_in ls) j → i < j
      → ((l : ℤ) → holds l (line_at (clauses_in ls) i) ≡ holds l (line_at (clauses_in ls) j)) → ⊥
  -- no variable is above n
  pub within : (k : ℕ) → Stands (clauses_in ls) k → (l : ℤ) → holds l (line_at (clauses_in ls) k) ≡ true → unsigned_abs l ≤ n
  -- each resolved or widened line follows from the older lines that it names
  pub following : (k : ℕ) → Stands (clauses_in ls) k → Follows (take (k - 1) (clauses_in ls)) (slice_index_or (origins ls) (k - 1) Given) (line_at (clauses_in ls) k)

abbrev pub KeepingIsTheFourFacts : Type 0
KeepingIsTheFourFacts = (n : ℕ) (ls : List Candidate) → (keeps_facts n ls ≡ true → FourFacts n ls) × (FourFacts n ls → keeps_facts n ls ≡ true)

-- The resolvent in v holds just the literals of both but v and -v.
abbrev pub AResolventHoldsTheRest : Type 0
AResolventHoldsTheRest = (v : ℕ) (c d : Signs) (l : ℤ) → holds l (resolvent v c d) ≡ ((holds l c || holds l d) && not (of_variable v l))

-- The clashes of two clauses are just the variables in which they clash, each
-- once, rising; and the literals of a clause that holds no variable both ways
-- are told by rising variable.
abbrev pub ToldInRisingOrder : Type 0
ToldInRisingOrder =
    ((c d : Signs) → ((v : ℕ) → list_any (nat_eq v) (clashes c d) ≡ clash_in v c d) × IsStrictlyIncreasing (clashes c d))
    × ((c : Signs) → clean c ≡ true → IsStrictlyIncreasing (map unsigned_abs (literals c)))
