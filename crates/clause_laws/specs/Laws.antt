-- What holds of clauses and books, said of all of them. Assumes nothing.
use Rattle.std.specs.Prelude.{◌≡◌, ℕ, ◌^◌, ◌<◌, ◌≤◌, Bool, true, false, not, ◌&&◌, ◌||◌, List, length, ℤ, pos, ◌==◌, nat_eq, unsigned_abs}
use Rattle.words.specs.Bits.{width, bit, listed, variables, in_word}
use Rattle.std.specs.List.{list_any, list_all}
use Rattle.clauses.specs.declared.value.Value.TheVariants.{Unset}
use Rattle.clauses.specs.Values.{Values, is_true, is_false, assigned, full, partly}
use Rattle.clauses.specs.Sets.{SetOf}
use Rattle.clauses.specs.Literals.{names, same_literal, value_of, among, met, tautology, set_size}
use Rattle.clauses.specs.Clauses.{Signs, holds, literals, size, empty, clean, within, meets, broken, same, included, clash_in, resolvent, critical, bar}
use Rattle.lines.specs.Lines.{Candidate, clauses_in, givens_in, apart, keeps_facts}
use Rattle.lines.specs.ReadingOff.{closed, breaks, read_off}

-- ---- valuations

-- Only a literal has a value: 0 has none, whatever is said of the variables, and
-- neither has a number that names none of 64 variables under an assignment of
-- them.
abbrev pub OnlyLiteralsHaveValues : Type 0
OnlyLiteralsHaveValues =
    ((m : Values) → value_of m (pos 0) ≡ Unset)
    × ((word : ℕ) (l : ℤ) → names width l ≡ false → value_of (full word) l ≡ Unset)

-- A partial valuation says of the variables of its set what the assignment says,
-- and nothing of the others, whatever the word has there.
abbrev pub APartialSaysItsSet : Type 0
APartialSaysItsSet =
    (set word v : ℕ)
    → (in_word v set ≡ true
    → value_of (partly set word) (pos v) ≡ value_of (full word) (pos v))
    × (in_word v set ≡ false → value_of (partly set word) (pos v) ≡ Unset)

-- A word has just the variables that are listed of it.
abbrev pub AWordHasWhatIsListed : Type 0
AWordHasWhatIsListed = (word v : ℕ) → in_word v word ≡ list_any (nat_eq v) (variables word)

-- ---- clauses in terms of their literals

-- A clause is the set of its literals, and each is listed once: so its length
-- is the size of the set.
abbrev pub AClauseIsItsLiterals : Type 0
AClauseIsItsLiterals = (c : Signs) → ((l : ℤ) → holds l c ≡ among l (literals c)) × (size c ≡ set_size (literals c))

-- It is met when some literal is true, broken when all are false, and
-- critical on a literal that it holds when this one is true and all others
-- are false.
abbrev pub ValuesJudgeByLiterals : Type 0
ValuesJudgeByLiterals =
    (m : Values) (c : Signs)
    → (meets m c ≡ met m (literals c))
    × (broken m c ≡ list_all (λ l. is_false (value_of m l)) (literals c))
    × ((l : ℤ) → critical m l c ≡ ((among l (literals c) && is_true (value_of m l)) && list_all (λ k. same_literal k l || is_false (value_of m k)) (literals c)))

-- It is empty when it has no literal, holds no variable both ways when it
-- isn't a tautology, and two clauses are the same when they hold the same.
abbrev pub TestsJudgeByLiterals : Type 0
TestsJudgeByLiterals =
    (c : Signs)
    → (empty c ≡ (size c == 0))
    × (clean c ≡ not (tautology (literals c)))
    × ((n : ℕ) → (within n c ≡ true → (l : ℤ) → holds l c ≡ true → unsigned_abs l ≤ n) × (((l : ℤ) → holds l c ≡ true → unsigned_abs l ≤ n) → within n c ≡ true))
    × ((d : Signs) → (same c d ≡ true → (l : ℤ) → holds l c ≡ holds l d) × (((l : ℤ) → holds l c ≡ holds l d) → same c d ≡ true))
    × ((d : Signs) → (included c d ≡ true → (l : ℤ) → holds l c ≡ true → holds l d ≡ true) × (((l : ℤ) → holds l c ≡ true → holds l d ≡ true) → included c d ≡ true))

-- The empty clause is met by nothing, and a tautology by every assignment of
-- its variables.
abbrev pub EdgesAreMetSo : Type 0
EdgesAreMetSo =
    (c : Signs)
    → ((m : Values) → empty c ≡ true → meets m c ≡ false)
    × ((a : List Bool) → within (length a) c ≡ true → clean c ≡ false → meets (assigned a) c ≡ true)

-- An assignment of all variables of a clause breaks it or meets it.
abbrev pub BrokenOrMet : Type 0
BrokenOrMet = (a : List Bool) (c : Signs) → within (length a) c ≡ true → broken (assigned a) c ≡ not (meets (assigned a) c)

abbrev pub JudgedAlike : Values → Values → Signs → Type 0
JudgedAlike m m' c = (meets m c ≡ meets m' c) × (broken m c ≡ broken m' c) × ((l : ℤ) → critical m l c ≡ critical m' l c)

-- Only its own variables count: valuations that agree on the variables 1 to n
-- judge a clause without higher ones alike. So do a word's n lowest bits, as
-- an assignment, and the word as an assignment of all 64 variables.
abbrev pub OnlyItsVariablesCount : Type 0
OnlyItsVariablesCount =
    (n : ℕ) (c : Signs) → within n c ≡ true
    → ((m m' : Values) → ((k : ℕ) → k < n → m k ≡ m' k) → JudgedAlike m m' c)
    × ((word : ℕ) → n ≤ width → JudgedAlike (full word) (assigned (listed n (λ k. bit k word))) c)

-- A clause given as signed numbers, none of them 0, and the clause of the same
-- set are met alike, hold as many literals, and are tautologies alike; and
-- an assignment of its variables meets a tautology.
abbrev pub AGivenClauseIsItsSet : Type 0
AGivenClauseIsItsSet =
    (n : ℕ) (xs : List ℤ) → list_all (names n) xs ≡ true
    → ((c : Signs) → SetOf xs c
    → ((m : Values) → meets m c ≡ met m xs) × (size c ≡ set_size xs) × (clean c ≡ not (tautology xs)) × (within n c ≡ true))
    × ((a : List Bool) → n ≤ length a → tautology xs ≡ true → met (assigned a) xs ≡ true)

-- ---- what follows from what

-- What meets both parents meets the resolvent.
abbrev pub ResolutionIsSound : Type 0
ResolutionIsSound =
    (v : ℕ) (c d : Signs) (m : Values) → clean c ≡ true → clean d ≡ true → clash_in v c d ≡ true
    → meets m c ≡ true → meets m d ≡ true → meets m (resolvent v c d) ≡ true

-- The parents' order doesn't matter.
abbrev pub ResolutionHasNoOrder : Type 0
ResolutionHasNoOrder = (v : ℕ) (c d : Signs) → (clash_in v c d ≡ clash_in v d c) × (resolvent v c d ≡ resolvent v d c)

-- What meets a clause meets each that holds at least its literals.
abbrev pub WideningIsSound : Type 0
WideningIsSound = (c d : Signs) (m : Values) → included c d ≡ true → meets m c ≡ true → meets m d ≡ true

-- What meets all given lines of a book that keeps the four facts meets every
-- line.
abbrev pub GivenMetThenAll : Type 0
GivenMetThenAll =
    (n : ℕ) (ls : List Candidate) (m : Values) → keeps_facts n ls ≡ true → list_all (meets m) (givens_in ls) ≡ true → list_all (meets m) (clauses_in ls) ≡ true

-- So where a line is empty, nothing meets all given lines.
abbrev pub EmptyLineRefutes : Type 0
EmptyLineRefutes =
    (n : ℕ) (ls : List Candidate) (m : Values) → keeps_facts n ls ≡ true → list_any empty (clauses_in ls) ≡ true → list_all (meets m) (givens_in ls) ≡ false

-- ---- how many

-- At most 3^n different clauses hold no variable both ways over n variables,
-- and one fewer without the empty one.
abbrev pub AtMostThreeToTheN : Type 0
AtMostThreeToTheN =
    (n : ℕ) (cs : List Signs) → list_all clean cs ≡ true → list_all (within n) cs ≡ true → apart cs ≡ true
    → (length cs ≤ 3 ^ n) × (list_any empty cs ≡ false → length cs < 3 ^ n)

-- ---- reading off

-- Where no clause is empty and every resolvent of two that clash in exactly
-- one variable is there, the assignment read off breaks none.
abbrev pub ReadingOffBreaksNone : Type 0
ReadingOffBreaksNone = (n : ℕ) (cs : List Signs) → list_any empty cs ≡ false → closed cs ≡ true → breaks (read_off n cs) cs ≡ false

-- ---- the bar

-- It holds just the literals of the variables 1 to n that are false, so an
-- assignment of them all breaks it, and it holds every clause over them that
-- is broken.
abbrev pub TheBarIsBroken : Type 0
TheBarIsBroken =
    (a : List Bool) → length a ≤ width
    → ((l : ℤ) → holds l (bar (length a) (assigned a)) ≡ is_false (value_of (assigned a) l))
    × (broken (assigned a) (bar (length a) (assigned a)) ≡ true)
    × (size (bar (length a) (assigned a)) ≡ length a)
    × ((c : Signs) → broken (assigned a) c ≡ true → included c (bar (length a) (assigned a)) ≡ true)
