-- What holds of the five steps, said of every book and assignment. Assumes
-- nothing.
use Rattle.std.specs.Prelude.{◌≡◌, ℕ, ◌+◌, ◌<◌, ◌≤◌, Bool, true, false, not, List, [], ◌∷◌, ◌++◌, length, sum, count_by, ◌==◌, All, MatchOption, slice_index_or, if◌then◌else◌}
use Rattle.std.specs.List.{list_all, list_any}
use Rattle.words.specs.Bits.{width, first}
use Rattle.clauses.specs.Values.{assigned}
use Rattle.clauses.specs.Clauses.{Signs, empty, clean, within, broken, clashes}
use Rattle.lines.specs.declared.line.Origin.{Origin}
use Rattle.lines.specs.declared.line.Origin.TheVariants.{Given, Resolved, Widened}
use Rattle.lines.specs.Lines.{Candidate, clauses_in, keeps_facts, line}
use Rattle.lines.specs.ReadingOff.{closed, breaks, read_off}
use Rattle.limits.specs.Limits.{lengths}
use Rattle.guides.specs.Rows.{count}
use Rattle.guides.specs.Ranks.{Rank, fewest_broken}
use Rattle.steps.specs.Rows.{broken_of_length, row, ranked}
use Rattle.steps.specs.Flips.{flipped, flips, NoneBetter, Best}
use Rattle.steps.specs.Writing.{learnt, barred, swept}
use Rattle.steps.specs.Moves.{writable}

-- ---- rows

-- One more clause, wherever it stands, adds one at its length if it is broken,
-- and else changes nothing.
abbrev pub OneMoreAddsOne : Type 0
OneMoreAddsOne =
    (a : List Bool) (c : Signs) (cs ds : List Signs) (k : ℕ) → k < lengths
    → count k (row (cs ++ (c ∷ ds)) a) ≡ count k (row (cs ++ ds) a) + (if broken_of_length (assigned a) k c then 1 else 0)

-- A row has 65 entries. No broken clause over at most 64 variables is longer,
-- so in all it counts just the broken ones.
abbrev pub ARowCountsTheBroken : Type 0
ARowCountsTheBroken =
    (cs : List Signs) (a : List Bool)
    → (length (row cs a) ≡ lengths)
    × (list_all (within width) cs ≡ true → sum (row cs a) ≡ count_by (broken (assigned a)) cs)

-- So under fewest broken an assignment ranks as many as it breaks.
abbrev pub FewestBrokenCountsTheBroken : Type 0
FewestBrokenCountsTheBroken =
    (cs : List Signs) (a : List Bool) → list_all (within width) cs ≡ true
    → fewest_broken (ranked cs a) ≡ count_by (broken (assigned a)) cs

-- ---- neighbours

-- A neighbour has as many variables, and differs in one alone.
abbrev pub ANeighbourDiffersInOne : Type 0
ANeighbourDiffersInOne =
    (v : ℕ) (a : List Bool)
    → (length (flipped v a) ≡ length a)
    × ((k : ℕ) → k < length a → slice_index_or (flipped v a) k true ≡ (if k + 1 == v then not (slice_index_or a k true) else slice_index_or a k true))

-- The flip is of a neighbour that is better than the assignment, of the lowest
-- rank, and among equals the lowest variable; and there is none just where no
-- neighbour is better.
abbrev pub TheFirstFlipIsTheBest : Type 0
TheFirstFlipIsTheBest = (rank : Rank) (cs : List Signs) (a : List Bool) → MatchOption (first (flips rank cs a)) (NoneBetter rank cs a) (Best rank cs a)

-- ---- lines to write

-- Written at the end of a book over n variables that keeps the four facts, a
-- line of a step leaves them kept: it is new, within n, holds no variable both
-- ways, and follows from the lines that it names.
abbrev pub WhatIsWrittenKeepsTheFacts : Type 0
WhatIsWrittenKeepsTheFacts =
    (ls : List Candidate) (a : List Bool) → keeps_facts (length a) ls ≡ true → length a ≤ width
    → All (λ l. keeps_facts (length a) (ls ++ (l ∷ [])) ≡ true) (writable (clauses_in ls) a)

-- What is learnt or barred is broken now.
abbrev pub LearntAndBarredAreBroken : Type 0
LearntAndBarredAreBroken =
    (cs : List Signs) (a : List Bool)
    → All (λ l. broken (assigned a) l.clause ≡ true) (learnt cs a ++ barred cs a)

-- The line is resolved from two lines, the older named first, that clash in just
-- the variable that it names.
abbrev pub FromTwoLines : List Signs → Origin → Type 0
FromTwoLines cs Given = ⊥
FromTwoLines cs (Widened i) = ⊥
FromTwoLines cs (Resolved v i j) =
    (i < j)
    × ((c d : Signs) → line i cs ≡ c ∷ [] → line j cs ≡ d ∷ [] → clashes c d ≡ v ∷ [])

-- What is swept is, also where a line holds a variable both ways.
abbrev pub SweptFromTwoLines : Type 0
SweptFromTwoLines = (cs : List Signs) → All (λ l. FromTwoLines cs l.origin) (swept cs)

-- ---- nothing to sweep

-- Where no line holds a variable both ways and none is to be swept, every
-- resolvent of two lines that clash in exactly one variable is in the book; so
-- where none is empty, the assignment read off breaks no line.
abbrev pub NothingToSweepIsClosed : Type 0
NothingToSweepIsClosed =
    (cs : List Signs) → list_all clean cs ≡ true → swept cs ≡ []
    → (closed cs ≡ true) × (list_any empty cs ≡ false → (n : ℕ) → breaks (read_off n cs) cs ≡ false)
