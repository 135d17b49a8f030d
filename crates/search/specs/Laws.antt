-- What the steps give, in terms of the book. Assumes nothing.
use Rattle.std.specs.Prelude.{◌≡◌, ℕ, ◌<◌, ◌^◌, Bool, true, false, List, [], ◌∷◌, ◌++◌}
use Rattle.std.specs.List.{list_any, list_all}
use Rattle.clauses.specs.Values.{Values, assigned, truths}
use Rattle.clauses.specs.Clauses.{Signs, empty, clean, broken, meets}
use Rattle.lines.specs.declared.line.Line.{Line}
use Rattle.lines.specs.Lines.{clause_of, clauses, givens, keeps}
use Rattle.lines.specs.ReadingOff.{closed, breaks}
use Rattle.guides.specs.Ranks.{Rank}
use Rattle.steps.specs.Flips.{Best}
use Rattle.search.specs.declared.looking.Seen.{Seen}
use Rattle.search.specs.declared.looking.Seen.TheVariants.{Refuted, Met, Undecided}
use Rattle.search.specs.declared.due.Step.{Step}
use Rattle.search.specs.declared.due.Step.TheVariants.{Flip, Write, Accept}

-- Written at the end of a book over n variables that keeps the four facts, the
-- line leaves them kept: it is new, within n, holds no variable both ways, and
-- follows from the lines that it names.
abbrev pub KeepsTheFacts : ℕ → List Line → Line → Type 0
KeepsTheFacts n ls l = keeps n ls ≡ true → keeps n (ls ++ (l ∷ [])) ≡ true

-- all its literals are false now
abbrev pub IsBroken : List Bool → Line → Type 0
IsBroken a l = broken (assigned a) (clause_of l) ≡ true

-- If no line holds a variable both ways, every resolvent of two that clash in
-- exactly one variable is in the book.
abbrev pub Closed : List Signs → Type 0
Closed cs = list_all clean cs ≡ true → closed cs ≡ true

-- What a step does for the run. A flip goes to the best neighbour, whose rank
-- is lower than that of the assignment. A line keeps the four facts. An
-- assignment is read off only where the book, if no line holds a variable both
-- ways, is closed, so that it breaks no line unless one is empty; and it has no
-- bit above the n lowest.
abbrev pub Helps : Rank → ℕ → List Line → List Bool → Step → Type 0
Helps rank n ls a (Flip v) = Best rank (clauses ls) a v
Helps rank n ls a (Write l) = KeepsTheFacts n ls l
Helps rank n ls a (Accept b) =
    (list_all clean (clauses ls) ≡ true → (closed (clauses ls) ≡ true) × (list_any empty (clauses ls) ≡ false → breaks (truths n b.word) (clauses ls) ≡ false))
    × (b.word < 2 ^ n)

-- What is seen, said of the lines. Refuted: nothing meets all given lines, if
-- the book keeps the four facts. Met: the assignment meets every line. Else no
-- line is empty, and some line is broken.
abbrev pub Means : ℕ → List Line → List Bool → Seen → Type 0
Means n ls a Refuted = (m : Values) → keeps n ls ≡ true → list_all (meets m) (givens ls) ≡ false
Means n ls a Met = list_all (meets (assigned a)) (clauses ls) ≡ true
Means n ls a Undecided = (list_any empty (clauses ls) ≡ false) × (breaks a (clauses ls) ≡ true)
