-- The lines of a book: where each comes from, and the four facts that every
-- book keeps. A book is the list of a session's lines, numbered from 1,
-- oldest first. Definitions look into an origin here, where the four facts are
-- said line by line (`clause_laws`), where lines are written out (`pages`,
-- `protocol`) and in one law of the steps. Assumes nothing.
use Rattle.std.specs.Prelude.{ℕ, zero, suc, Bool, true, false, cond, not, ◌&&◌, List, [], ◌∷◌, ◌++◌, map, take, drop, Some, None, Option}
use Rattle.words.specs.Bits.{keep}
use Rattle.clauses.specs.declared.clause.Clause.{Clause}
use Rattle.lines.specs.declared.line.Origin.{Origin}
use Rattle.lines.specs.declared.line.Origin.TheVariants.{Given, Resolved, Widened}
use Rattle.lines.specs.declared.line.Line.{Line}
use Rattle.std.specs.List.{list_any, list_all, enumerate_from}
use Rattle.clauses.specs.Clauses.{Signs, clean, within, has, included, same, clash_in, resolvent}
use Rattle.clauses.specs.Words.{signs}

abbrev pub clause_of : Line → Signs
clause_of l = signs l.clause

-- A line as the definitions see it: where it comes from, and its clause. The
-- code keeps the clause in two words.
pub record Candidate : Type 0 where
  pub origin : Origin
  pub clause : Signs

abbrev pub candidate_of : Line → Candidate
candidate_of l = record { origin = l.origin; clause = clause_of l }

-- the lines of the code's book
abbrev pub candidates : List Line → List Candidate
candidates ls = map candidate_of ls

-- the clauses of the lines
abbrev pub clauses_in : List Candidate → List Signs
clauses_in ls = map (λ l. l.clause) ls

abbrev pub clauses : List Line → List Signs
clauses ls = clauses_in (candidates ls)

abbrev pub given : Origin → Bool
given Given = true
given (Resolved v i j) = false
given (Widened i) = false

-- the lines that the code makes
abbrev pub given_line : Clause → Line
given_line c = record { origin = Given; clause = c }

abbrev pub resolved_line : ℕ → ℕ → ℕ → Clause → Line
resolved_line v i j c = record { origin = Resolved v i j; clause = c }

abbrev pub widened_line : ℕ → Clause → Line
widened_line i c = record { origin = Widened i; clause = c }

-- resolved in v from lines i and j, as they are met
abbrev pub resolved : ℕ → ℕ → ℕ → Signs → Candidate
resolved v i j c = record { origin = Resolved v i j; clause = c }

-- widened from line i
abbrev pub widened : ℕ → Signs → Candidate
widened i c = record { origin = Widened i; clause = c }

-- a given line
abbrev pub given_clause : Signs → Candidate
given_clause c = record { origin = Given; clause = c }

-- the clauses of the given lines
abbrev pub givens_in : List Candidate → List Signs
givens_in [] = []
givens_in (l ∷ ls) = keep (given l.origin) l.clause (givens_in ls)

abbrev pub givens : List Line → List Signs
givens ls = givens_in (candidates ls)

-- the clause of line k, if there is such a line
abbrev pub line : ℕ → List Signs → List Signs
line zero cs = []
line (suc k) cs = take 1 (drop k cs)

-- the lines with their numbers, oldest first
abbrev pub numbered : List Signs → List (ℕ × Signs)
numbered cs = enumerate_from 1 cs

-- the number of the oldest line that is this clause, where the first is k
abbrev pub number_from : ℕ → Signs → List Signs → Option ℕ
number_from k c [] = None
number_from k c (d ∷ cs) = cond (same d c) (Some k) (number_from (suc k) c cs)

abbrev pub number_of : Signs → List Signs → Option ℕ
number_of c cs = number_from 1 c cs

-- A line follows from the older lines that it names. Resolved in v from i and
-- j: these clash in v, and it holds just their remaining literals. Widened
-- from i: it holds at least the literals of i.
abbrev pub follows : List Signs → Origin → Signs → Bool
follows older Given c = true
follows older (Resolved v i j) c = list_any (λ g. list_any (λ h. clash_in v g h && same c (resolvent v g h)) (line j older)) (line i older)
follows older (Widened i) c = list_any (λ g. included g c) (line i older)

-- each line follows from those before it
abbrev pub follow : List Signs → List Candidate → Bool
follow older [] = true
follow older (l ∷ ls) = follows older l.origin l.clause && follow (older ++ (l.clause ∷ [])) ls

-- no two are the same clause
abbrev pub apart : List Signs → Bool
apart [] = true
apart (c ∷ cs) = not (has c cs) && apart cs

-- The four facts that every book over n variables keeps: a line holds each
-- variable in one way at most; all lines are different clauses; variables are 1
-- to n; a line that is not given follows from the older ones that it names.
abbrev pub keeps_facts : ℕ → List Candidate → Bool
keeps_facts n ls = (list_all clean (clauses_in ls) && apart (clauses_in ls)) && (list_all (within n) (clauses_in ls) && follow [] ls)

abbrev pub keeps : ℕ → List Line → Bool
keeps n ls = keeps_facts n (candidates ls)
