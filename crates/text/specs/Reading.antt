-- What a clause text says: its clauses in order, and how it ends. Assumes nothing.
use Rattle.std.specs.Prelude.{ℕ, ◌-◌, cond, List, [], ◌∷◌, ◌++◌, length, ℤ, Some, None, Ok, Err, Option, Result, ◌==◌, nat_le, nat_lt, unsigned_abs}
use Rattle.text.specs.declared.faults.TextFault.{TextFault}
use Rattle.text.specs.declared.faults.TextFault.TheVariants.{TooLong, NotProblemLine, NotNumber, AboveVariables, EndsInsideClause, WordAfterClauses, ClausesMissing}
use Rattle.text.specs.declared.faults.BookFault.TheVariants.{TooManyLiterals}
use Rattle.text.specs.declared.faults.ReadFault.{ReadFault}
use Rattle.text.specs.declared.faults.ReadFault.TheVariants.{Text, Book}
use Rattle.text.specs.declared.problem.Expected.TheVariants.{ProblemWord}
use Rattle.text.specs.declared.problem.Progress.{Progress}
use Rattle.text.specs.declared.problem.Progress.TheVariants.{Expecting, Complete}
use Rattle.text.specs.declared.reader.State.{State}
use Rattle.text.specs.declared.reader.State.TheVariants.{BeforeProblem, BetweenClauses, InsideClause, Done}
use Rattle.limits.specs.Limits.{most_bytes, most_literals}
use Rattle.tokens.specs.Numbers.{number_word}
use Rattle.text.specs.Problem.{remaining, expect}
use Rattle.tokens.specs.Words.{Piece, word, comment, pieces}

-- A clause is given with its signed numbers, the place of its ending 0, and
-- what is read after it. A text ends well, or with a refusal.
pub data Reading : Type 0 where
  clause : List ℤ → ℕ → Reading → Reading
  well : Reading
  refused : ReadFault → Reading

-- the clauses, without their places
abbrev pub clauses_of : Reading → List (List ℤ)
clauses_of (clause ls p r) = ls ∷ clauses_of r
clauses_of well = []
clauses_of (refused f) = []

-- the refusal, if the text does not end well
abbrev pub fault_of : Reading → Option ReadFault
fault_of (clause ls p r) = fault_of r
fault_of well = None
fault_of (refused f) = Some f

-- what a word brings: a clause goes on, with its literals so far; it ends; or the word is refused
pub data Step : Type 0 where
  on : State → List ℤ → Step
  gives : List ℤ → ℕ → State → Step
  stops : ReadFault → Step

-- the state before the first of `left` clauses over n variables
abbrev pub between : ℕ → ℕ → State
between n left = cond (left == 0) Done (BetweenClauses (remaining n left))

abbrev pub after_problem : Result Progress TextFault → Step
after_problem (Err f) = stops (Text f)
after_problem (Ok (Expecting e)) = on (BeforeProblem e) []
after_problem (Ok (Complete r)) = on (between r.variables r.clauses) []

-- a word within the clauses, where the literals ls stand before it in its clause
abbrev pub clause_word : ℕ → ℕ → ℕ → List ℤ → ℕ → Option ℤ → Step
clause_word most n left ls p None = stops (Text (NotNumber p))
clause_word most n left ls p (Some x) =
    cond (unsigned_abs x == 0) (gives ls p (between n (left - 1)))
    (cond (nat_lt n (unsigned_abs x)) (stops (Text (AboveVariables p)))
    (cond (nat_le most (length ls)) (stops (Book (TooManyLiterals p)))
    (on (InsideClause (remaining n left)) (ls ++ x ∷ []))))

-- what the word w at the place p brings; a clause may have `most` literals
abbrev pub step : ℕ → ℕ → State → List ℤ → ℕ → List ℕ → Step
step most limit (BeforeProblem e) ls p w = after_problem (expect limit e p w)
step most limit (BetweenClauses left) ls p w = clause_word most left.variables left.clauses [] p (number_word w)
step most limit (InsideClause left) ls p w = clause_word most left.variables left.clauses ls p (number_word w)
step most limit Done ls p w = stops (Text (WordAfterClauses p))

-- the same of any piece: a comment is passed over
abbrev pub step_piece : ℕ → ℕ → State → List ℤ → Piece → Step
step_piece most limit s ls (word p w) = step most limit s ls p w
step_piece most limit s ls (comment p c) = on s ls

-- what the end of the text brings; `end` is its length
abbrev pub at_end : ℕ → State → Reading
at_end end (BeforeProblem e) = refused (Text (NotProblemLine end))
at_end end (BetweenClauses left) = refused (Text (ClausesMissing end))
at_end end (InsideClause left) = refused (Text (EndsInsideClause end))
at_end end Done = well

abbrev pub go_on : Step → (State → List ℤ → Reading) → Reading
go_on (on s ls) rest = rest s ls
go_on (gives ls p s) rest = clause ls p (rest s [])
go_on (stops f) rest = refused f

-- the words and comments that are left, read in a state
abbrev pub read : ℕ → ℕ → ℕ → State → List ℤ → List Piece → Reading
read most limit end s ls [] = at_end end s
read most limit end s ls (x ∷ ps) = go_on (step_piece most limit s ls x) (λ s' ls'. read most limit end s' ls' ps)

-- what a text says to a reader that takes up to `limit` variables
abbrev pub reading : ℕ → List ℕ → Reading
reading limit text =
    cond (nat_lt most_bytes (length text)) (refused (Text TooLong))
    (read most_literals limit (length text) (BeforeProblem ProblemWord) [] (pieces text))
