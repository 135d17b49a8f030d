-- The problem line: the words p, cnf, n, m. Assumes nothing.
use Rattle.std.specs.Prelude.{ℕ, cond, List, [], ◌∷◌, length, ℤ, pos, negsuc, Some, None, Ok, Err, codes, Option, Result, nat_lt}
use Rattle.std.specs.Str.{bytes_eq}
use Rattle.text.specs.declared.faults.TextFault.{TextFault}
use Rattle.text.specs.declared.faults.TextFault.TheVariants.{TooLong, NotProblemLine, TooLarge}
use Rattle.text.specs.declared.problem.Expected.{Expected}
use Rattle.text.specs.declared.problem.Expected.TheVariants.{ProblemWord, FormatWord, Variables, Clauses}
use Rattle.text.specs.declared.problem.Progress.{Progress}
use Rattle.text.specs.declared.problem.Progress.TheVariants.{Expecting, Complete}
use Rattle.text.specs.declared.reader.Remaining.{Remaining}
use Rattle.limits.specs.Limits.{most_bytes, most_variables, most_clauses}
use Rattle.tokens.specs.Numbers.{number_word}
use Rattle.tokens.specs.Words.{Piece, word, comment, pieces}

-- a number without minus sign, at most `most`
abbrev pub within : ℕ → ℕ → Option ℤ → Result ℕ TextFault
within most place None = Err (NotProblemLine place)
within most place (Some (negsuc k)) = Err (NotProblemLine place)
within most place (Some (pos k)) = cond (nat_lt most k) (Err (TooLarge place)) (Ok k)

-- n variables, and m clauses still to come
abbrev pub remaining : ℕ → ℕ → Remaining
remaining n m = record { variables = n; clauses = m }

abbrev pub then_clauses : Result ℕ TextFault → Result Progress TextFault
then_clauses (Err f) = Err f
then_clauses (Ok n) = Ok (Expecting (Clauses n))

abbrev pub then_complete : ℕ → Result ℕ TextFault → Result Progress TextFault
then_complete n (Err f) = Err f
then_complete n (Ok m) = Ok (Complete (remaining n m))

-- what the word w at a place brings, of the four that are expected in turn; n may be at most `limit`
abbrev pub expect : ℕ → Expected → ℕ → List ℕ → Result Progress TextFault
expect limit ProblemWord place w = cond (bytes_eq w (codes "p")) (Ok (Expecting FormatWord)) (Err (NotProblemLine place))
expect limit FormatWord place w = cond (bytes_eq w (codes "cnf")) (Ok (Expecting Variables)) (Err (NotProblemLine place))
expect limit Variables place w = then_clauses (within limit place (number_word w))
expect limit (Clauses n) place w = then_complete n (within most_clauses place (number_word w))

-- the same of any piece: a comment is passed over
abbrev pub expect_piece : ℕ → Expected → Piece → Result Progress TextFault
expect_piece limit e (word p w) = expect limit e p w
expect_piece limit e (comment p c) = Ok (Expecting e)

abbrev pub go_on : Result Progress TextFault → (Expected → Result (ℕ × ℕ) TextFault) → Result (ℕ × ℕ) TextFault
go_on (Err f) rest = Err f
go_on (Ok (Expecting e)) rest = rest e
go_on (Ok (Complete r)) rest = Ok (r.variables, r.clauses)

-- n and m of a problem line of which the word e is expected next; `end` is the text's length
abbrev pub sizes : ℕ → ℕ → Expected → List Piece → Result (ℕ × ℕ) TextFault
sizes limit end e [] = Err (NotProblemLine end)
sizes limit end e (x ∷ ps) = go_on (expect_piece limit e x) (λ e'. sizes limit end e' ps)

-- what `head` answers
abbrev pub head_of : List ℕ → Result (ℕ × ℕ) TextFault
head_of text =
    cond (nat_lt most_bytes (length text)) (Err TooLong) (sizes most_variables (length text) ProblemWord (pieces text))
