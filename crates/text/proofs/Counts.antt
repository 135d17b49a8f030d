-- No reading has more clauses than a problem line may announce. Assumes nothing.
use Rattle.std.proofs.Common.{◌≡◌, ℕ, suc, ◌-◌, ◌≤◌, eqb, ltb, List, [], ◌∷◌, length, ℤ, arith}
use Rattle.std.proofs.lemmas.Bool.{cond_both, eqb-false}
use Rattle.text.specs.declared.reader.State.{State}
use Rattle.text.specs.declared.reader.State.TheVariants.{BeforeProblem, BetweenClauses, InsideClause, Done}
use Rattle.limits.specs.Limits.{most_bytes, most_clauses, most_literals}
use Rattle.tokens.specs.Numbers.{number_word}
use Rattle.text.specs.Problem.{remaining}
use Rattle.text.specs.Reading.{Reading, clauses_of, Step, on, gives, stops, between, step, go_on, read, reading}
use Rattle.tokens.specs.Words.{Piece, word, comment, pieces}
use Rattle.text.proofs.Steps.{problem_by, clause_by}

-- how many clauses may come in a state; where one is being read, at least that one
abbrev to_come : State → ℕ
to_come (BeforeProblem e) = most_clauses
to_come (BetweenClauses left) = suc (left.clauses - 1)
to_come (InsideClause left) = suc (left.clauses - 1)
to_come Done = 0

-- a step leaves no more clauses than k to come, the one that it gives among them
abbrev Within : ℕ → Step → Type 0
Within k (on s ls) = to_come s ≤ k
Within k (gives ls p s) = suc (to_come s) ≤ k
Within k (stops f) = Unit {0}

between-within : (n left : ℕ) → to_come (between n left) ≤ left
between-within n left =
    cond_both (eqb left 0) Done (BetweenClauses (remaining n left)) (λ s. to_come s ≤ left) (λ _. omega arith)
    (λ e. let some : left ≡ 0 → ⊥ = eqb-false left 0 e in omega arith)

step-within : (most limit : ℕ) (s : State) (ls : List ℤ) (p : ℕ) (w : List ℕ) → Within (to_come s) (step most limit s ls p w)
step-within most limit (BeforeProblem e) ls p w =
    problem_by (Within most_clauses) p (λ _ _. tt) limit w (λ _. omega arith) (λ n m h. omega (arith, between-within n m)) e
step-within most limit (BetweenClauses left) ls p w =
    clause_by (Within (suc (left.clauses - 1))) p (λ _ _. tt) most left.variables left.clauses [] (omega (arith, between-within left.variables (left.clauses - 1))) (λ _. omega arith) (number_word w)
step-within most limit (InsideClause left) ls p w =
    clause_by (Within (suc (left.clauses - 1))) p (λ _ _. tt) most left.variables left.clauses ls (omega (arith, between-within left.variables (left.clauses - 1))) (λ _. omega arith) (number_word w)
step-within most limit Done ls p w = tt

go_on_few : (k : ℕ) (t : Step) (rest : State → List ℤ → Reading) → Within k t → ((s : State) (ls : List ℤ) → length (clauses_of (rest s ls)) ≤ to_come s) → length (clauses_of (go_on t rest)) ≤ k
go_on_few k (on s ls) rest h few = omega (arith, few s ls)
go_on_few k (gives ls p s) rest h few = omega (arith, few s [])
go_on_few k (stops f) rest h few = omega arith

read_few : (most limit end : ℕ) (s : State) (ls : List ℤ) (ps : List Piece) → length (clauses_of (read most limit end s ls ps)) ≤ to_come s
read_few most limit end (BeforeProblem e) ls [] = omega arith
read_few most limit end (BetweenClauses left) ls [] = omega arith
read_few most limit end (InsideClause left) ls [] = omega arith
read_few most limit end Done ls [] = omega arith
read_few most limit end s ls (comment p c ∷ ps) = read_few most limit end s ls ps
read_few most limit end s ls (word p w ∷ ps) =
    go_on_few (to_come s) (step most limit s ls p w) (λ s' ls'. read most limit end s' ls' ps) (step-within most limit s ls p w) (λ s' ls'. read_few most limit end s' ls' ps)

pub few_clauses : (limit : ℕ) (text : List ℕ) → length (clauses_of (reading limit text)) ≤ most_clauses
few_clauses limit text =
    cond_both (ltb most_bytes (length text)) _ _ (λ r. length (clauses_of r) ≤ most_clauses) (λ _. omega arith) (λ _. read_few most_literals limit (length text) _ [] (pieces text))
