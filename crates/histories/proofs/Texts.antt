-- The clauses of a text have only variables up to the reader's limit, and a
-- text itself is never refused for want of a place. Assumes nothing.
use Rattle.std.proofs.Common.{◌≡◌, ℕ, ◌-◌, ◌≤◌, true, eqb, ltb, leb, List, [], ◌∷◌, length, ℤ, nat_abs, Some, None, codes, Option, le_trans, refl, ◌∙◌, arith}
use Rattle.std.specs.Str.{bytes_eq}
use Rattle.std.specs.List.{list_all}
use Rattle.std.proofs.lemmas.Bool.{cond_both, and_from, ltb-false, eqb-false, lt-ltb, le-leb}
use Rattle.std.proofs.lemmas.List.Folds.{list_all-append}
use Rattle.text.specs.declared.faults.TextFault.{TextFault}
use Rattle.text.specs.declared.faults.TextFault.TheVariants.{TooLong, NotProblemLine, TooLarge, NotNumber, AboveVariables, EndsInsideClause, WordAfterClauses, ClausesMissing}
use Rattle.text.specs.Refusals.{text_refusal, read_refusal, number_of}
use Rattle.text.specs.declared.problem.Expected.TheVariants.{ProblemWord, FormatWord, Variables, Clauses}
use Rattle.text.specs.declared.reader.State.{State}
use Rattle.text.specs.declared.reader.State.TheVariants.{BeforeProblem, BetweenClauses, InsideClause, Done}
use Rattle.limits.specs.Limits.{most_bytes, most_clauses, most_literals}
use Rattle.tokens.specs.Numbers.{number_word}
use Rattle.tokens.specs.Words.{Piece, word, comment, pieces}
use Rattle.text.specs.Problem.{remaining, then_clauses, then_complete}
use Rattle.text.specs.Reading.{Reading, Step, on, gives, stops, between, after_problem, clause_word, step, go_on, read, reading}
use Rattle.text.proofs.Steps.{number_by}
use Rattle.clauses.specs.Literals.{names}
use Rattle.histories.specs.Readings.{Named, Proper}

text_not_eight : (f : TextFault) → number_of (text_refusal f) ≡ 8 → ⊥
text_not_eight TooLong e = omega arith
text_not_eight (NotProblemLine p) e = omega arith
text_not_eight (TooLarge p) e = omega arith
text_not_eight (NotNumber p) e = omega arith
text_not_eight (AboveVariables p) e = omega arith
text_not_eight (EndsInsideClause p) e = omega arith
text_not_eight (WordAfterClauses p) e = omega arith
text_not_eight (ClausesMissing p) e = omega arith

-- what is known in a state, with the literals so far
abbrev Holds : ℕ → State → List ℤ → Type 0
Holds limit (BeforeProblem ProblemWord) ls = Unit {0}
Holds limit (BeforeProblem FormatWord) ls = Unit {0}
Holds limit (BeforeProblem Variables) ls = Unit {0}
Holds limit (BeforeProblem (Clauses n)) ls = n ≤ limit
Holds limit (BetweenClauses left) ls = left.variables ≤ limit
Holds limit (InsideClause left) ls = (left.variables ≤ limit) × Named limit ls
Holds limit Done ls = Unit {0}

abbrev Brings : ℕ → Step → Type 0
Brings limit (on s ls) = Holds limit s ls
Brings limit (gives ls p s) = Named limit ls × Holds limit s []
Brings limit (stops f) = number_of (read_refusal f) ≡ 8 → ⊥

between_holds : (limit n left : ℕ) → n ≤ limit → Holds limit (between n left) []
between_holds limit n left h = cond_both (eqb left 0) Done (BetweenClauses (remaining n left)) (λ s. Holds limit s []) (λ _. tt) (λ _. h)

name_here : (limit n : ℕ) (x : ℤ) → n ≤ limit → (nat_abs x ≡ 0 → ⊥) → nat_abs x ≤ n → names limit x ≡ true
name_here limit n x h some few =
    and_from (ltb 0 (nat_abs x)) (leb (nat_abs x) limit) (lt-ltb 0 (nat_abs x) (omega (arith, some))) (le-leb (nat_abs x) limit (le_trans few h))

clause_brings : (most limit n left : ℕ) (ls : List ℤ) (p : ℕ) → n ≤ limit → Named limit ls → (o : Option ℤ) → Brings limit (clause_word most n left ls p o)
clause_brings most limit n left ls p h named None = text_not_eight (NotNumber p)
clause_brings most limit n left ls p h named (Some x) =
    cond_both (eqb (nat_abs x) 0) _ _ (Brings limit) (λ _. (named, between_holds limit n (left - 1) h))
    (λ some. cond_both (ltb n (nat_abs x)) _ _ (Brings limit) (λ _. text_not_eight (AboveVariables p))
    (λ few. cond_both (leb most (length ls)) _ _ (Brings limit) (λ _ e. omega arith)
    (λ _. (
      h,
      list_all-append (names limit) ls (x ∷ [])
          ∙ and_from (list_all (names limit) ls) (list_all (names limit) (x ∷ [])) named
          (and_from (names limit x) true (name_here limit n x h (eqb-false (nat_abs x) 0 some) (ltb-false n (nat_abs x) few)) refl),
    ))))

step_brings : (most limit : ℕ) (s : State) (ls : List ℤ) (p : ℕ) (w : List ℕ) → Holds limit s ls → Brings limit (step most limit s ls p w)
step_brings most limit (BeforeProblem ProblemWord) ls p w h = cond_both (bytes_eq w (codes "p")) _ _ (λ r. Brings limit (after_problem r)) (λ _. tt) (λ _. text_not_eight (NotProblemLine p))
step_brings most limit (BeforeProblem FormatWord) ls p w h = cond_both (bytes_eq w (codes "cnf")) _ _ (λ r. Brings limit (after_problem r)) (λ _. tt) (λ _. text_not_eight (NotProblemLine p))
step_brings most limit (BeforeProblem Variables) ls p w h =
    number_by (λ r. Brings limit (after_problem (then_clauses r))) limit p (λ n few. few) (λ f e. text_not_eight f) (number_word w)
step_brings most limit (BeforeProblem (Clauses n)) ls p w h =
    number_by (λ r. Brings limit (after_problem (then_complete n r))) most_clauses p (λ m few. between_holds limit n m h) (λ f e. text_not_eight f) (number_word w)
step_brings most limit (BetweenClauses left) ls p w h = clause_brings most limit left.variables left.clauses [] p h refl (number_word w)
step_brings most limit (InsideClause left) ls p w h = clause_brings most limit left.variables left.clauses ls p h.0 h.1 (number_word w)
step_brings most limit Done ls p w h = text_not_eight (WordAfterClauses p)

go_on_proper : (limit : ℕ) (t : Step) (rest : State → List ℤ → Reading) → Brings limit t → ((s : State) (ls : List ℤ) → Holds limit s ls → Proper limit (rest s ls))
    → Proper limit (go_on t rest)
go_on_proper limit (on s ls) rest h proper = proper s ls h
go_on_proper limit (gives ls p s) rest h proper = (h.0, proper s [] h.1)
go_on_proper limit (stops f) rest h proper = h

read_proper : (most limit end : ℕ) (s : State) (ls : List ℤ) (ps : List Piece) → Holds limit s ls → Proper limit (read most limit end s ls ps)
read_proper most limit end (BeforeProblem e) ls [] h = text_not_eight (NotProblemLine end)
read_proper most limit end (BetweenClauses left) ls [] h = text_not_eight (ClausesMissing end)
read_proper most limit end (InsideClause left) ls [] h = text_not_eight (EndsInsideClause end)
read_proper most limit end Done ls [] h = tt
read_proper most limit end s ls (comment p c ∷ ps) h = read_proper most limit end s ls ps h
read_proper most limit end s ls (word p w ∷ ps) h =
    go_on_proper limit (step most limit s ls p w) (λ s' ls'. read most limit end s' ls' ps) (step_brings most limit s ls p w h)
    (λ s' ls' h'. read_proper most limit end s' ls' ps h')

pub reading_proper : (limit : ℕ) (text : List ℕ) → Proper limit (reading limit text)
reading_proper limit text =
    cond_both (ltb most_bytes (length text)) _ _ (Proper limit) (λ _. text_not_eight TooLong) (λ _. read_proper most_literals limit (length text) _ [] (pieces text) tt)
