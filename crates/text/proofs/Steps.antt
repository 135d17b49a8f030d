-- What holds of every step that a word can bring. Assumes nothing.
use Rattle.std.proofs.Common.{◌≡◌, ℕ, ◌-◌, ◌≤◌, eqb, ltb, leb, List, [], ◌∷◌, ◌++◌, length, ℤ, pos, negsuc, nat_abs, Some, None, Ok, Err, codes, Option, Result, refl}
use Rattle.std.specs.Str.{bytes_eq}
use Rattle.std.proofs.lemmas.Bool.{cond_both, ltb-false}
use Rattle.text.specs.declared.faults.TextFault.{TextFault}
use Rattle.text.specs.declared.faults.TextFault.TheVariants.{NotProblemLine, TooLarge, NotNumber, AboveVariables}
use Rattle.text.specs.declared.faults.BookFault.TheVariants.{TooManyLiterals}
use Rattle.text.specs.declared.faults.ReadFault.{ReadFault}
use Rattle.text.specs.declared.faults.ReadFault.TheVariants.{Text, Book}
use Rattle.text.specs.declared.problem.Expected.{Expected}
use Rattle.text.specs.declared.problem.Expected.TheVariants.{ProblemWord, FormatWord, Variables, Clauses}
use Rattle.text.specs.declared.reader.State.TheVariants.{BeforeProblem, InsideClause}
use Rattle.limits.specs.Limits.{most_clauses}
use Rattle.tokens.specs.Numbers.{number_word}
use Rattle.text.specs.Problem.{remaining, within, then_clauses, then_complete, expect}
use Rattle.text.specs.Reading.{Step, on, gives, stops, between, after_problem, clause_word}
use Rattle.text.specs.Refusals.{text_refusal, read_refusal, place_of}

-- a number of the problem line is at most `most`, or refused at its place
pub number_by : (P : Result ℕ TextFault → Type 0) (most p : ℕ) → ((k : ℕ) → k ≤ most → P (Ok k)) → ((f : TextFault) → place_of (text_refusal f) ≡ p → P (Err f)) → (x : Option ℤ) → P (within most p x)
number_by P most p ok err None = err (NotProblemLine p) refl
number_by P most p ok err (Some (negsuc k)) = err (NotProblemLine p) refl
number_by P most p ok err (Some (pos k)) = cond_both (ltb most k) _ _ P (λ _. err (TooLarge p) refl) (λ e. ok k (ltb-false most k e))

module _ (P : Step → Type 0) (p : ℕ) (stop : (f : ReadFault) → place_of (read_refusal f) ≡ p → P (stops f)) where
  -- a word of the problem line
  pub problem_by : (limit : ℕ) (w : List ℕ) → ((e : Expected) → P (on (BeforeProblem e) [])) → ((n m : ℕ) → m ≤ most_clauses → P (on (between n m) []))
      → (e : Expected) → P (after_problem (expect limit e p w))
  problem_by limit w next last ProblemWord =
      cond_both (bytes_eq w (codes "p")) _ _ (λ r. P (after_problem r)) (λ _. next FormatWord) (λ _. stop (Text (NotProblemLine p)) refl)
  problem_by limit w next last FormatWord =
      cond_both (bytes_eq w (codes "cnf")) _ _ (λ r. P (after_problem r)) (λ _. next Variables) (λ _. stop (Text (NotProblemLine p)) refl)
  problem_by limit w next last Variables =
      number_by (λ r. P (after_problem (then_clauses r))) limit p (λ n _. next (Clauses n)) (λ f e. stop (Text f) e) (number_word w)
  problem_by limit w next last (Clauses n) =
      number_by (λ r. P (after_problem (then_complete n r))) most_clauses p (last n) (λ f e. stop (Text f) e) (number_word w)

  -- a word within the clauses
  pub clause_by : (most n left : ℕ) (ls : List ℤ) → P (gives ls p (between n (left - 1))) → ((x : ℤ) → P (on (InsideClause (remaining n left)) (ls ++ x ∷ [])))
      → (o : Option ℤ) → P (clause_word most n left ls p o)
  clause_by most n left ls give more None = stop (Text (NotNumber p)) refl
  clause_by most n left ls give more (Some x) =
      cond_both (eqb (nat_abs x) 0) _ _ P (λ _. give)
      (λ _. cond_both (ltb n (nat_abs x)) _ _ P (λ _. stop (Text (AboveVariables p)) refl)
      (λ _. cond_both (leb most (length ls)) _ _ P (λ _. stop (Book (TooManyLiterals p)) refl) (λ _. more x)))
