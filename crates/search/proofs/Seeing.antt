-- What is seen before a step, said of the lines. Assumes nothing.
use Rattle.std.proofs.Common.{◌≡◌, ℕ, true, false, List, sym, subst}
use Rattle.std.specs.List.{list_any, list_all}
use Rattle.clauses.specs.Values.{Values, assigned, truths}
use Rattle.clauses.specs.Clauses.{empty, within, meets}
use Rattle.clause_laws.proofs.Assignments.{all_met}
use Rattle.clause_laws.proofs.Books.{empty_refutes}
use Rattle.lines.specs.declared.line.Line.{Line}
use Rattle.lines.specs.Lines.{candidates, clauses, givens, keeps}
use Rattle.lines.specs.ReadingOff.{breaks}
use Rattle.weighing.specs.declared.book.Book.{Book}
use Rattle.weighing.specs.Books.{standing}
use Rattle.clauses.proofs.Listed.{length_truths}

-- an empty line refutes a book that keeps the four facts
pub refuted : (n : ℕ) (ls : List Line) → list_any empty (clauses ls) ≡ true → (m : Values) → keeps n ls ≡ true → list_all (meets m) (givens ls) ≡ false
refuted n ls e m k = empty_refutes n (candidates ls) m k e

-- where no line is broken the assignment meets all
pub met : (book : Book) (word : ℕ) → breaks (truths book.n word) (standing book) ≡ false → list_all (meets (assigned (truths book.n word))) (standing book) ≡ true
met book word h =
    all_met (truths book.n word) (standing book) (subst (λ n. list_all (within n) (standing book) ≡ true) (sym (length_truths book.n word)) book.inside) h
