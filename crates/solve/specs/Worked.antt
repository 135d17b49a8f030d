-- The program's worked examples, with all others. Assumes nothing.
use Rattle.std.specs.Prelude.{◌≡◌, [], ◌∷◌, codes, Ok, Err}
use Rattle.text_laws.specs.Examples.{lined}
use Rattle.histories.specs.Worked.{Worked}
use Rattle.pages.specs.Reports.{undecided}
use Rattle.session.specs.Worked.{WorkedPages}
use Rattle.text.specs.declared.faults.Refuser.TheVariants.{Session}
use Rattle.solve.specs.declared.fault.Fault.TheVariants.{TooMuchInput}
use Rattle.solve.specs.Answers.{fault_refusal, printed, output}

-- a last line that is empty: the one before it ends with LF
pub record AllWorked : Type 0 where
  pub others : Worked
  pub pages : WorkedPages
  pub satisfiable :
      output (lined (codes "p cnf 2 2" ∷ codes "1 2 0" ∷ codes "-1 0" ∷ []))
      ≡ lined (codes "s SATISFIABLE" ∷ codes "v -1 2 0" ∷ [] ∷ [])
  pub no_clauses :
      output (codes "p cnf 1 0") ≡ lined (codes "s SATISFIABLE" ∷ codes "v -1 0" ∷ [] ∷ [])
  pub unsatisfiable : output (codes "p cnf 1 1 0") ≡ lined (codes "s UNSATISFIABLE" ∷ [] ∷ [])
  pub unknown : printed (Ok undecided) ≡ lined (codes "s UNKNOWN" ∷ [] ∷ [])
  pub too_much_input :
      printed (Err TooMuchInput) ≡ lined (codes "c refused 9 at 0" ∷ [] ∷ [])
  pub too_much_input_by : (fault_refusal TooMuchInput).refuser ≡ Session
  pub above_variables :
      output (lined (codes "p cnf 2 1" ∷ codes "1 3 0" ∷ []))
      ≡ lined (codes "c refused 13 at 12" ∷ [] ∷ [])
  pub word_after :
      output (lined (codes "p cnf 2 2" ∷ codes "1 0" ∷ codes "2 0 -1" ∷ []))
      ≡ lined (codes "c refused 15 at 18" ∷ [] ∷ [])
  pub no_variables : output (codes "p cnf 0 1 1") ≡ lined (codes "c refused 2 at 0" ∷ [] ∷ [])
