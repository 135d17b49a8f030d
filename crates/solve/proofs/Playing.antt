-- The calls, one after another. Assumes nothing.
use Rattle.std.proofs.Common.{◌≡◌, ℕ, ◌≤◌, false, eqb, ltb, List, length, Ok, Err, refl, ap, ◌∙◌}
use Rattle.limits.specs.Limits.{program_bytes, program_places, program_steps}
use Rattle.std.proofs.lemmas.Bool.{cond-false, le-ltb}
use Rattle.text.specs.declared.faults.TextFault.TheVariants.{TooLong, NotProblemLine, TooLarge, NotNumber, AboveVariables, EndsInsideClause, WordAfterClauses, ClausesMissing}
use Rattle.text.specs.declared.faults.BookFault.TheVariants.{TooManyLiterals, NoFreePlace}
use Rattle.text.specs.Refusals as text
use Rattle.text.specs.Problem.{head_of}
use Rattle.guides.specs.Ranks.{longest_first}
use Rattle.answers.specs.declared.load.LoadFault.{LoadFault}
use Rattle.answers.specs.declared.load.LoadFault.TheVariants as load
use Rattle.answers.specs.declared.run.Ran.{Ran}
use Rattle.answers.specs.Refusals.{load_refusal}
use Rattle.histories.specs.States.{State, session_limits, unopened}
use Rattle.histories.specs.Calls.{opens, loads, runs, opened, loaded, ran, does}
use Rattle.solve.specs.declared.fault.Fault.TheVariants.{TooMuchInput}
use Rattle.pages.specs.Reports.{told_of}
use Rattle.solve.specs.Answers.{unless_refused, called, found, headed, solved}

-- no refusal of a load has the number 0
pub load_some : (f : LoadFault) → eqb (text.number_of (load_refusal f)) 0 ≡ false
load_some load.NotOpen = refl
load_some (load.Text TooLong) = refl
load_some (load.Text (NotProblemLine p)) = refl
load_some (load.Text (TooLarge p)) = refl
load_some (load.Text (NotNumber p)) = refl
load_some (load.Text (AboveVariables p)) = refl
load_some (load.Text (EndsInsideClause p)) = refl
load_some (load.Text (WordAfterClauses p)) = refl
load_some (load.Text (ClausesMissing p)) = refl
load_some (load.Book (TooManyLiterals p)) = refl
load_some (load.Book (NoFreePlace p)) = refl

-- the calls that nothing refuses
pub ran_so : (text : List ℕ) (n : ℕ) (s t u : State) (done : Unit {0}) (k : ℕ) (r : Ran) → does session_limits program_places unopened (opens n 0) ≡ (opened (Ok done), s)
    → does session_limits program_places s (loads text) ≡ (loaded (Ok k), t) → does session_limits program_places t (runs longest_first program_steps) ≡ (ran (Ok r), u) → found (called text n) ≡ Ok (told_of r.outcome u.assignment)
ran_so text n s t u done k r at_open at_load at_run =
    ap (λ d. found (unless_refused d (λ s'. unless_refused (does session_limits program_places s' (loads text)) (λ t'. does session_limits program_places t' (runs longest_first program_steps))))) at_open
    ∙ ap (λ d. found (unless_refused d (λ t'. does session_limits program_places t' (runs longest_first program_steps)))) at_load ∙ ap found at_run

-- a text of so few bytes, with such a head
pub solved_so : (text : List ℕ) (n m : ℕ) → length text ≤ program_bytes → head_of text ≡ Ok (n, m) → solved text ≡ found (called text n)
solved_so text n m few e =
    cond-false (ltb program_bytes (length text)) (Err TooMuchInput) (headed text (head_of text)) (le-ltb program_bytes (length text) few) ∙ ap (headed text) e
