-- What the set of a customer's literals becomes. Assumes nothing.
use Rattle.std.proofs.Common.{◌≡◌, ℕ, suc, Bool, true, false, not, List, ℤ, pos, negsuc, Option, Ok, sym, refl, ap, ◌∙◌, subst, ap₂}
use Rattle.std.specs.Bool.{then_some}
use Rattle.clauses.specs.declared.clause.Clause.{Clause}
use Rattle.lines.specs.declared.line.Line.{Line}
use Rattle.clauses.specs.Literals.{tautology}
use Rattle.clauses.specs.Clauses.{sign, holds_plus, holds_minus}
use Rattle.clauses.specs.Sets.{set_of, SetOf}
use Rattle.lines.specs.Given.{Gathers, Becomes}
use Rattle.lines.specs.Lines.{given_line}
use Rattle.clauses.specs.Words.{signs}
use Rattle.lines.proofs.Numbers.{given-meets, given-size, given-clean, given-within, tautology-met}
use Rattle.clauses.proofs.Words.{sign-here, signs_by}

pub set_signs : (xs : List ℤ) (c : Clause) → SetOf xs (signs c) → signs c ≡ set_of xs
unfolding set_of
set_signs xs c set =
    signs_by c _ (λ k h. ap₂ sign (sym (ap holds_plus (sign-here c k h)) ∙ set (pos (suc k))) (sym (ap holds_minus (sign-here c k h)) ∙ set (negsuc k)))

pub becomes : (n : ℕ) (xs : List ℤ) (c : Clause) (l : Line) (r : Option Line) (t : Bool) → t ≡ tautology xs → r ≡ then_some (not t) l → l ≡ given_line c
    → Gathers n xs (Ok c) → Becomes n xs (Ok r)
becomes n xs c l r t tells is made gathered = subst (λ (o : Option Line). Becomes n xs (Ok o)) (sym is) (go t (sym tells))
  where
    go : (b : Bool) → tautology xs ≡ b → Becomes n xs (Ok (then_some (not b) l))
    go true met = (gathered.0, met, tautology-met n xs gathered.0 met)
    go false clean_set =
        rw made (
          gathered.0,
          clean_set,
          refl,
          set_signs xs c gathered.1,
          gathered.1,
          given-meets n xs (signs c) gathered.0 gathered.1,
          given-size n xs (signs c) gathered.0 gathered.1,
          given-clean n xs (signs c) gathered.0 gathered.1 ∙ ap not clean_set,
          given-within n xs (signs c) gathered.0 gathered.1,
        )
