-- Whether a line is new. Assumes nothing.
use Rattle.std.proofs.Common.{◌≡◌, ℕ, suc, Bool, true, false, cond, not, ◌||◌, List, [], ◌∷◌, Some, None, Option, option_map, refl, sym, ap, ◌∙◌}
use Rattle.std.specs.Bool.{then_some}
use Rattle.std.specs.Option.{is_none, IfSome}
use Rattle.words.specs.Bits.{keep, first}
use Rattle.clauses.specs.Clauses.{Signs, same, has}
use Rattle.lines.specs.declared.line.Line.{Line}
use Rattle.lines.specs.Lines.{Candidate, candidate_of, number_from, number_of}
use Rattle.steps.proofs.Written.{same_order}

none_from : (k : ℕ) (c : Signs) (cs : List Signs) → is_none (number_from k c cs) ≡ not (has c cs)
none_from k c [] = refl
none_from k c (d ∷ cs) = ap (λ (b : Bool). is_none (cond b (Some k) (number_from (suc k) c cs))) (same_order d c) ∙ go (same c d) (none_from (suc k) c cs)
  where
    go : (b : Bool) → is_none (number_from (suc k) c cs) ≡ not (has c cs) → is_none (cond b (Some k) (number_from (suc k) c cs)) ≡ not (b || has c cs)
    go true h = refl
    go false h = h

-- a clause that stands under no number is new
pub none_new : (c : Signs) (cs : List Signs) → is_none (number_of c cs) ≡ not (has c cs)
none_new c cs = none_from 1 c cs

pub first_kept : (b : Bool) (l : Line) → option_map candidate_of (then_some b l) ≡ first (keep b (candidate_of l) [])
first_kept true l = refl
first_kept false l = refl

-- what holds of the line that is found, if one is
pub if_found : (P : Line → Type 0) (o : Option Line) (found : Option Candidate) → option_map candidate_of o ≡ found → ((l : Line) → found ≡ Some (candidate_of l) → P l) → IfSome o P
if_found P None found e h = tt
if_found P (Some l) found e h = h l (sym e)
