-- The clauses of the code's lines, one by one. Assumes nothing.
use Rattle.std.proofs.Common.{◌≡◌, ℕ, zero, suc, ◌<◌, Bool, ◌&&◌, ◌||◌, List, [], ◌∷◌, length, get_or, refl, ap, arith}
use Rattle.std.specs.List.{list_any, list_all}
use Rattle.clauses.specs.Clauses.{Signs}
use Rattle.lines.specs.declared.line.Line.{Line}
use Rattle.lines.specs.Lines.{clause_of, clauses}

pub length-clauses : (ls : List Line) → length (clauses ls) ≡ length ls
length-clauses [] = refl
length-clauses (l ∷ ls) = ap suc (length-clauses ls)

pub clauses_at : (ls : List Line) (i : ℕ) (d : Line) → i < length ls → get_or (clauses ls) i [] ≡ clause_of (get_or ls i d)
clauses_at [] i d h = absurd (omega arith)
clauses_at (l ∷ ls) zero d h = refl
clauses_at (l ∷ ls) (suc i) d h = clauses_at ls i d (omega arith)

pub all-clauses : (t : Signs → Bool) (ls : List Line) → list_all t (clauses ls) ≡ list_all (λ l. t (clause_of l)) ls
all-clauses t [] = refl
all-clauses t (l ∷ ls) = ap (λ b. t (clause_of l) && b) (all-clauses t ls)

pub any-clauses : (t : Signs → Bool) (ls : List Line) → list_any t (clauses ls) ≡ list_any (λ l. t (clause_of l)) ls
any-clauses t [] = refl
any-clauses t (l ∷ ls) = ap (λ b. t (clause_of l) || b) (any-clauses t ls)
