-- Where a clause stands among lines. Assumes nothing.
use Rattle.std.proofs.Common.{◌≡◌, ℕ, zero, suc, ◌+◌, ◌<◌, Bool, true, List, [], ◌∷◌, length, Some, None, sym, refl, ap, ◌∙◌, arith}
use Rattle.std.specs.List.{HoldsAt}
use Rattle.table.specs.Search.{NoneOf}
use Rattle.lines.specs.declared.line.Line.{Line}
use Rattle.clauses.specs.Clauses.{Signs, same}
use Rattle.lines.specs.Lines.{clause_of, clauses, number_from}

-- whether a line is the clause c
abbrev pub Equal : Signs → Line → Bool → Type 0
Equal c l b = b ≡ same (clause_of l) c

pub none_found : (k : ℕ) (c : Signs) (ls : List Line) → NoneOf (Equal c) ls (length ls) → number_from k c (clauses ls) ≡ None
none_found k c [] none = refl
none_found k c (l ∷ ls) none =
    rw (sym (none 0 (omega arith) l)) (none_found (suc k) c ls (λ j h. none (suc j) (omega arith)))

pub some_found : (k : ℕ) (c : Signs) (ls : List Line) (i : ℕ) → i < length ls → HoldsAt (λ l. Equal c l true) ls i → NoneOf (Equal c) ls i
    → number_from k c (clauses ls) ≡ Some (i + k)
some_found k c [] i h here none = absurd (omega arith)
some_found k c (l ∷ ls) zero h here none = rw (sym (here l)) (ap Some (omega arith))
some_found k c (l ∷ ls) (suc i) h here none =
    let next : i + suc k ≡ suc i + k = omega arith in
    rw (sym (none 0 (omega arith) l)) (some_found (suc k) c ls i (omega arith) here (λ j h. none (suc j) (omega arith)) ∙ ap Some next)
