-- What a clause given as signed numbers becomes. Assumes nothing.
use Rattle.std.specs.Prelude.{◌≡◌, ℕ, ◌≤◌, Bool, true, false, List, length, ℤ, Some, None, Ok, Err, Option, Result}
use Rattle.clauses.specs.declared.clause.Clause.{Clause}
use Rattle.lines.specs.declared.given.NoLiteral.{NoLiteral}
use Rattle.lines.specs.declared.line.Line.{Line}
use Rattle.std.specs.List.{list_all}
use Rattle.clauses.specs.Values.{Values, assigned}
use Rattle.clauses.specs.Literals.{names, met, tautology, set_size}
use Rattle.clauses.specs.Sets.{set_of, SetOf}
use Rattle.clauses.specs.Clauses.{size, clean, within, meets}
use Rattle.clauses.specs.Words.{signs}
use Rattle.lines.specs.Lines.{clause_of, given}

-- all numbers are literals over n variables, and this is their set; or some
-- number is none
abbrev pub Gathers : ℕ → List ℤ → Result Clause NoLiteral → Type 0
Gathers n xs (Err e) = list_all (names n) xs ≡ false
Gathers n xs (Ok c) = (list_all (names n) xs ≡ true) × SetOf xs (signs c)

-- Some number is no literal over n variables: refused. A clause that holds
-- some v and -v becomes no line, and every assignment meets it. Any other
-- becomes a given line of the same literals, met by the same assignments.
abbrev pub Becomes : ℕ → List ℤ → Result (Option Line) NoLiteral → Type 0
Becomes n xs (Err e) = list_all (names n) xs ≡ false
Becomes n xs (Ok None) =
    (list_all (names n) xs ≡ true) × (tautology xs ≡ true) × ((a : List Bool) → n ≤ length a → met (assigned a) xs ≡ true)
Becomes n xs (Ok (Some l)) =
    (list_all (names n) xs ≡ true) × (tautology xs ≡ false) × (given l.origin ≡ true) × (clause_of l ≡ set_of xs) × SetOf xs (clause_of l)
    × ((m : Values) → meets m (clause_of l) ≡ met m xs)
    × (size (clause_of l) ≡ set_size xs) × (clean (clause_of l) ≡ true) × (within n (clause_of l) ≡ true)
