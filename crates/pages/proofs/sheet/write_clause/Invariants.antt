use Rattle.std.proofs.Common.{◌≡◌, List, ◌++◌, ℤ}
use Rattle.std.specs.List.{flat_map}
use Rattle.clauses.specs.Words.{signs}
use Rattle.clauses.specs.Clauses.{literals}
use Rattle.clauses.specs.Listing.{untold}
use Rattle.writing.specs.Pages.{Tells}
use Rattle.pages.specs.Says.{literal_items}
use Rattle.pages.proofs.sheet.write_clause.Given as goal

-- some literals are told, and the others still to be told
abbrev pub invariant-loop-literal : goal.invariant-loop-literal
invariant-loop-literal l =
    (goal.iterator-loop-literal).can_next l.literal-iterator
    × ((done : List ℤ) × (done ++ untold l.literal-iterator ≡ literals (signs l.clause)) × Tells (flat_map literal_items done) l.initial.page l.page)
