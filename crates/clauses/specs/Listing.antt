-- The literals that an iterator over a clause has still to tell. Assumes nothing.
use Rattle.std.specs.Prelude.{List, ℤ}
use Rattle.clauses.specs.declared.listing.Literals.{Literals}
use Rattle.clauses.specs.Clauses.{literals}
use Rattle.clauses.specs.Words.{signs}

abbrev pub untold : Literals → List ℤ
untold l = literals (signs l.rest)
