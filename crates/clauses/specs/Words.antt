-- A clause as two words: bit v - 1 of the one for v, of the other for -v.
-- Assumes nothing.
use Rattle.words.specs.Bits.{width, bit, listed}
use Rattle.clauses.specs.declared.clause.Clause.{Clause}
use Rattle.clauses.specs.Clauses.{sign, Signs}

unfoldable pub signs : Clause → Signs
signs c = listed width (λ k. sign (bit k c.pos) (bit k c.neg))
