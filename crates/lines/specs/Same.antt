-- Two clauses are the same if they hold the same literals; so being the same
-- goes both ways round and along a chain, as `==` on lines must. Assumes nothing.
use Rattle.std.specs.Prelude.{◌≡◌, true}
use Rattle.std.specs.Cmp.{IsPartialEquivalence, both_ways}
use Rattle.std.proofs.Common.{sym, ◌∙◌}
use Rattle.clauses.specs.Clauses.{Signs, same}
use Rattle.clauses.proofs.Literals.{same-holds, holds_same}
use Rattle.lines.specs.declared.line.Line.{Line}
use Rattle.lines.specs.Lines.{clause_of}

same_back : (c d : Signs) → same c d ≡ true → same d c ≡ true
same_back c d h = holds_same d c (λ l. sym (same-holds c d h l))

same_on : (c d e : Signs) → same c d ≡ true → same d e ≡ true → same c e ≡ true
same_on c d e h k = holds_same c e (λ l. same-holds c d h l ∙ same-holds d e k l)

pub lines_alike : IsPartialEquivalence (λ (x y : Line). same (clause_of x) (clause_of y))
lines_alike = record {
  symm = λ x y. both_ways _ _ (same_back (clause_of x) (clause_of y)) (same_back (clause_of y) (clause_of x));
  trans = λ x y z. same_on (clause_of x) (clause_of y) (clause_of z);
}
