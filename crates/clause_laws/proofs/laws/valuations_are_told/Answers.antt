use Rattle.clause_laws.proofs.Valued.{only_literals, partial_says, word_has}
use Rattle.clause_laws.proofs.laws.valuations_are_told.Goals as goal

pub returns : goal.returns
returns c = record { literals = only_literals; partial = partial_says; listed = word_has }
