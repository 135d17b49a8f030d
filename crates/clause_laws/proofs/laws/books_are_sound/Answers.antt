use Rattle.lines.proofs.Resolution.{resolution_sound, clash_order, resolvent_order, widening_sound}
use Rattle.clause_laws.proofs.Books.{given-met, empty_refutes}
use Rattle.clause_laws.proofs.Counting.{three_to_the_n}
use Rattle.clause_laws.proofs.Facts.{four_facts}
use Rattle.clause_laws.proofs.Holding.{resolvent-holds}
use Rattle.clause_laws.proofs.ReadingOff.{reading_off}
use Rattle.clause_laws.proofs.laws.books_are_sound.Goals as goal

pub returns : goal.returns
returns c =
    record {
      facts = four_facts;
      rest = resolvent-holds;
      resolution = resolution_sound;
      order = λ v c d. (clash_order v c d, resolvent_order v c d);
      widening = widening_sound;
      given = given-met;
      empty = empty_refutes;
      count = three_to_the_n;
      reading = reading_off;
    }
