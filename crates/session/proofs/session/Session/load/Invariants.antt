use Rattle.std.proofs.Common.{◌≡◌, ◌+◌, ◌<◌, ◌≤◌, length}
use Rattle.limits.specs.Limits.{most_clauses}
use Rattle.text.specs.Reading.{reading, clauses_of}
use Rattle.text.specs.Unread.{unread}
use Rattle.histories.specs.Calls.{take_up}
use Rattle.histories.specs.Readings.{Proper}
use Rattle.session.specs.Sessions.{state, places, KeepsPlaces}
use Rattle.session.proofs.session.Session.load.Given as goal

-- what the whole text comes to is what the rest does, after the clauses taken
abbrev pub invariant-clauses : goal.invariant-clauses
invariant-clauses l = record {
  on :
      take_up (places l.initial.self) 0 (state l.initial.self) (reading l.initial.self.n l.text)
      ≡ take_up (places l.self) l.taken (state l.self) (unread l.reader);
  proper : Proper l.self.n (unread l.reader);
  few : l.taken + length (clauses_of (unread l.reader)) ≤ most_clauses;
  opened : 0 < l.self.n;
  kept : KeepsPlaces l.initial.self l.self;
  lent : l.self.book.places.ghost_name ≡ l.initial.self.book.places.ghost_name;
}

abbrev pub decreases-clauses : goal.decreases-clauses
decreases-clauses l = length (clauses_of (unread l.reader))
