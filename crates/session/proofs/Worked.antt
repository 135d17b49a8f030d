-- The worked sheets and reports, by computation. Assumes nothing.
use Rattle.std.proofs.Common.{refl}
use Rattle.std.specs.Fmt.{digits}
use Rattle.clauses.specs.Sets.{set_of}
use Rattle.session.specs.Worked.{WorkedPages}

pub worked_pages : WorkedPages
unfolding set_of digits
worked_pages = record {
  fits = refl;
  stays = refl;
  short = refl;
  mixed = refl;
  no_empty = refl;
  not_open = refl;
  met = refl;
  met_unopened = refl;
  none = refl;
  spent = refl;
  full = refl;
  spent_short = refl;
  refused = refl;
}
