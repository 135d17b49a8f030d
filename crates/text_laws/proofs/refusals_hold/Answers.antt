use Rattle.text_laws.proofs.Headed.{head_tells}
use Rattle.text_laws.proofs.Places.{words_stand}
use Rattle.text_laws.proofs.Reasons.{clauses_end_at_zeros, refused_has_reason}
use Rattle.text_laws.proofs.Refused.{reason_refuses}
use Rattle.text_laws.proofs.Rising.{places_rise}
use Rattle.text_laws.proofs.refusals_hold.Goals as goal

pub returns : goal.returns
returns c =
    record {
      stand = words_stand;
      rise = places_rise;
      zeros = clauses_end_at_zeros;
      reasons = λ limit text cs f. (refused_has_reason limit text cs f, reason_refuses limit text cs f);
      head = head_tells;
    }
