use Rattle.writing.proofs.Joining.{tells_more}
use Rattle.pages.proofs.sheet.write_count.Goals as goal

pub returns : goal.returns
returns c = record { tells = tells_more _ _ _ _ _ c.number.ensures.tells c.end.ensures.tells }
