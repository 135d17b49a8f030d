use Rattle.writing.proofs.Joining.{tells_more}
use Rattle.pages.proofs.report.writes.write_words.Goals as goal

pub returns : goal.returns
returns c = record { tells = tells_more _ _ _ _ _ c.word.ensures.tells (tells_more _ _ _ _ _ c.space.ensures.tells (tells_more _ _ _ _ _ c.word-2.ensures.tells c.end.ensures.tells)) }
