use Rattle.writing.proofs.Joining.{tells_more}
use Rattle.pages.proofs.Rows.{number_told}
use Rattle.pages.proofs.report.writes.write_refusal.Goals as goal

pub returns : goal.returns
returns c =
    let k = number_told _ _ _ _ c.from.ensures c.number.ensures.tells in
    record {
      tells = tells_more _ _ _ _ _ c.word.ensures.tells
          (tells_more _ _ _ _ _ c.space.ensures.tells
          (tells_more _ _ _ _ _ c.word-2.ensures.tells
          (tells_more _ _ _ _ _ c.space-2.ensures.tells
          (tells_more _ _ _ _ _ k
          (tells_more _ _ _ _ _ c.space-3.ensures.tells
          (tells_more _ _ _ _ _ c.word-3.ensures.tells
          (tells_more _ _ _ _ _ c.space-4.ensures.tells (tells_more _ _ _ _ _ c.number-2.ensures.tells c.end.ensures.tells))))))));
    }
