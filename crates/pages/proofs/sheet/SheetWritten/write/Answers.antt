use Rattle.std.proofs.Common.{refl}
use Rattle.pages.proofs.Rows.{count_told, sheet_told}
use Rattle.pages.proofs.sheet.SheetWritten.write.Goals as goal

pub returns : goal.returns
returns c =
    record {
      tells = sheet_told c.args.self.now.lines.now c.new-numbers.result.lines.now c.args.self.now.n c.given-given.result _ _ _ _ _ _ _ c.new-numbers.ensures.lines c.given-given.ensures.value refl
          (count_told _ _ _ _ c.from.ensures c.write_count.ensures.tells) c.write_count-2.ensures.tells c.write_lines.ensures.tells c.write_count-3.ensures.tells c.write_lines-2.ensures.tells;
    }
