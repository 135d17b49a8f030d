use Rattle.lines.specs.Lines.{candidates}
use Rattle.writing.proofs.Joining.{tells_more}
use Rattle.pages.specs.Says.{sheet_number}
use Rattle.pages.proofs.Rows.{number_told, count_told, clause_told, origin_told}
use Rattle.pages.proofs.sheet.write_line.Goals as goal

pub returns-in-Resolved : goal.returns-in-Resolved
returns-in-Resolved c =
    let first = number_told _ _ _ _ c.from.ensures c.number.ensures.tells in
    let second = number_told _ _ _ _ c.number-in-Resolved.ensures.value c.number-in-Resolved-2.ensures.tells in
    let third = count_told _ _ _ _ c.number-in-Resolved-3.ensures.value c.write_count.ensures.tells in
    record {
      tells = origin_told (sheet_number (candidates c.args.numbers.now.lines.now)) c.args.line.now _ _ _ c.in-Resolved.ensures.value
          (tells_more _ _ _ _ _ first (tells_more _ _ _ _ _ c.space.ensures.tells (tells_more _ _ _ _ _ second (tells_more _ _ _ _ _ c.space-in-Resolved.ensures.tells third))));
    }

pub returns-in-Widened : goal.returns-in-Widened
returns-in-Widened c =
    let from = number_told _ _ _ _ c.number-in-Widened-2.ensures.value c.number-in-Widened-3.ensures.tells in
    record {
      tells = origin_told (sheet_number (candidates c.args.numbers.now.lines.now)) c.args.line.now _ _ _ c.in-Widened.ensures.value
          (tells_more _ _ _ _ _ c.number-in-Widened.ensures.tells (tells_more _ _ _ _ _ c.space-in-Widened.ensures.tells (tells_more _ _ _ _ _ from (tells_more _ _ _ _ _ c.space-in-Widened-2.ensures.tells (clause_told _ c.args.line.now _ _ c.clause-in-Widened.ensures.value c.write_clause-in-Widened.ensures.tells)))));
    }
