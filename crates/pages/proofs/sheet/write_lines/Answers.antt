use Rattle.std.proofs.Common.{subst, sym}
use Rattle.lines.specs.Lines.{candidates}
use Rattle.writing.specs.declared.page.Page.{Page}
use Rattle.writing.specs.Pages.{Tells}
use Rattle.pages.specs.Says.{lines_items, part, sheet_number}
use Rattle.std.proofs.Common.{take, ◌+◌}
use Rattle.pages.proofs.Rows.{line_told, line_passed, kind_is}
use Rattle.pages.proofs.sheet.write_lines.Goals as goal
use Rattle.pages.proofs.sheet.write_lines.Goals.{then-is_given-given, else-is_given-given}

pub loop-line-preserved : goal.loop-line-preserved
loop-line-preserved c =
    let ls = c.args.lines.now in
    let b = c.args.given in
    let i = c.loop-line.line-index in
    let f = sheet_number (candidates c.args.numbers.now.lines.now) in
    let to = λ (q : Page). Tells (lines_items (part b f (candidates (take (i + 1) ls)))) c.args.page.now q in
    elim c.if-is_given-given.branch [
      | then-is_given-given w ↦
          subst to (sym w.page-is)
          (line_told b f ls i _ c.args.page.now c.loop-line.page w.write_line.new.page c.loop-line-test.true (kind_is _ _ _ _ c.is_given.ensures.value w.if-is_given-given.true) c.loop-line.invariant w.write_line.ensures.tells)
      | else-is_given-given w ↦
          subst to (sym w.page-is)
          (line_passed b f ls i _ c.args.page.now c.loop-line.page c.loop-line-test.true (kind_is _ _ _ _ c.is_given.ensures.value w.if-is_given-given.false) c.loop-line.invariant)
    ]
