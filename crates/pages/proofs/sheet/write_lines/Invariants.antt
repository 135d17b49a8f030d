use Rattle.std.proofs.Common.{take}
use Rattle.lines.specs.Lines.{candidates}
use Rattle.writing.specs.Pages.{Tells}
use Rattle.pages.specs.Says.{lines_items, part, sheet_number}
use Rattle.pages.proofs.sheet.write_lines.Given as goal

abbrev pub invariant-loop-line : goal.invariant-loop-line
invariant-loop-line l = Tells (lines_items (part l.given (sheet_number (candidates l.numbers.lines.now)) (candidates (take l.line-index l.lines)))) l.initial.page l.page
