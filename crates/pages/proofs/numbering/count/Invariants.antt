use Rattle.std.proofs.Common.{◌≡◌, ◌≤◌, take, true}
use Rattle.lines.specs.Lines.{candidates}
use Rattle.pages.specs.Says.{count_of}
use Rattle.pages.proofs.numbering.count.Given as goal

abbrev pub invariant-loop-line : goal.invariant-loop-line
invariant-loop-line l = record {
  so_far : l.count ≡ count_of true (candidates (take l.line-index l.lines));
  few : l.count ≤ l.line-index;
}
