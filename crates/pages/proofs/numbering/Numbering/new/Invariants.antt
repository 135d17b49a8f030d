use Rattle.std.proofs.Common.{◌≡◌, ◌*◌, length}
use Rattle.pages.specs.Numberings.{given_before, Counted}
use Rattle.pages.proofs.numbering.Numbering.new.Given as goal

abbrev pub invariant-loop-i : goal.invariant-loop-i
invariant-loop-i l = record {
  counted : Counted l.before l.lines l.i;
  total : l.total ≡ given_before l.lines (l.i * 64);
  size : length l.before ≡ 1024;
}
