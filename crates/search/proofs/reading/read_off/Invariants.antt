use Rattle.std.proofs.Common.{◌-◌}
use Rattle.weighing.specs.Books.{standing}
use Rattle.search.proofs.ReadingOff.{Read}
use Rattle.search.proofs.reading.read_off.Given as goal

-- the variables before v are read off
abbrev pub invariant-loop-v : goal.invariant-loop-v
invariant-loop-v l = Read l.book.n (l.v - 1) (standing l.book) l.set l.word
