use Rattle.std.proofs.Common.{◌≡◌, ℕ, ◌<◌, ◌≤◌}
use Rattle.guides.specs.Rows.{count}
use Rattle.guides.proofs.longest.LongestFirstGuide.better.Given as goal

-- at the lengths looked at so far, the rows are equal
abbrev pub invariant-loop-k : goal.invariant-loop-k
invariant-loop-k l = (j : ℕ) → l.k ≤ j → j < l.initial.k → count j l.a.counts ≡ count j l.b.counts
