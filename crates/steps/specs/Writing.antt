-- The steps that write a line, each as the list of lines that it may write, in
-- the order in which it looks for them. An assignment gives each variable from
-- 1 to n a truth value, so its length is n. Assumes nothing.
use Rattle.std.specs.Prelude.{ℕ, Bool, not, List, [], length, filter, ℤ, neg_ℤ, Option, nat_lt, unsigned_abs, option_map}
use Rattle.std.specs.List.{flat_map}
use Rattle.words.specs.Bits.{keep, first}
use Rattle.clauses.specs.Values.{Values, assigned}
use Rattle.clauses.specs.Clauses.{Signs, literals, broken, critical, has, clashes, resolvent, bar}
use Rattle.lines.specs.Lines.{Candidate, resolved, widened, numbered}
use Rattle.lines.specs.ReadingOff.{in_one}

-- A line is a candidate only if its clause is not in the book.
abbrev pub fresh : List Signs → Candidate → List Candidate
fresh cs l = keep (not (has l.clause cs)) l []

-- the lines that a valuation breaks, oldest first, with their numbers
abbrev pub broken_under : Values → List Signs → List (ℕ × Signs)
broken_under m cs = filter (λ g. broken m g.1) (numbered cs)

-- the number of the oldest line that a valuation breaks
abbrev pub oldest_broken : Values → List Signs → Option ℕ
oldest_broken m cs = option_map (λ g. g.0) (first (broken_under m cs))

-- the lines that the assignment breaks, oldest first, with their numbers
abbrev pub broken_lines : List Signs → List Bool → List (ℕ × Signs)
broken_lines cs a = broken_under (assigned a) cs

-- the lines that are critical on a literal, oldest first, with their numbers
abbrev pub critical_lines : List Signs → List Bool → ℤ → List (ℕ × Signs)
critical_lines cs a l = filter (λ h. critical (assigned a) l h.1) (numbered cs)

-- the lines after line i, oldest first, with their numbers
abbrev pub younger : List Signs → ℕ → List (ℕ × Signs)
younger cs i = filter (λ j. nat_lt i j.0) (numbered cs)

-- What two lines that clash in exactly one variable resolve to.
abbrev pub resolved_from : List Signs → ℕ × Signs → ℕ × Signs → List Candidate
resolved_from cs i j = flat_map (fresh cs) (in_one (clashes i.1 j.1) (λ v. resolved v i.0 j.0 (resolvent v i.1 j.1)))

-- What g and h resolve to in the variable of l, a literal of g.
abbrev pub from_pair : List Signs → ℕ × Signs → ℤ → ℕ × Signs → List Candidate
from_pair cs g l h = fresh cs (resolved (unsigned_abs l) g.0 h.0 (resolvent (unsigned_abs l) g.1 h.1))

-- What g resolves to so with each line h that is critical on the opposite of l,
-- oldest first.
abbrev pub from_literal : List Signs → List Bool → ℕ × Signs → ℤ → List Candidate
from_literal cs a g l = flat_map (from_pair cs g l) (critical_lines cs a (neg_ℤ l))

-- What g resolves to so in each of its variables, rising.
abbrev pub from_line : List Signs → List Bool → ℕ × Signs → List Candidate
from_line cs a g = flat_map (from_literal cs a g) (literals g.1)

-- 2. Learn. For each broken line g from the oldest on, for each literal that it
-- holds by rising variable, for each line h that is critical on its opposite,
-- again from the oldest on: the resolvent of g and h.
unfoldable pub learnt : List Signs → List Bool → List Candidate
learnt cs a = flat_map (from_line cs a) (broken_lines cs a)

-- 3. Bar. Of each variable the literal that is false now, all n in one clause: it
-- is widened from a broken line, the oldest first.
unfoldable pub barred : List Signs → List Bool → List Candidate
barred cs a = flat_map (λ g. fresh cs (widened g.0 (bar (length a) (assigned a)))) (broken_lines cs a)

-- 4. Sweep. Of each pair of lines that clash in just one variable, by the older
-- line and then by the younger, the resolvent.
unfoldable pub swept : List Signs → List Candidate
swept cs = flat_map (λ i. flat_map (resolved_from cs i) (younger cs i.0)) (numbered cs)
