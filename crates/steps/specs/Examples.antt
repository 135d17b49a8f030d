-- The worked examples, by computation. Assumes nothing.
use Rattle.std.specs.Prelude.{◌≡◌, ℕ, zero, suc, ◌-◌, Bool, true, false, List, [], ◌∷◌, ◌++◌, length, sum, pos, negsuc}
use Rattle.std.specs.List.{list_any}
use Rattle.words.specs.Bits.{width, listed}
use Rattle.clauses.specs.Values.{assigned}
use Rattle.clauses.specs.Clauses.{Signs, empty, clashes, resolvent, bar}
use Rattle.clauses.specs.Sets.{set_of}
use Rattle.lines.specs.Lines.{resolved, widened}
use Rattle.guides.specs.Rows.{count}
use Rattle.guides.specs.Ranks.{Rank, better, longest_first, fewest_broken}
use Rattle.steps.specs.Rows.{row}
use Rattle.steps.specs.Flips.{flipped, ranked_flipped, flips}
use Rattle.steps.specs.Writing.{learnt, swept}
use Rattle.steps.specs.Moves.{Move, flip, write, accept, move}

-- ---- moves, each made before the next

-- What a move leaves: a flip turns the variable, what is written stands at the
-- end, and what is accepted is the assignment.
abbrev pub made : Move → List Signs → List Bool → (List Signs × List Bool)
made (flip v) cs a = (cs, flipped v a)
made (write l) cs a = (cs ++ (l.clause ∷ []), a)
made (accept r) cs a = (cs, r)

-- what moves leave
abbrev pub after : List Move → List Signs → List Bool → (List Signs × List Bool)
after [] cs a = (cs, a)
after (m ∷ ms) cs a = let left : List Signs × List Bool = made m cs a in after ms left.0 left.1

-- The first k moves. To open it opens `move` too, which an attribute can't
-- name: it is a keyword of the code.
unfoldable pub moves : ℕ → Rank → List Signs → List Bool → List Move
unfolding move
moves zero rank cs a = []
moves (suc k) rank cs a =
    let m : Move = move rank cs a in
    let left : List Signs × List Bool = made m cs a in
    m ∷ moves k rank left.0 left.1

-- ---- clauses of the examples

-- ()
abbrev pub nothing : Signs
nothing = set_of []

-- (1)
abbrev pub one : Signs
one = set_of (pos 1 ∷ [])

-- (-1)
abbrev pub not_one : Signs
not_one = set_of (negsuc 0 ∷ [])

-- (2)
abbrev pub two : Signs
two = set_of (pos 2 ∷ [])

-- (-2)
abbrev pub not_two : Signs
not_two = set_of (negsuc 1 ∷ [])

-- (1 2)
abbrev pub one_two : Signs
one_two = set_of (pos 1 ∷ pos 2 ∷ [])

-- (-1 2)
abbrev pub not_one_two : Signs
not_one_two = set_of (negsuc 0 ∷ pos 2 ∷ [])

-- (1 -2)
abbrev pub one_not_two : Signs
one_not_two = set_of (pos 1 ∷ negsuc 1 ∷ [])

-- (-1 -2)
abbrev pub not_one_not_two : Signs
not_one_not_two = set_of (negsuc 0 ∷ negsuc 1 ∷ [])

-- (2 3)
abbrev pub two_three : Signs
two_three = set_of (pos 2 ∷ pos 3 ∷ [])

-- ---- ranks of the examples

-- nothing is ever better
abbrev pub constant : Rank
constant cs = 0

-- more broken lines are better
abbrev pub most_broken : Rank
most_broken cs = 65536 - sum cs

-- ---- what is computed

-- All four clauses of two variables, from both false, longest first. No flip
-- helps at first: each neighbour breaks one line of length 2, as now. (2) is
-- learnt from lines 1 and 2, and now 2 flips, for (2) would stay broken if 1
-- did. (1 -2) is broken then, and two lines are learnt: (-2), and (1), after
-- which 1 flips. (-1) is learnt, and at last () from (-2) and (2), the lines
-- 6 and 5. So some line is empty after seven moves, and not after six.
abbrev pub all_four : List Signs
all_four = one_two ∷ not_one_two ∷ one_not_two ∷ not_one_not_two ∷ []

abbrev pub Seven : Type 0
Seven =
    (moves 7 longest_first all_four (false ∷ false ∷ [])
    ≡ write (resolved 1 1 2 two)
    ∷ flip 2
    ∷ write (resolved 1 3 4 not_two)
    ∷ write (resolved 2 3 1 one)
    ∷ flip 1
    ∷ write (resolved 2 4 2 not_one)
    ∷ write (resolved 2 6 5 nothing)
    ∷ [])
    × (list_any empty (after (moves 6 longest_first all_four (false ∷ false ∷ [])) all_four (false ∷ false ∷ [])).0 ≡ false)
    × (list_any empty (after (moves 7 longest_first all_four (false ∷ false ∷ [])) all_four (false ∷ false ∷ [])).0 ≡ true)

-- Nothing is better, so nothing flips.
-- Learn: (1) is broken, and (-1 2) critical on -1. This comes before the bar
-- (1 2), which isn't in the book.
-- Bar: (1) and (2) are broken, and (-1 -2) is critical on neither of its two
-- true literals. The bar (1 2) is widened from line 2, the oldest broken, and
-- this comes before sweeping lines 1 and 2.
-- Sweep: with the bar in the book, lines 2 and 3 are the first to clash just
-- once, for 1 and 2 clash twice; and in the other book, where (-1 -2) stands
-- first, lines 1 and 2 are the only ones.
-- Read off: (-1) and (-1 2) are broken, the second is the bar, and they don't
-- clash. 1 is set false, as true breaks (-1), and 2 true.
abbrev pub Constant : Type 0
Constant =
    (move constant (one ∷ not_one_two ∷ []) (false ∷ false ∷ []) ≡ write (resolved 1 1 2 two))
    × (move constant (not_one_not_two ∷ one ∷ two ∷ []) (false ∷ false ∷ []) ≡ write (widened 2 one_two))
    × (move constant (one_two ∷ not_one_not_two ∷ one ∷ two ∷ []) (false ∷ false ∷ []) ≡ write (resolved 1 2 3 not_two))
    × (swept (not_one_not_two ∷ one ∷ one_two ∷ []) ≡ resolved 1 1 2 not_two ∷ [])
    × (move constant (not_one_not_two ∷ one ∷ one_two ∷ []) (false ∷ false ∷ []) ≡ write (resolved 1 1 2 not_two))
    × (move constant (not_one ∷ not_one_two ∷ []) (true ∷ false ∷ []) ≡ accept (false ∷ true ∷ []))

-- More broken lines are better.
-- Flip: of (1) and (2) one is broken, and both are once 2 flips.
-- Bar: both are broken, so each neighbour is worse. Nothing clashes.
-- Sweep: (1 2), the bar, and (1) are broken, and each neighbour breaks fewer.
-- (-1 -2) is critical on nothing; it clashes twice with (1 2), once with (1).
-- Read off: (-1) and (-1 2) are broken, and each neighbour breaks fewer.
abbrev pub Reversed : Type 0
Reversed =
    (move most_broken (one ∷ two ∷ []) (false ∷ true ∷ []) ≡ flip 2)
    × (move most_broken (one ∷ two ∷ []) (false ∷ false ∷ []) ≡ write (widened 1 one_two))
    × (move most_broken (one_two ∷ one ∷ not_one_not_two ∷ []) (false ∷ false ∷ []) ≡ write (resolved 1 2 3 not_two))
    × (move most_broken (not_one ∷ not_one_two ∷ []) (true ∷ false ∷ []) ≡ accept (false ∷ true ∷ []))

-- Either variable mends (1 2), and either of 2 and 3 mends (2 3): the lower is
-- flipped. 1 would mend (1 2) and leave (2) broken, which is better than now;
-- 2 mends both, and is flipped. From (1 2), (1), (-1 2), (-2), with one line
-- of length 2 and one of length 1 broken, 1 leaves one of length 2 and 2 two
-- of length 1: by length 2 is the best, by number 1 the only better one.
abbrev pub Ties : Type 0
Ties =
    (flips longest_first (one_two ∷ []) (false ∷ false ∷ []) ≡ 1 ∷ 2 ∷ [])
    × (move longest_first (one_two ∷ []) (false ∷ false ∷ []) ≡ flip 1)
    × (move longest_first (two_three ∷ []) (false ∷ false ∷ false ∷ []) ≡ flip 2)
    × (better longest_first (ranked_flipped (one_two ∷ two ∷ []) (false ∷ false ∷ []) 1) (row (one_two ∷ two ∷ []) (false ∷ false ∷ [])) ≡ true)
    × (move longest_first (one_two ∷ two ∷ []) (false ∷ false ∷ []) ≡ flip 2)
    × (move longest_first (one_two ∷ one ∷ not_one_two ∷ not_two ∷ []) (false ∷ false ∷ []) ≡ flip 2)
    × (move fewest_broken (one_two ∷ one ∷ not_one_two ∷ not_two ∷ []) (false ∷ false ∷ []) ≡ flip 1)

-- 64 variables, all false
abbrev pub all_false : List Bool
all_false = listed width (λ _. false)

-- (), (1), (2), (1 2), (-1), and the clause of the variables 1 to 64
abbrev pub some_lines : List Signs
some_lines = nothing ∷ one ∷ two ∷ one_two ∷ not_one ∷ bar 64 (assigned all_false) ∷ []

-- With all 64 variables false, (-1) alone is not broken. Over two variables
-- the clause of all 64 isn't either.
pub record Rows : Type 0 where
  pub entries : length (row some_lines all_false) ≡ 65
  pub empty : count 0 (row some_lines all_false) ≡ 1
  pub ones : count 1 (row some_lines all_false) ≡ 2
  pub twos : count 2 (row some_lines all_false) ≡ 1
  pub threes : count 3 (row some_lines all_false) ≡ 0
  pub longest : count 64 (row some_lines all_false) ≡ 1
  pub over_two : count 64 (row some_lines (false ∷ false ∷ [])) ≡ 0

-- (1 -1)
abbrev pub both_ways : Signs
both_ways = set_of (pos 1 ∷ negsuc 0 ∷ [])

-- (1 2) and (-1 -2) clash twice, and nothing is swept. With (1) and (-1) after
-- them, lines 1 and 4 come before 2 and 3, and these before 3 and 4.
-- A line that holds a variable both ways is not swept with itself.
pub record Pairs : Type 0 where
  pub clash_twice : clashes one_two not_one_not_two ≡ 1 ∷ 2 ∷ []
  pub none : swept (one_two ∷ not_one_not_two ∷ []) ≡ []
  pub alone : swept (both_ways ∷ []) ≡ []
  pub order :
      swept (one_two ∷ not_one_not_two ∷ one ∷ not_one ∷ [])
      ≡ resolved 1 1 4 two ∷ resolved 1 2 3 not_two ∷ resolved 1 3 4 nothing ∷ []

-- From (1 -2), (-1 -2), (-2), (1 2), with 1 false and 2 true: the first two
-- would give (-2), which is line 3, so (1) is learnt first, from 1 and 4.
abbrev pub InTheBook : Type 0
InTheBook =
    (resolvent 1 one_not_two not_one_not_two ≡ not_two)
    × (learnt (one_not_two ∷ not_one_not_two ∷ not_two ∷ one_two ∷ []) (false ∷ true ∷ []) ≡ resolved 2 1 4 one ∷ resolved 2 3 4 one ∷ [])
    × (move constant (one_not_two ∷ not_one_not_two ∷ not_two ∷ one_two ∷ []) (false ∷ true ∷ []) ≡ write (resolved 2 1 4 one))
