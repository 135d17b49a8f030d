-- The worked examples, by computation. Assumes nothing.
use Rattle.std.specs.Prelude.{◌≡◌, ◌-◌, ◌^◌, true, false, [], ◌∷◌, map, ℤ, pos, negsuc}
use Rattle.std.specs.List.{list_all}
use Rattle.clauses.specs.Values.{assigned, full}
use Rattle.clauses.specs.Literals.{names, tautology, met}
use Rattle.clauses.specs.Clauses.{literals, size, empty, within, broken, clashes, critical, bar}
use Rattle.clauses.specs.Sets.{set_of}
use Rattle.lines.specs.ReadingOff.{resolvents, closed, read_off}
use Rattle.clauses.specs.Words.{signs}

-- literals of the examples
abbrev pub one : ℤ
one = pos 1

abbrev pub two : ℤ
two = pos 2

abbrev pub not_one : ℤ
not_one = negsuc 0

abbrev pub not_two : ℤ
not_two = negsuc 1

-- (1 2) and (-1 2) clash in 1 and resolve to (2); (1 2) and (-1 -2) clash
-- twice and don't resolve.
pub record Resolving : Type 0 where
  pub one_clash : clashes (set_of (one ∷ two ∷ [])) (set_of (not_one ∷ two ∷ [])) ≡ 1 ∷ []
  pub one_resolvent :
      map literals (resolvents (set_of (one ∷ two ∷ [])) (set_of (not_one ∷ two ∷ [])))
      ≡ (two ∷ []) ∷ []
  pub two_clashes :
      clashes (set_of (one ∷ two ∷ [])) (set_of (not_one ∷ not_two ∷ [])) ≡ 1 ∷ 2 ∷ []
  pub no_resolvent :
      resolvents (set_of (one ∷ two ∷ [])) (set_of (not_one ∷ not_two ∷ [])) ≡ []

-- (1 -1 2) gets no line; (2 1 2) is (1 2), of length 2.
pub record Becoming : Type 0 where
  pub both_ways : tautology (one ∷ not_one ∷ two ∷ []) ≡ true
  pub one_way : tautology (two ∷ one ∷ two ∷ []) ≡ false
  pub each_once : literals (set_of (two ∷ one ∷ two ∷ [])) ≡ one ∷ two ∷ []
  pub length_two : size (set_of (two ∷ one ∷ two ∷ [])) ≡ 2
  pub up_to_one : list_all (names 1) (one ∷ not_one ∷ []) ≡ true
  pub above_one : list_all (names 1) (one ∷ two ∷ []) ≡ false
  pub no_number : list_all (names 1) (pos 0 ∷ []) ≡ false

-- With both variables false (-1 2) is critical on -1 and (-1 -2) on nothing,
-- (1 2) is broken, and it is the bar.
pub record Judging : Type 0 where
  pub on_one : critical (assigned (false ∷ false ∷ [])) not_one (set_of (not_one ∷ two ∷ [])) ≡ true
  pub not_on_two :
      critical (assigned (false ∷ false ∷ [])) two (set_of (not_one ∷ two ∷ [])) ≡ false
  pub on_nothing :
      (l : ℤ) → critical (assigned (false ∷ false ∷ [])) l (set_of (not_one ∷ not_two ∷ [])) ≡ false
  pub all_false : broken (full 0) (set_of (one ∷ two ∷ [])) ≡ true
  pub one_unset : broken (assigned (false ∷ [])) (set_of (one ∷ two ∷ [])) ≡ false
  pub barred : literals (bar 2 (full 0)) ≡ one ∷ two ∷ []

-- The edges: variable 64, a clause of 64 literals, the empty clause, one
-- variable alone.
pub record Edges : Type 0 where
  pub ends_of_words : literals (signs (record { pos = 2 ^ 63; neg = 1 })) ≡ not_one ∷ pos 64 ∷ []
  pub longest : size (signs (record { pos = 2 ^ 64 - 1; neg = 0 })) ≡ 64
  pub within_all : within 64 (set_of (pos 64 ∷ [])) ≡ true
  pub above_all : within 63 (set_of (negsuc 63 ∷ [])) ≡ false
  pub last_named : names 64 (negsuc 63) ≡ true
  pub next_named : names 64 (pos 65) ≡ false
  pub longest_bar : size (bar 64 (full (2 ^ 63))) ≡ 64
  pub nothing_held : empty (set_of []) ≡ true
  pub nothing_broken : broken (full 0) (set_of []) ≡ true
  pub nothing_met : met (full 0) [] ≡ false
  pub shortest_bar : literals (bar 1 (full 1)) ≡ not_one ∷ []

-- Reading off (1 2), (-1 2), (2): 1 true would leave (-1 2) to 2, and both are
-- true in the end. (1 2) and (-1) alone are not closed: (2) is missing.
abbrev pub Reading : Type 0
Reading =
    (closed (set_of (one ∷ two ∷ []) ∷ set_of (not_one ∷ two ∷ []) ∷ set_of (two ∷ []) ∷ []) ≡ true)
    × (read_off 2 (set_of (one ∷ two ∷ []) ∷ set_of (not_one ∷ two ∷ []) ∷ set_of (two ∷ []) ∷ []) ≡ true ∷ true ∷ [])
    × (closed (set_of (one ∷ two ∷ []) ∷ set_of (not_one ∷ []) ∷ []) ≡ false)
