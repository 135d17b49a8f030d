-- What a session is: its variables, its lines and its assignment. Assumes
-- nothing.
use Rattle.std.specs.Prelude.{◌≡◌, ℕ, Bool, true, not, length, List, [], ◌∷◌, ◌++◌, ◌==◌, ◌≤◌}
use Rattle.limits.specs.Limits.{most_variables, most_lines, most_steps}
use Rattle.words.specs.Bits.{width}
use Rattle.lines.specs.Lines.{Candidate, keeps_facts}

-- How many variables a session may have, how many places its book, and how
-- many steps one run.
pub record Limits : Type 0 where
  pub variables : ℕ
  pub places : ℕ
  pub steps : ℕ

-- those of a session
abbrev pub session_limits : Limits
session_limits = record { variables = most_variables; places = most_lines; steps = most_steps }

-- A word has a bit for each variable, and a row can count the lines.
pub record Allowed (l : Limits) : Type 0 where
  pub variables : l.variables ≤ width
  pub places : l.places ≤ most_lines

-- n variables, the lines oldest first, and an assignment of n truth values
pub record State : Type 0 where
  pub n : ℕ
  pub lines : List Candidate
  pub assignment : List Bool

-- as a session is made: no variables and no lines
abbrev pub unopened : State
unopened = record { n = 0; lines = []; assignment = [] }

abbrev pub is_open : State → Bool
is_open s = not (s.n == 0)

-- What holds of every session, whatever its calls were: its book keeps the
-- four facts, and the assignment has a value for each of its variables.
pub record WellFormed (s : State) : Type 0 where
  pub kept : keeps_facts s.n s.lines ≡ true
  pub total : length s.assignment ≡ s.n
  pub narrow : s.n ≤ width

-- one more line
abbrev pub with_line : State → Candidate → State
with_line s l = record s { lines = s.lines ++ (l ∷ []) }

-- another assignment
abbrev pub with_assignment : State → List Bool → State
with_assignment s a = record s { assignment = a }
