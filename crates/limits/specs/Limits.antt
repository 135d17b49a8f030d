-- The limits of the subject, as numerals. The code has the same numbers: that
-- they agree is promised by `limits_hold`. Assumes nothing.
use Rattle.std.specs.Prelude.{ℕ}

-- variables that a session can have
abbrev pub most_variables : ℕ
most_variables = 64

-- lengths that a line over so many variables can have, from 0 on
abbrev pub lengths : ℕ
lengths = 65

-- lines of a book that a row can count, and places of a session's book
abbrev pub most_lines : ℕ
most_lines = 65536

-- steps of one run
abbrev pub most_steps : ℕ
most_steps = 1000000

-- bytes in a text
abbrev pub most_bytes : ℕ
most_bytes = 1048576

-- clauses that a problem line may announce
abbrev pub most_clauses : ℕ
most_clauses = 65536

-- literals in one clause, repeats counted
abbrev pub most_literals : ℕ
most_literals = 128

-- ---- the program's own

-- bytes that it takes
abbrev pub program_bytes : ℕ
program_bytes = 65536

-- places of its book
abbrev pub program_places : ℕ
program_places = 1000

-- steps of its run
abbrev pub program_steps : ℕ
program_steps = 100000
