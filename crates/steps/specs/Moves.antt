-- One step of a run: the first of the five that applies. Assumes nothing.
use Rattle.std.specs.Prelude.{ℕ, Bool, List, ◌++◌, length, Some, None, Option}
use Rattle.words.specs.Bits.{first}
use Rattle.clauses.specs.Clauses.{Signs}
use Rattle.lines.specs.Lines.{Candidate}
use Rattle.lines.specs.ReadingOff.{read_off}
use Rattle.guides.specs.Ranks.{Rank}
use Rattle.steps.specs.Flips.{flips}
use Rattle.steps.specs.Writing.{learnt, barred, swept}

-- A variable is flipped, a line is written, or an assignment is accepted.
pub data Move : Type 0 where
  flip : ℕ → Move
  write : Candidate → Move
  accept : List Bool → Move

-- the lines that learning, barring and sweeping may write, in this order
abbrev pub writable : List Signs → List Bool → List Candidate
writable cs a = learnt cs a ++ (barred cs a ++ swept cs)

abbrev pub chosen : Option ℕ → Option Candidate → List Bool → Move
chosen (Some v) l r = flip v
chosen None (Some l) r = write l
chosen None None r = accept r

-- A flip, else a line to write, else 5. Read off: variable after variable is set
-- true, unless that breaks a line while those behind it are unset; then false.
unfoldable pub move : Rank → List Signs → List Bool → Move
move rank cs a = chosen (first (flips rank cs a)) (first (writable cs a)) (read_off (length a) cs)
