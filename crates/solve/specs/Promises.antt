-- What an answer tells of a text, in a reader's words. Assumes nothing.
use Rattle.std.specs.Prelude.{◌≡◌, ℕ, ◌<◌, ◌≤◌, Bool, true, List, [], ◌∷◌, ◌++◌, length, ℤ, Ok, Err, codes, Option, Result}
use Rattle.std.specs.Io.KnownBytes.{Appends}
use Rattle.tokens.specs.Words.{pieces, words_of}
use Rattle.limits.specs.Limits.{most_variables, program_bytes, program_places}
use Rattle.text.specs.Refusals.{number_of}
use Rattle.text_laws.specs.Writing.{Writable, saying}
use Rattle.histories.specs.Guarantees.{meets_all}
use Rattle.solve.specs.declared.fault.Fault.{Fault}
use Rattle.solve.specs.declared.streams.Failure.{Failure}
use Rattle.solve.specs.declared.streams.Failure.TheVariants.{Unread, Unwritten}
use Rattle.writing.specs.Items.{bytes}
use Rattle.pages.specs.Reports.{Told, satisfied, refuted, undecided, literal_line}
use Rattle.solve.specs.Answers.{fault_refusal}

-- The text's words outside comments are p, cnf, n, m and those of the m clauses
-- cs, over 1 to 64 variables.
pub record Saying (text : List ℕ) (n : ℕ) (cs : List (List ℤ)) : Type 0 where
  pub some : 0 < n
  pub few : n ≤ most_variables
  pub writable : Writable n cs
  pub words : words_of (pieces text) ≡ saying n cs

-- every clause is met by an assignment that gives each variable a truth value
abbrev pub Meets : ℕ → List (List ℤ) → List Bool → Type 0
Meets n cs a = (length a ≡ n) × (meets_all a cs ≡ true)

-- Satisfied: the assignment meets every clause that the text says. Refuted: no
-- assignment does.
abbrev pub Judges : ℕ → List (List ℤ) → Told → Type 0
Judges n cs (satisfied a) = Meets n cs a
Judges n cs refuted = (a : List Bool) → Meets n cs a → ⊥
Judges n cs undecided = Unit {0}

abbrev pub Solves : List ℕ → Result Told Fault → Type 0
Solves text (Ok t) = (n : ℕ) × (cs : List (List ℤ)) × Saying text n cs × Judges n cs t
Solves text (Err f) = Unit {0}

-- A text is answered without a refusal exactly where it has at most 65,536 bytes
-- and its words say clauses over 1 to 64 variables, but for more than 1,000
-- clauses: these may find no place in the book, and then that is the refusal.
abbrev pub SaysSo : List ℕ → Result Told Fault → Type 0
SaysSo text (Ok t) =
    (length text ≤ program_bytes) × ((n : ℕ) × (cs : List (List ℤ)) × Saying text n cs)
SaysSo text (Err f) =
    length text ≤ program_bytes → (n : ℕ) (cs : List (List ℤ)) → Saying text n cs
    → (number_of (fault_refusal f) ≡ 8) × (program_places < length cs)

-- ---- the bytes

-- Whoever reads SATISFIABLE reads the literals of an assignment that meets every
-- clause of the text; and whoever reads UNSATISFIABLE, that none does.
pub record Tells (text out : List ℕ) : Type 0 where
  pub satisfiable : (rest : List ℕ) → out ≡ codes "s SATISFIABLE" ++ rest
      → (n : ℕ) × (cs : List (List ℤ)) × Saying text n cs
      × ((a : List Bool) × Meets n cs a × (rest ≡ 10 ∷ bytes (literal_line a)))
  pub unsatisfiable : (rest : List ℕ) → out ≡ codes "s UNSATISFIABLE" ++ rest
      → (n : ℕ) × (cs : List (List ℤ)) × Saying text n cs × ((a : List Bool) → Meets n cs a → ⊥)

-- the two lines that are printed where there is no answer
abbrev pub failure_note : List ℕ
failure_note = codes "c the input could not be read" ++ (10 ∷ codes "s UNKNOWN" ++ (10 ∷ []))

-- What failed before a byte of an answer was tried is told, and nothing else is
-- written.
abbrev pub Unanswered : Option (List ℕ) → Option (List ℕ) → Failure → Type 0
Unanswered old new Unread = Appends old new failure_note
Unanswered old new Unwritten = Unit {0}
