-- What a sheet is, and what the bytes of sheets and reports tell. Assumes
-- nothing.
use Rattle.std.specs.Prelude.{◌≡◌, ℕ, ◌+◌, ◌-◌, ◌^◌, ◌<◌, ◌≤◌, Bool, true, false, List, length, map, ℤ, unsigned_abs, slice_index_or}
use Rattle.std.specs.List.{list_any}
use Rattle.words.specs.Bits.{width}
use Rattle.clauses.specs.Values.{assigned, is_true}
use Rattle.clauses.specs.Literals.{value_of}
use Rattle.clauses.specs.Clauses.{empty}
use Rattle.lines.specs.Lines.{Candidate, given, clauses_in, givens_in, keeps_facts}
use Rattle.answers.specs.declared.report.Report.{Report}
use Rattle.answers.specs.declared.report.Report.TheVariants.{Ended, Refused}
use Rattle.pages.specs.Says.{sheet_number, renumbered, sheet, entry, sheet_bytes}
use Rattle.pages.specs.Reports.{true_literals, reported, report_bytes}

-- there is a line k
abbrev pub Stands : List Candidate → ℕ → Type 0
Stands ls k = (0 < k) × (k ≤ length ls)

-- A line's number in the sheet is one of as many numbers as there are lines;
-- each is the number of just one line; the line stands there, naming others by
-- their new numbers; and what was older than a derived line is older still.
pub record Renumbers (ls : List Candidate) : Type 0 where
  pub size : length (sheet ls) ≡ length ls
  pub stands : (k : ℕ) → Stands ls k → Stands ls (sheet_number ls k)
  pub moved :
      (k : ℕ) (d : Candidate) → Stands ls k
      → slice_index_or (sheet ls) (sheet_number ls k - 1) (renumbered (sheet_number ls) d)
      ≡ renumbered (sheet_number ls) (slice_index_or ls (k - 1) d)
  pub each : (m : ℕ) → Stands ls m → (k : ℕ) × Stands ls k × (sheet_number ls k ≡ m)
  pub once :
      (j k : ℕ) → Stands ls j → Stands ls k → sheet_number ls j ≡ sheet_number ls k → j ≡ k
  pub older :
      (j k : ℕ) (d : Candidate) → Stands ls j → Stands ls k → j < k
      → given (slice_index_or ls (k - 1) d).origin ≡ false
      → sheet_number ls j < sheet_number ls k

abbrev pub ASheetRenumbers : Type 0
ASheetRenumbers = (ls : List Candidate) → Renumbers ls

-- The sheet of a book that keeps the four facts is such a book itself: so each
-- derived line follows from lines with lower numbers. Its given lines are the
-- book's, and it has an empty line where the book has one.
abbrev pub ASheetIsABook : Type 0
ASheetIsABook =
    (n : ℕ) (ls : List Candidate) → keeps_facts n ls ≡ true
    → (keeps_facts n (sheet ls) ≡ true) × (givens_in (sheet ls) ≡ givens_in ls)
    × (list_any empty (clauses_in (sheet ls)) ≡ list_any empty (clauses_in ls))

-- ---- bytes

-- a book as sessions have them, or a longer one
pub record Countable (n : ℕ) (ls : List Candidate) : Type 0 where
  pub few : n ≤ width
  pub short : length ls < 2 ^ 63
  pub kept : keeps_facts n ls ≡ true

-- Sheets that say different things have different bytes: whoever reads them
-- knows n and what each line says.
abbrev pub ASheetIsTold : Type 0
ASheetIsTold =
    (n m : ℕ) (ls ks : List Candidate) → Countable n ls → Countable m ks
    → sheet_bytes n ls ≡ sheet_bytes m ks
    → (n ≡ m) × (map entry (sheet ls) ≡ map entry (sheet ks))

-- The literals of a report are true: one of each variable, in order, under the
-- assignment that is reported.
abbrev pub LiteralsAreTrue : Type 0
LiteralsAreTrue =
    (a : List Bool)
    → (length (true_literals 1 a) ≡ length a)
    × ((k : ℕ) (d : ℤ) → k < length a
    → (unsigned_abs (slice_index_or (true_literals 1 a) k d) ≡ k + 1)
    × (is_true (value_of (assigned a) (slice_index_or (true_literals 1 a) k d)) ≡ true))

-- numbers and places that 63 bits tell
abbrev pub Small : Report → Type 0
Small (Ended o) = Unit {0}
Small (Refused k place) = (k < 2 ^ 63) × (place < 2 ^ 63)

-- Reports that tell different things have different bytes.
abbrev pub AReportIsTold : Type 0
AReportIsTold =
    (r q : Report) (a b : List Bool) → length a ≤ width → length b ≤ width → Small r → Small q
    → report_bytes r a ≡ report_bytes q b → reported r a ≡ reported q b
