-- What the sheet of a book says: its given lines first, then the others, each
-- in book order, and all numbered in this order. Assumes nothing.
use Rattle.std.specs.Prelude.{ℕ, ◌+◌, ◌-◌, Bool, true, false, cond, List, [], ◌∷◌, ◌++◌, length, map, take, ℤ, slice_index_or}
use Rattle.std.specs.List.{filter, flat_map}
use Rattle.words.specs.Bits.{alike}
use Rattle.clauses.specs.Clauses.{literals}
use Rattle.lines.specs.declared.line.Origin.{Origin}
use Rattle.lines.specs.declared.line.Origin.TheVariants.{Given, Resolved, Widened}
use Rattle.lines.specs.Lines.{Candidate, given}
use Rattle.writing.specs.Items.{Item, number, natural, space, line_end, bytes}

-- `true`: the given lines; `false`: the derived ones
abbrev pub of_kind : Bool → Candidate → Bool
of_kind b l = alike (given l.origin) b

-- how many lines are of one kind
abbrev pub count_of : Bool → List Candidate → ℕ
count_of b ls = length (filter (of_kind b) ls)

-- line k is given
abbrev pub given_at : List Candidate → ℕ → Bool
given_at ls k = slice_index_or (map (λ l. given l.origin) ls) (k - 1) false

-- The number of line k in the sheet: of a given line, how many given lines
-- come up to it; of another, all given lines and how many others come up to it.
abbrev pub sheet_number : List Candidate → ℕ → ℕ
sheet_number ls k =
    cond (given_at ls k) (count_of true (take k ls))
    (count_of true ls + count_of false (take k ls))

-- a line names others by their numbers in the sheet
abbrev pub renamed : (ℕ → ℕ) → Origin → Origin
renamed f Given = Given
renamed f (Resolved v i j) = Resolved v (f i) (f j)
renamed f (Widened i) = Widened (f i)

abbrev pub renumbered : (ℕ → ℕ) → Candidate → Candidate
renumbered f l = record l { origin = renamed f l.origin }

-- the lines of one kind, in book order
abbrev pub part : Bool → (ℕ → ℕ) → List Candidate → List Candidate
part b f ls = map (renumbered f) (filter (of_kind b) ls)

-- The sheet as a book of its own.
abbrev pub sheet : List Candidate → List Candidate
sheet ls = part true (sheet_number ls) ls ++ part false (sheet_number ls) ls

-- ---- what it says

-- What one line of a sheet says: the literals of a given clause; or the variable
-- in which a clause was resolved, and the two lines that it names; or the line
-- that a clause was widened from, and its literals.
pub data Entry : Type 0 where
  by_given : List ℤ → Entry
  by_resolving : (v i j : ℕ) → Entry
  by_widening : ℕ → List ℤ → Entry

abbrev pub said : Origin → List ℤ → Entry
said Given xs = by_given xs
said (Resolved v i j) xs = by_resolving v i j
said (Widened i) xs = by_widening i xs

abbrev pub entry : Candidate → Entry
entry l = said l.origin (literals l.clause)

-- ---- what is written

-- a number, and the end of the line
abbrev pub count_items : ℕ → List Item
count_items k = natural k ∷ line_end ∷ []

-- a literal and a space
abbrev pub literal_items : ℤ → List Item
literal_items x = number x ∷ space ∷ []

-- the literals, 0, and the end of the line
abbrev pub clause_items : List ℤ → List Item
clause_items xs = flat_map literal_items xs ++ count_items 0

-- xs 0; or v i j; or 0 i xs 0
abbrev pub entry_items : Entry → List Item
entry_items (by_given xs) = clause_items xs
entry_items (by_resolving v i j) = natural v ∷ space ∷ natural i ∷ space ∷ count_items j
entry_items (by_widening i xs) = natural 0 ∷ space ∷ natural i ∷ space ∷ clause_items xs

abbrev pub line_items : Candidate → List Item
line_items l = entry_items (entry l)

abbrev pub lines_items : List Candidate → List Item
lines_items ls = flat_map line_items ls

-- the number of lines of one kind, and these
abbrev pub part_items : List Candidate → List Item
part_items ls = count_items (length ls) ++ lines_items ls

-- n, the given lines and the derived ones
abbrev pub sheet_items : ℕ → List Candidate → List Item
sheet_items n ls =
    count_items n
    ++ (part_items (part true (sheet_number ls) ls) ++ part_items (part false (sheet_number ls) ls))

abbrev pub sheet_bytes : ℕ → List Candidate → List ℕ
sheet_bytes n ls = bytes (sheet_items n ls)
