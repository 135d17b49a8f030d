-- What the report of an answer says. Assumes nothing.
use Rattle.std.specs.Prelude.{ℕ, ◌+◌, Bool, true, false, List, [], ◌∷◌, ◌++◌, ℤ, pos, neg_ℤ, Ok, Err, codes, Result}
use Rattle.answers.specs.declared.run.Outcome.{Outcome}
use Rattle.answers.specs.declared.run.Outcome.TheVariants.{Met, NoneMeets, Spent, Full}
use Rattle.answers.specs.declared.report.Report.{Report}
use Rattle.answers.specs.declared.report.Report.TheVariants.{Ended, Refused}
use Rattle.writing.specs.Items.{Item, natural, word, space, line_end, bytes}
use Rattle.pages.specs.Says.{clause_items}

-- What a run comes to for its reader: an assignment of the variables, no
-- assignment, or neither.
pub data Told : Type 0 where
  satisfied : List Bool → Told
  refuted : Told
  undecided : Told

-- of a run that ended so, with this assignment
abbrev pub told_of : Outcome → List Bool → Told
told_of Met a = satisfied a
told_of NoneMeets a = refuted
told_of Spent a = undecided
told_of Full a = undecided

-- what a report tells; of a refusal, its number and its place
abbrev pub reported : Report → List Bool → Result Told (ℕ × ℕ)
reported (Ended o) a = Ok (told_of o a)
reported (Refused k place) a = Err (k, place)

-- ---- what is written

-- variable v as the literal of it that is true
abbrev pub literal : ℕ → Bool → ℤ
literal v true = pos v
literal v false = neg_ℤ (pos v)

-- the literals that are true, where the first variable is v
abbrev pub true_literals : ℕ → List Bool → List ℤ
true_literals v [] = []
true_literals v (b ∷ a) = literal v b ∷ true_literals (v + 1) a

-- a line of two words
abbrev pub verdict_items : List ℕ → List ℕ → List Item
verdict_items a b = word a ∷ space ∷ word b ∷ line_end ∷ []

-- a line of v, the literals that are true by variable, and 0
abbrev pub literal_line : List Bool → List Item
literal_line a = word (codes "v") ∷ space ∷ clause_items (true_literals 1 a)

abbrev pub told_items : Told → List Item
told_items (satisfied a) = verdict_items (codes "s") (codes "SATISFIABLE") ++ literal_line a
told_items refuted = verdict_items (codes "s") (codes "UNSATISFIABLE")
told_items undecided = verdict_items (codes "s") (codes "UNKNOWN")

-- c refused N at P
abbrev pub refusal_items : ℕ → ℕ → List Item
refusal_items k place =
    word (codes "c") ∷ space ∷ word (codes "refused") ∷ space ∷ natural k ∷ space
    ∷ word (codes "at") ∷ space ∷ natural place ∷ line_end ∷ []

abbrev pub report_items : Report → List Bool → List Item
report_items (Ended o) a = told_items (told_of o a)
report_items (Refused k place) a = refusal_items k place

-- No report has more bytes: a sign, two digits and a space for each of 64
-- variables, and what stands around them.
abbrev pub most_report : ℕ
most_report = 274

abbrev pub report_bytes : Report → List Bool → List ℕ
report_bytes r a = bytes (report_items r a)
