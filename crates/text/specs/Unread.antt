-- What a reader of a text has still to read, and what each of its calls gives. Assumes nothing.
use Rattle.std.specs.Prelude.{◌≡◌, ℕ, ◌≤◌, cond, List, [], length, drop, ℤ, Some, None, Ok, Err, Option, Result, nat_lt}
use Rattle.table.specs.Held.{held, beyond, places_of}
use Rattle.tokens.specs.declared.stream.Tokens.{Tokens}
use Rattle.tokens.specs.Scanning.{coming}
use Rattle.tokens.specs.Words.{Piece}
use Rattle.text.specs.declared.faults.ReadFault.{ReadFault}
use Rattle.text.specs.declared.faults.ReadFault.TheVariants.{Text}
use Rattle.text.specs.declared.faults.TextFault.TheVariants.{TooLong}
use Rattle.text.specs.declared.reader.Reader.{Reader}
use Rattle.text.specs.declared.reader.Remaining.{Remaining}
use Rattle.text.specs.declared.reader.State.{State}
use Rattle.text.specs.declared.reader.State.TheVariants.{BeforeProblem, BetweenClauses, InsideClause, Done}
use Rattle.limits.specs.Limits.{most_bytes}
use Rattle.text.specs.Reading.{Reading, clause, well, refused, Step, on, gives, stops, clause_word, step_piece, read}

-- between clauses there are no literals yet
abbrev pub begun : State → List ℤ → List ℤ
begun (BeforeProblem e) ls = []
begun (BetweenClauses left) ls = []
begun (InsideClause left) ls = ls
begun Done ls = []

-- the literals of a clause that was given, when none is unfinished
abbrev pub whole : State → List ℤ → List ℤ
whole (BeforeProblem e) ls = ls
whole (BetweenClauses left) ls = ls
whole (InsideClause left) ls = []
whole Done ls = ls

-- what a text has still to say, in a state with the literals ls so far
abbrev pub read_on : ℕ → ℕ → State → List ℤ → Tokens → Reading
read_on most limit s ls tokens =
    let text = tokens.text.now in
    cond (nat_lt most_bytes (length text)) (refused (Text TooLong))
    (read most limit (length text) s ls (coming tokens))

-- how many literals a clause may have: as many as there are places
abbrev pub most_of : Reader → ℕ
most_of r = length (places_of r.literals)

-- what a reader has still to read
abbrev pub unread : Reader → Reading
unread r = read_on (most_of r) r.limit r.state (begun r.state (held r.literals)) r.tokens

-- the literals of the clause that a reader gave last
abbrev pub given : Reader → List ℤ
given r = whole r.state (held r.literals)

-- the step that a piece brings to a reader
abbrev pub brings : Reader → Piece → Step
brings r x = step_piece (most_of r) r.limit r.state (begun r.state (held r.literals)) x

-- the step that a number brings, after the literals that are held
abbrev pub number_brings : Reader → Remaining → ℕ → ℤ → Step
number_brings r left p x =
    clause_word (most_of r) left.variables left.clauses (held r.literals) p (Some x)

-- how a text ends, as a call of the reader tells it
abbrev pub Ended : Reading → Result (Option ℕ) ReadFault → Type 0
Ended was (Ok (Some p)) = ⊥
Ended was (Ok None) = was ≡ well
Ended was (Err f) = was ≡ refused f

-- What a call of the reader gave, of what was unread before it: the next
-- clause, with its literals, and the rest is unread; or how the text ends, with
-- no literals, and a further call gives the same again.
abbrev pub Gave : Reading → Result (Option ℕ) ReadFault → List ℤ → Reading → Type 0
Gave was (Ok (Some p)) ls is = was ≡ clause ls p is
Gave was (Ok None) ls is = (was ≡ well) × (is ≡ well) × (ls ≡ [])
Gave was (Err f) ls is = (was ≡ refused f) × (is ≡ refused f) × (ls ≡ [])

-- no literals are held but those of a clause that is being read
abbrev pub Begins : Reader → Type 0
Begins r = held r.literals ≡ begun r.state (held r.literals)

-- that holds, unless a clause was given
abbrev pub UnlessGiven : Result (Option ℕ) ReadFault → Type 0 → Type 0
UnlessGiven (Ok (Some p)) P = Unit {0}
UnlessGiven (Ok None) P = P
UnlessGiven (Err f) P = P

-- The lent places behind the literals that are then held keep what they held.
abbrev pub KeepsRest : Reader → Reader → Type 0
KeepsRest was is = beyond is.literals ≡ drop (length (held is.literals)) (places_of was.literals)

-- the same text, limit and places for literals
abbrev pub Alike : Reader → Reader → Type 0
Alike was is =
    (is.tokens ≡ was.tokens) × (is.limit ≡ was.limit) × (most_of is ≡ most_of was)

-- What a step does to a reader: it goes on to a state with some literals so
-- far; it gives the literals that are held, and the place of their ending 0; or
-- it is refused, and state and literals stay.
abbrev pub Took : Step → Result (Option ℕ) ReadFault → Reader → Reader → Type 0
Took brought (Ok (Some p)) was is = brought ≡ gives (held is.literals) p is.state
Took brought (Ok None) was is = brought ≡ on is.state (begun is.state (held is.literals))
Took brought (Err f) was is =
    (brought ≡ stops f) × (is.state ≡ was.state)
    × (begun is.state (held is.literals) ≡ begun was.state (held was.literals))

-- no fewer literals are held
abbrev pub Grown : Reader → Reader → Type 0
Grown was is = length (held was.literals) ≤ length (held is.literals)
