-- What the definitions see of a session. Assumes nothing.
use Rattle.std.specs.Prelude.{◌≡◌, ℕ, ◌+◌, ◌-◌, ◌≤◌, Bool, true, false, cond, not, ◌&&◌, List, [], length, map, drop, ℤ, Some, None, Ok, Err, Option, Result, nat_lt, nat_le, slice_index_or}
use Rattle.std.specs.List.{list_all}
use Rattle.text.specs.Reading.{Reading, clause}
use Rattle.table.specs.Held.{held, beyond, places_of}
use Rattle.clauses.specs.Values.{truths}
use Rattle.clauses.specs.Literals.{names}
use Rattle.lines.specs.declared.line.Line.{Line}
use Rattle.lines.specs.Lines.{Candidate, candidate_of, clause_of, clauses_in, given_clause, number_of}
use Rattle.guides.specs.Ranks.{Rank}
use Rattle.search.specs.declared.looking.Seen.{Seen}
use Rattle.search.specs.declared.looking.Seen.TheVariants.{Refuted, Met, Undecided}
use Rattle.answers.specs.declared.run.Outcome.{Outcome}
use Rattle.answers.specs.declared.run.Outcome.TheVariants as outcome
use Rattle.answers.specs.declared.run.Ran.{Ran}
use Rattle.answers.specs.declared.load.LoadFault.{LoadFault}
use Rattle.answers.specs.declared.refusal.Refusal.{Refusal}
use Rattle.answers.specs.declared.refusal.Refusal.TheVariants.{NoLiteral, NotOpen, NoSuchLine}
use Rattle.histories.specs.States.{State, session_limits, is_open}
use Rattle.histories.specs.Runs.{made, due_move, run}
use Rattle.histories.specs.Calls.{Call, Answer, entered, accepted, take_up}
use Rattle.histories.specs.Guarantees.{Continues}
use Rattle.session.specs.declared.session.Session.{Session}

-- its variables, its lines and its assignment
abbrev pub state : Session → State
state s = record {
  n = s.n;
  lines = map candidate_of (held s.book);
  assignment = truths s.n s.assignment.word;
}

-- how many places its book has
abbrev pub places : Session → ℕ
places s = length (places_of s.book)

-- what stands past the last line
abbrev pub no_line : Candidate
no_line = given_clause []

-- line k, counted from 1, as a reader of the session is told it
abbrev pub line_of : State → ℕ → Result Candidate Refusal
line_of s k =
    cond (not (is_open s)) (Err NotOpen)
    (cond (nat_lt 0 k && nat_le k (length s.lines))
    (Ok (slice_index_or s.lines (k - 1) no_line)) (Err NoSuchLine))

-- the same of the code's line
abbrev pub line_told : Result Line Refusal → Result Candidate Refusal
line_told (Ok l) = Ok (candidate_of l)
line_told (Err r) = Err r

-- What each call promises: its answer and the session after it are those set
-- out for it, and so, whatever the calls before it, all is guaranteed of the
-- history with it.
abbrev pub Guarantees : Session → Call → Answer → Session → Type 0
Guarantees was call answer is =
    Continues session_limits (places was) (state was) call answer (state is)

-- The book has as many places as before; no line goes, and each place beyond
-- the lines keeps what it held.
pub record KeepsPlaces (was is : Session) : Type 0 where
  pub count : places is ≡ places was
  pub grows : was.book.len ≤ is.book.len
  pub rest : beyond is.book ≡ drop is.book.len (places_of was.book)

-- Entering a given line answers and leaves what is set out.
abbrev pub Enters : Session → Line → Result (Option ℕ) Refusal → Session → Type 0
Enters was l r is =
    entered (number_of (clause_of l) (clauses_in (state was).lines))
    (nat_lt (length (state was).lines) (places was)) (state was) (clause_of l)
    ≡ (r, state is)

-- So does accepting a clause; it is refused where a number is no literal.
abbrev pub Accepts : Session → List ℤ → Result (Option ℕ) Refusal → Session → Type 0
Accepts was xs r is =
    cond (list_all (names was.n) xs) (accepted (places was) (state was) xs)
    (Err NoLiteral, state was)
    ≡ (r, state is)

-- the verdict that is seen
abbrev pub verdict_of : Seen → Option Outcome
verdict_of Refuted = Some outcome.NoneMeets
verdict_of Met = Some outcome.Met
verdict_of Undecided = None

-- `true`: the move that is due leaves this state. `false`: there is no place
-- for it, and the state is as it was.
abbrev pub Moves : Rank → ℕ → State → Bool → State → Type 0
Moves rank places was true is = made places was (due_move rank was) ≡ Some is
Moves rank places was false is = (made places was (due_move rank was) ≡ None) × (is ≡ was)

-- the same of a session
abbrev pub Steps : Rank → Session → Bool → Session → Type 0
Steps rank was b is = Moves rank (places was) (state was) b (state is)

-- what a run answers and leaves
abbrev pub Runs : Rank → ℕ → Session → Ran → Session → Type 0
Runs rank budget was r is =
    run rank (places was) budget (state was)
    ≡ record { outcome = r.outcome; steps = r.steps; left = state is }

-- ---- a text

-- One clause further, of what was unread. `Ok true`: it is taken, and what
-- comes after it is left. `Ok false`: the text has ended well. Else it is
-- refused. k clauses were taken before.
abbrev pub Loads : ℕ → State → Reading → Result Bool LoadFault → State → Reading → Type 0
Loads places was unread (Ok true) is left =
    ((xs : List ℤ) × (p : ℕ) × (unread ≡ clause xs p left))
    × ((k : ℕ) → take_up places k was unread ≡ take_up places (k + 1) is left)
Loads places was unread (Ok false) is left = (k : ℕ) → take_up places k was unread ≡ (Ok k, is)
Loads places was unread (Err f) is left =
    (k : ℕ) → take_up places k was unread ≡ (Err (record { fault = f; taken = k }), is)
