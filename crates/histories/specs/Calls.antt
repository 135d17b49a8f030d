-- The calls that change a session: what each answers, and what it leaves.
-- Assumes nothing.
use Rattle.std.specs.Prelude.{ℕ, ◌+◌, ◌^◌, Bool, true, false, cond, not, List, [], ◌∷◌, length, ℤ, Some, None, Ok, Err, Option, Result, nat_le, nat_lt}
use Rattle.std.specs.List.{list_all}
use Rattle.words.specs.Bits.{one_to}
use Rattle.answers.specs.declared.run.Ran.{Ran}
use Rattle.answers.specs.declared.refusal.Refusal.{Refusal}
use Rattle.answers.specs.declared.refusal.Refusal.TheVariants.{AlreadyOpen, VariablesOutOfRange, TooManyPlaces, StartOutOfRange, NotOpen, TooManyNumbers, NoLiteral, NoFreePlace, BudgetTooLarge}
use Rattle.answers.specs.declared.load.LoadFault.TheVariants as load
use Rattle.answers.specs.declared.load.LoadRefusal.{LoadRefusal}
use Rattle.answers.specs.Refusals.{load_fault}
use Rattle.text.specs.declared.faults.BookFault.TheVariants as book
use Rattle.limits.specs.Limits.{most_literals}
use Rattle.text.specs.Reading.{Reading, clause, well, refused, reading}
use Rattle.clauses.specs.Values.{truths}
use Rattle.clauses.specs.Literals.{names, tautology}
use Rattle.clauses.specs.Sets.{set_of}
use Rattle.clauses.specs.Clauses.{Signs}
use Rattle.lines.specs.Lines.{number_of, clauses_in, given_clause}
use Rattle.guides.specs.Ranks.{Rank}
use Rattle.histories.specs.States.{Limits, State, is_open, with_line, with_assignment}
use Rattle.histories.specs.Runs.{Run, run}

-- Open with n variables and a start, add signed numbers, load the bytes of a
-- text, restart from a start, run under a rank with a budget.
pub data Call : Type 0 where
  opens : (n start : ℕ) → Call
  adds : List ℤ → Call
  loads : List ℕ → Call
  restarts : (start : ℕ) → Call
  runs : Rank → (budget : ℕ) → Call

-- Each call's own result. Add tells the line of the clause, none where every
-- assignment meets it; load tells the clauses taken.
pub data Answer : Type 0 where
  opened : Result (Unit {0}) Refusal → Answer
  added : Result (Option ℕ) Refusal → Answer
  loaded : Result ℕ LoadRefusal → Answer
  restarted : Result (Unit {0}) Refusal → Answer
  ran : Result Ran Refusal → Answer

-- The tests in their order: at the first that holds the call is refused, and
-- nothing changes; else it is done.
abbrev pub guarded :
    List (Bool × Refusal) → (Refusal → Answer) → State → Answer × State → Answer × State
guarded [] refuse s done = done
guarded (t ∷ ts) refuse s done = cond t.0 (refuse t.1, s) (guarded ts refuse s done)

-- a start has a one at bit n or above
abbrev pub too_wide : ℕ → ℕ → Bool
too_wide n start = nat_le (2 ^ n) start

-- ---- one clause to the book

-- What a clause that some assignment doesn't meet comes to: the line that it
-- is already, or a new given line, if a place is free.
abbrev pub entered : Option ℕ → Bool → State → Signs → Result (Option ℕ) Refusal × State
entered (Some k) room s c = (Ok (Some k), s)
entered None true s c = (Ok (Some (length s.lines + 1)), with_line s (given_clause c))
entered None false s c = (Err NoFreePlace, s)

-- The same of any clause, given as signed numbers: one that holds some v and
-- -v gets no line.
abbrev pub accepted : ℕ → State → List ℤ → Result (Option ℕ) Refusal × State
accepted places s xs =
    cond (tautology xs) (Ok None, s)
    (entered (number_of (set_of xs) (clauses_in s.lines)) (nat_lt (length s.lines) places)
    s (set_of xs))

-- ---- a text to the book

-- A clause is taken and the load goes on, or the book has no place for it; p
-- is the place of its ending 0, and k clauses were taken before.
abbrev pub taken :
    ℕ → ℕ → Result (Option ℕ) Refusal × State → (State → Result ℕ LoadRefusal × State)
    → Result ℕ LoadRefusal × State
taken k p (Ok l, s) go_on = go_on s
taken k p (Err r, s) go_on = (Err (record { fault = load.Book (book.NoFreePlace p); taken = k }), s)

-- The clauses of a reading go to the book one after another, up to the first
-- fault; k were taken before.
abbrev pub take_up : ℕ → ℕ → State → Reading → Result ℕ LoadRefusal × State
take_up places k s well = (Ok k, s)
take_up places k s (refused f) = (Err (record { fault = load_fault f; taken = k }), s)
take_up places k s (clause xs p rest) =
    taken k p (accepted places s xs) (λ t. take_up places (k + 1) t rest)

-- ---- all calls

abbrev pub answering : {A : Type 0} → (A → Answer) → A × State → Answer × State
answering answer r = (answer r.0, r.1)

-- what a run answers and leaves
abbrev pub run_told : Run → Result Ran Refusal × State
run_told r = (Ok (record { outcome = r.outcome; steps = r.steps }), r.left)

-- What a call answers and leaves, under some limits, over a book of so many
-- places.
abbrev pub does : Limits → ℕ → State → Call → Answer × State
does limits places s (opens n start) =
    guarded
    ((is_open s, AlreadyOpen) ∷ (not (one_to limits.variables n), VariablesOutOfRange)
    ∷ (nat_lt limits.places places, TooManyPlaces) ∷ (too_wide n start, StartOutOfRange) ∷ [])
    (λ r. opened (Err r)) s (opened (Ok tt), record s { n = n; assignment = truths n start })
does limits places s (adds xs) =
    guarded
    ((not (is_open s), NotOpen) ∷ (nat_lt most_literals (length xs), TooManyNumbers)
    ∷ (not (list_all (names s.n) xs), NoLiteral) ∷ [])
    (λ r. added (Err r)) s (answering added (accepted places s xs))
does limits places s (loads text) =
    guarded ((not (is_open s), NotOpen) ∷ [])
    (λ r. loaded (Err (record { fault = load.NotOpen; taken = 0 }))) s
    (answering loaded (take_up places 0 s (reading s.n text)))
does limits places s (restarts start) =
    guarded ((not (is_open s), NotOpen) ∷ (too_wide s.n start, StartOutOfRange) ∷ [])
    (λ r. restarted (Err r)) s (restarted (Ok tt), with_assignment s (truths s.n start))
does limits places s (runs rank budget) =
    guarded ((not (is_open s), NotOpen) ∷ (nat_lt limits.steps budget, BudgetTooLarge) ∷ [])
    (λ r. ran (Err r)) s (answering ran (run_told (run rank places budget s)))
