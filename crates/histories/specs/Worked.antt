-- The worked examples, as one fact about the definitions. Assumes nothing.
use Rattle.std.specs.Prelude.{◌≡◌, ℕ, ◌-◌, ◌^◌, true, false, List, [], ◌∷◌, ◌++◌, map, reverse, replicate, ℤ, pos, negsuc, codes, Some, None, Ok, Err}
use Rattle.answers.specs.declared.run.Outcome.{Outcome}
use Rattle.answers.specs.declared.run.Outcome.TheVariants.{Met, NoneMeets, Spent, Full}
use Rattle.answers.specs.declared.refusal.Refusal.TheVariants.{AlreadyOpen, VariablesOutOfRange, TooManyPlaces, StartOutOfRange, NotOpen, TooManyNumbers, NoLiteral, NoFreePlace, BudgetTooLarge, NoSuchLine, NoEmptyLine, BufferTooShort}
use Rattle.answers.specs.declared.load.LoadFault.TheVariants as load
use Rattle.answers.specs.declared.load.LoadRefusal.{LoadRefusal}
use Rattle.answers.specs.Refusals.{call_refusal, load_refusal}
use Rattle.text.specs.declared.faults.Refuser.TheVariants as by
use Rattle.text.specs.Refusals as told
use Rattle.text.specs.declared.faults.TextFault.TheVariants.{TooLong, AboveVariables, WordAfterClauses}
use Rattle.text.specs.declared.faults.BookFault.TheVariants as book
use Rattle.clauses.specs.Clauses.{Signs}
use Rattle.clauses.specs.Sets.{set_of}
use Rattle.lines.specs.Lines.{Candidate, resolved, given_clause, keeps_facts}
use Rattle.guides.specs.Ranks.{longest_first, fewest_broken}
use Rattle.text_laws.specs.Examples as texts
use Rattle.clause_laws.specs.Examples as clauses
use Rattle.guides.specs.Examples as guides
use Rattle.steps.specs.Examples as steps
use Rattle.histories.specs.States.{session_limits, State}
use Rattle.histories.specs.Calls.{Call, opens, adds, loads, restarts, runs, Answer, opened, added, loaded, restarted, ran}
use Rattle.histories.specs.Logs.{Log, played, newest_outcome, newest_number}
use Rattle.histories.specs.Tallies.{tally}
use Rattle.histories.specs.Guarantees.{is_verdict}

-- ---- calls one after another, the oldest first, over a book of so many places

-- their history
abbrev pub logged : ℕ → List Call → Log
logged places calls = (played session_limits places (reverse calls)).0

-- what they answer
abbrev pub answers : ℕ → List Call → List Answer
answers places calls = reverse (map (λ e. e.1) (logged places calls))

-- what they leave
abbrev pub leaves : ℕ → List Call → State
leaves places calls = (played session_limits places (reverse calls)).1

-- how a run ends, after so many steps
abbrev pub ends : Outcome → ℕ → Answer
ends o k = ran (Ok (record { outcome = o; steps = k }))

abbrev pub on_line : ℕ → Answer
on_line k = added (Ok (Some k))

-- ---- the examples' clauses and calls

abbrev pub one : ℤ
one = pos 1

abbrev pub not_one : ℤ
not_one = negsuc 0

abbrev pub two : ℤ
two = pos 2

abbrev pub not_two : ℤ
not_two = negsuc 1

abbrev pub clause : List ℤ → Signs
clause xs = set_of xs

-- the four clauses of two variables, and both variables false
abbrev pub all_four : List Call
all_four =
    opens 2 0 ∷ adds (one ∷ two ∷ []) ∷ adds (not_one ∷ two ∷ []) ∷ adds (one ∷ not_two ∷ [])
    ∷ adds (not_one ∷ not_two ∷ []) ∷ []

abbrev pub four_added : List Answer
four_added = opened (Ok tt) ∷ on_line 1 ∷ on_line 2 ∷ on_line 3 ∷ on_line 4 ∷ []

-- the nine lines after seven steps
abbrev pub nine : List Candidate
nine =
    given_clause (clause (one ∷ two ∷ [])) ∷ given_clause (clause (not_one ∷ two ∷ []))
    ∷ given_clause (clause (one ∷ not_two ∷ [])) ∷ given_clause (clause (not_one ∷ not_two ∷ []))
    ∷ resolved 1 1 2 (clause (two ∷ [])) ∷ resolved 1 3 4 (clause (not_two ∷ []))
    ∷ resolved 2 3 1 (clause (one ∷ []))
    ∷ resolved 2 4 2 (clause (not_one ∷ [])) ∷ resolved 2 6 5 (clause []) ∷ []

-- the texts of the examples
abbrev pub two_clauses : List ℕ
two_clauses = texts.lined (codes "p cnf 2 2" ∷ codes "1 2 0" ∷ codes "-1 0" ∷ [])

abbrev pub no_place : LoadRefusal
no_place = record { fault = load.Book (book.NoFreePlace 16); taken = 1 }

-- a book of one place, and clauses that need two
abbrev pub too_many : List Call
too_many = opens 2 0 ∷ adds (one ∷ []) ∷ adds (two ∷ []) ∷ []

-- a session with calls that are refused, clauses that get no line or an old
-- one, a load that stops at a fault, and verdicts
abbrev pub mixed : List Call
mixed =
    adds (one ∷ []) ∷ opens 0 0 ∷ opens 65 0 ∷ opens 2 4 ∷ opens 2 0 ∷ opens 2 0
    ∷ adds (one ∷ two ∷ []) ∷ adds (two ∷ one ∷ two ∷ []) ∷ adds (one ∷ not_one ∷ two ∷ [])
    ∷ adds (pos 3 ∷ []) ∷ adds (pos 0 ∷ [])
    ∷ adds (replicate 129 one)
    ∷ loads (texts.lined (codes "p cnf 2 2" ∷ codes "1 0" ∷ codes "2 0 -1" ∷ []))
    ∷ loads (texts.lined (codes "p cnf 2 1" ∷ codes "1 3 0" ∷ []))
    ∷ restarts 4 ∷ restarts 3 ∷ runs longest_first 1000001 ∷ runs longest_first 0
    ∷ adds (not_one ∷ []) ∷ runs fewest_broken 1000000 ∷ []

pub record Worked : Type 0 where
  -- words that are numbers and words that aren't; texts that end well; clauses
  -- of 128 and of 129 literals; refusals with their places
  pub number_words : texts.NumberWords
  pub sound_texts : texts.SoundTexts
  pub long_clauses : texts.LongClauses
  pub faulty_texts : texts.FaultyTexts
  -- clauses that resolve or clash twice, that get a line or none, that an
  -- assignment breaks or is critical for; variable 64 and the empty clause;
  -- reading off
  pub resolving : clauses.Resolving
  pub becoming : clauses.Becoming
  pub judging : clauses.Judging
  pub edges : clauses.Edges
  pub reading_off : clauses.Reading
  -- which row is better
  pub ranking : guides.Examples
  -- moves under longest first and under two guides of our own, which come to
  -- bar, sweep and reading off; ties; rows; pairs; what is in the book already
  pub seven_moves : steps.Seven
  pub constant_guide : steps.Constant
  pub reversed_guide : steps.Reversed
  pub ties : steps.Ties
  pub rows : steps.Rows
  pub pairs : steps.Pairs
  pub in_the_book : steps.InTheBook
  -- (1 -1 2) gets no line
  pub no_line :
      answers 8 (opens 2 0 ∷ adds (one ∷ not_one ∷ two ∷ []) ∷ [])
      ≡ opened (Ok tt) ∷ added (Ok None) ∷ []
  -- over a text with no clauses a run ends met at once, over the empty clause at
  -- once with none
  pub no_clauses :
      answers 8 (opens 2 0 ∷ loads (codes "p cnf 2 0") ∷ runs longest_first 7 ∷ [])
      ≡ opened (Ok tt) ∷ loaded (Ok 0) ∷ ends Met 0 ∷ []
  pub empty_clause :
      answers 8 (opens 2 0 ∷ loads (codes "p cnf 2 1 0") ∷ runs longest_first 7 ∷ [])
      ≡ opened (Ok tt) ∷ loaded (Ok 1) ∷ ends NoneMeets 0 ∷ []
  -- with budget 7 none after 7 steps, with 9 lines, which keep the four facts
  pub seven :
      answers 1000 (all_four ++ (runs longest_first 7 ∷ []))
      ≡ four_added ++ (ends NoneMeets 7 ∷ [])
  pub nine_lines : (leaves 1000 (all_four ++ (runs longest_first 7 ∷ []))).lines ≡ nine
  pub nine_keep : keeps_facts 2 nine ≡ true
  -- with budget 6 spent after 6, and then budget 1 gives none after 1
  pub six_and_one :
      answers 1000 (all_four ++ (runs longest_first 6 ∷ runs longest_first 1 ∷ []))
      ≡ four_added ++ (ends Spent 6 ∷ ends NoneMeets 1 ∷ [])
  -- with budget 7 and 8 places full after 6
  pub eight_places :
      answers 8 (all_four ++ (runs longest_first 7 ∷ []))
      ≡ four_added ++ (ends Full 6 ∷ [])
  -- two clauses of a text: met after one step, with 1 false and 2 true
  pub one_step :
      answers 1000 (opens 2 0 ∷ loads two_clauses ∷ runs longest_first 100000 ∷ [])
      ≡ opened (Ok tt) ∷ loaded (Ok 2) ∷ ends Met 1 ∷ []
  pub one_step_leaves :
      (leaves 1000 (opens 2 0 ∷ loads two_clauses ∷ runs longest_first 100000 ∷ [])).assignment
      ≡ false ∷ true ∷ []
  -- refusals in their order, and what is taken nevertheless
  pub each :
      answers 1000 mixed
      ≡ added (Err NotOpen) ∷ opened (Err VariablesOutOfRange) ∷ opened (Err VariablesOutOfRange)
      ∷ opened (Err StartOutOfRange) ∷ opened (Ok tt) ∷ opened (Err AlreadyOpen)
      ∷ on_line 1 ∷ on_line 1 ∷ added (Ok None) ∷ added (Err NoLiteral) ∷ added (Err NoLiteral)
      ∷ added (Err TooManyNumbers)
      ∷ loaded (Err (record { fault = load.Text (WordAfterClauses 18); taken = 2 }))
      ∷ loaded (Err (record { fault = load.Text (AboveVariables 12); taken = 0 }))
      ∷ restarted (Err StartOutOfRange) ∷ restarted (Ok tt) ∷ ran (Err BudgetTooLarge) ∷ ends Met 0
      ∷ on_line 4 ∷ ends NoneMeets 1 ∷ []
  -- the tally beside it
  pub tallied : (tally (logged 1000 mixed)).n ≡ 2
  pub accepted :
      (tally (logged 1000 mixed)).clauses
      ≡ (one ∷ two ∷ []) ∷ (two ∷ one ∷ two ∷ []) ∷ (one ∷ not_one ∷ two ∷ []) ∷ (one ∷ [])
      ∷ (two ∷ []) ∷ (not_one ∷ []) ∷ []
  -- over a book of one place the second clause finds none, also as one of a text
  pub places :
      answers 1 (too_many ++ (loads (texts.lined (codes "p cnf 2 3" ∷ codes "1 0 2 0 -1 0" ∷ []))
      ∷ []))
      ≡ opened (Ok tt) ∷ on_line 1 ∷ added (Err NoFreePlace) ∷ loaded (Err no_place) ∷ []
  -- the most variables, with every start, the fewest, and the most places
  pub most_variables : answers 8 (opens 64 (2 ^ 64 - 1) ∷ []) ≡ opened (Ok tt) ∷ []
  pub one_variable : answers 8 (opens 1 1 ∷ []) ≡ opened (Ok tt) ∷ []
  pub most_places : answers 65536 (opens 2 0 ∷ []) ≡ opened (Ok tt) ∷ []
  pub most_literals :
      answers 8 (opens 2 0 ∷ adds (replicate 128 one) ∷ [])
      ≡ opened (Ok tt) ∷ on_line 1 ∷ []
  -- Of two refusals the one that is tested first: unopened, over too many places;
  -- opened, in a full book.
  pub first_unopened :
      answers 65537 (opens 0 4 ∷ opens 2 4 ∷ adds (replicate 129 one) ∷ restarts 1
      ∷ runs longest_first 1000001 ∷ [])
      ≡ opened (Err VariablesOutOfRange) ∷ opened (Err TooManyPlaces) ∷ added (Err NotOpen)
      ∷ restarted (Err NotOpen)
      ∷ ran (Err NotOpen) ∷ []
  pub first_opened :
      answers 1 (too_many ++ (opens 0 9 ∷ adds (replicate 129 (pos 0)) ∷ adds (two ∷ pos 3 ∷ [])
      ∷ adds (one ∷ not_one ∷ []) ∷ []))
      ≡ opened (Ok tt) ∷ on_line 1 ∷ added (Err NoFreePlace) ∷ opened (Err AlreadyOpen)
      ∷ added (Err TooManyNumbers)
      ∷ added (Err NoLiteral) ∷ added (Ok None) ∷ []
  -- each call's refusals with who refuses and their numbers, and a load's
  pub refusals :
      map call_refusal
      (AlreadyOpen ∷ VariablesOutOfRange ∷ TooManyPlaces ∷ StartOutOfRange ∷ NotOpen
      ∷ TooManyNumbers ∷ NoLiteral ∷ NoFreePlace
      ∷ BudgetTooLarge ∷ NoSuchLine ∷ NoEmptyLine ∷ BufferTooShort ∷ [])
      ≡ told.refusal by.Session 1 0 ∷ told.refusal by.Session 2 0 ∷ told.refusal by.Session 3 0
      ∷ told.refusal by.Session 4 0
      ∷ told.refusal by.Session 5 0 ∷ told.refusal by.Book 6 0 ∷ told.refusal by.Book 7 0
      ∷ told.refusal by.Book 8 0
      ∷ told.refusal by.Session 17 0 ∷ told.refusal by.Session 18 0
      ∷ told.refusal by.Session 19 0 ∷ told.refusal by.Session 20 0 ∷ []
  pub load_refusals :
      map load_refusal
      (load.NotOpen ∷ load.Text TooLong ∷ load.Text (AboveVariables 12)
      ∷ load.Book (book.TooManyLiterals 5) ∷ load.Book (book.NoFreePlace 16) ∷ [])
      ≡ told.refusal by.Session 5 0 ∷ told.refusal by.Text 9 0 ∷ told.refusal by.Text 13 12
      ∷ told.refusal by.Book 6 5
      ∷ told.refusal by.Book 8 16 ∷ []
  -- what is read of the newest call: its refusal's number, and how a run ended
  pub no_place_added : newest_number (logged 1 too_many) ≡ 8
  pub no_place_loaded :
      newest_number (logged 1 (opens 2 0 ∷ loads (codes "p cnf 2 2 1 0 2 0") ∷ []))
      ≡ 8
  pub not_refused : newest_number (logged 1000 all_four) ≡ 0
  pub ended_none :
      newest_outcome (logged 1000 (all_four ++ (runs longest_first 7 ∷ [])))
      ≡ Some NoneMeets
  pub ended_spent :
      newest_outcome (logged 1000 (all_four ++ (runs longest_first 6 ∷ [])))
      ≡ Some Spent
  pub ended_full : newest_outcome (logged 8 (all_four ++ (runs longest_first 7 ∷ []))) ≡ Some Full
  pub ended_met : newest_outcome (logged 8 (opens 2 0 ∷ runs longest_first 0 ∷ [])) ≡ Some Met
  pub verdicts :
      map is_verdict (Met ∷ NoneMeets ∷ Spent ∷ Full ∷ [])
      ≡ true ∷ true ∷ false ∷ false ∷ []
  -- The tally's steps: those of a run; with those of the next under the same
  -- ranks; none after an accepted clause, a restart, or under other ranks.
  pub steps_run : (tally (logged 1000 (all_four ++ (runs longest_first 7 ∷ [])))).steps ≡ 7
  pub steps_on :
      (tally (logged 1000 (all_four ++ (runs longest_first 6 ∷ runs longest_first 1 ∷ [])))).steps
      ≡ 7
  pub steps_added :
      (tally (logged 1000 (all_four ++ (runs longest_first 7 ∷ adds (one ∷ not_one ∷ [])
      ∷ [])))).steps
      ≡ 0
  pub steps_restarted :
      (tally (logged 1000 (all_four ++ (runs longest_first 7 ∷ restarts 1 ∷ [])))).steps
      ≡ 0
  pub steps_other :
      (tally (logged 1000 (all_four ++ (runs longest_first 6 ∷ runs fewest_broken 0 ∷ [])))).steps
      ≡ 0
  pub steps_refused :
      (tally (logged 1000 (all_four ++ (runs longest_first 7 ∷ restarts 4 ∷ adds (pos 3 ∷ [])
      ∷ [])))).steps
      ≡ 7
