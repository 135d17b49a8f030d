-- What each call of a list does to a session, and what it is answered. Assumes
-- nothing.
use Rattle.std.specs.Prelude.{◌≡◌, ℕ, ◌-◌, ◌^◌, ◌<◌, Bool, true, false, List, length, replicate, sum, Ok, Err, Option, Result}
use Rattle.text.specs.declared.faults.TextFault.{TextFault}
use Rattle.text.specs.Problem.{head_of}
use Rattle.text.specs.Refusals.{text_refusal, number_of, place_of, by_of}
use Rattle.clauses.specs.Values.{truths}
use Rattle.lines.specs.declared.line.Line.{Line}
use Rattle.guides.specs.Ranks.{Rank, longest_first, fewest_broken}
use Rattle.answers.specs.declared.load.LoadRefusal.{LoadRefusal}
use Rattle.answers.specs.declared.refusal.Refusal.{Refusal}
use Rattle.answers.specs.declared.report.Report.{Report}
use Rattle.answers.specs.declared.run.Ran.{Ran}
use Rattle.answers.specs.Refusals.{load_refusal}
use Rattle.histories.specs.States.{State}
use Rattle.histories.specs.Calls as calls
use Rattle.session.specs.declared.session.Session.{Session}
use Rattle.session.specs.Sessions.{state, line_of, line_told, Guarantees}
use Rattle.session.specs.Pages.{sheet_told, report_told}
use Rattle.protocol.specs.declared.call.GuideName.{GuideName}
use Rattle.protocol.specs.declared.call.GuideName.TheVariants.{Longest, Fewest, Constant, RevFewest}
use Rattle.protocol.specs.Commands.{Command, makes, opens, adds, loads, heads, restarts, runs, shows, writes_sheet, writes_report, tells_state}
use Rattle.protocol.specs.Said.{Said, done, refused, stands, taken, faulty, headed, head_faulty, ended, line, said_written, error, number}
use Rattle.protocol.specs.Said as says

-- the ranks of the guide of this name
abbrev pub rank_of : GuideName → Rank
rank_of Longest = longest_first
rank_of Fewest = fewest_broken
rank_of Constant = λ cs. 0
rank_of RevFewest = λ cs. 65536 - sum cs

-- ---- a call's own result as an answer

abbrev pub said_done : Result (Unit {0}) Refusal → Said
said_done (Ok u) = done
said_done (Err r) = refused (number r)

abbrev pub said_added : Result (Option ℕ) Refusal → Said
said_added (Ok k) = stands k
said_added (Err r) = refused (number r)

abbrev pub said_loaded : Result ℕ LoadRefusal → Said
said_loaded (Ok k) = taken k
said_loaded (Err r) =
    faulty (by_of (load_refusal r.fault)) (number_of (load_refusal r.fault))
    (place_of (load_refusal r.fault)) r.taken

abbrev pub said_headed : Result (ℕ × ℕ) TextFault → Said
said_headed (Ok h) = headed h.0 h.1
said_headed (Err f) = head_faulty (number_of (text_refusal f)) (place_of (text_refusal f))

abbrev pub said_ran : Result Ran Refusal → Said
said_ran (Ok r) = ended r.outcome r.steps
said_ran (Err r) = refused (number r)

abbrev pub said_line : Result Line Refusal → Said
said_line (Ok l) = line l.origin l.clause.pos l.clause.neg
said_line (Err r) = refused (number r)

-- a buffer that nothing has written into: each byte is aa
abbrev pub blank : ℕ → List ℕ
blank size = replicate size 170

abbrev pub told_page : Result ℕ Refusal × List ℕ → Said
told_page w = said_written w.0 w.1

abbrev pub said_sheet : State → ℕ → Said
said_sheet s size = told_page (sheet_told s (blank size))

abbrev pub said_report : State → Report → ℕ → Said
said_report s r size = told_page (report_told r s (blank size))

-- ---- a call

-- Each call is answered what the session answers, and leaves what the session
-- promises; those that only read leave it as it was. `new` is no call of a
-- session.
abbrev pub Plays : Session → Command → Said → Session → Type 0
Plays was (makes places) a is = (a ≡ error) × (is ≡ was)
Plays was (opens n start) a is =
    (r : Result (Unit {0}) Refusal) × Guarantees was (calls.opens n start) (calls.opened r) is
    × (a ≡ said_done r)
Plays was (adds xs) a is =
    (r : Result (Option ℕ) Refusal) × Guarantees was (calls.adds xs) (calls.added r) is
    × (a ≡ said_added r)
Plays was (loads text) a is =
    (r : Result ℕ LoadRefusal) × Guarantees was (calls.loads text) (calls.loaded r) is
    × (a ≡ said_loaded r)
Plays was (heads text) a is = (a ≡ said_headed (head_of text)) × (is ≡ was)
Plays was (restarts start) a is =
    (r : Result (Unit {0}) Refusal) × Guarantees was (calls.restarts start) (calls.restarted r) is
    × (a ≡ said_done r)
Plays was (runs guide budget) a is =
    (r : Result Ran Refusal) × Guarantees was (calls.runs (rank_of guide) budget) (calls.ran r) is
    × (a ≡ said_ran r)
Plays was (shows k) a is =
    (r : Result Line Refusal) × (line_told r ≡ line_of (state was) k) × (a ≡ said_line r)
    × (is ≡ was)
Plays was (writes_sheet size) a is = (a ≡ said_sheet (state was) size) × (is ≡ was)
Plays was (writes_report r size) a is = (a ≡ said_report (state was) r size) × (is ≡ was)
Plays was tells_state a is =
    (word : ℕ) × (truths (state was).n word ≡ (state was).assignment) × (word < 2 ^ (state was).n)
    × (a ≡ says.state (length (state was).lines) (state was).n word) × (is ≡ was)

-- a call that no session is needed for
abbrev pub is_head : Command → Bool
is_head (makes places) = false
is_head (opens n start) = false
is_head (adds xs) = false
is_head (loads text) = false
is_head (heads text) = true
is_head (restarts start) = false
is_head (runs guide budget) = false
is_head (shows k) = false
is_head (writes_sheet size) = false
is_head (writes_report r size) = false
is_head tells_state = false

-- `false`: no session was made yet, the answer is an error, and nothing changes
abbrev pub Played : Bool → Session → Command → Said → Session → Type 0
Played true was c a is = Plays was c a is
Played false was c a is = (a ≡ error) × (is ≡ was)
