-- What the sheet of a session with an empty line shows, and that a report fits.
-- Assumes nothing.
use Rattle.std.proofs.Common.{◌≡◌, ℕ, ◌≤◌, List, length, true, Result, ltb, sym, ap, ◌∙◌, subst, arith}
use Rattle.std.specs.Prelude.{is_ok, IsOk}
use Rattle.std.proofs.lemmas.Bool.{cond-false, le-ltb}
use Rattle.clauses.specs.Values.{truths}
use Rattle.clauses.proofs.Listed.{length_truths}
use Rattle.answers.specs.declared.refusal.Refusal.{Refusal}
use Rattle.answers.specs.declared.report.Report.{Report}
use Rattle.writing.specs.declared.written.TooShort.{TooShort}
use Rattle.writing.specs.Items.{Item, bytes}
use Rattle.pages.specs.Reports.{report_items, most_report}
use Rattle.pages.proofs.Short.{report_short}
use Rattle.std.specs.List.{list_any, list_all}
use Rattle.clauses.specs.Clauses.{empty}
use Rattle.lines.specs.declared.line.Line.{Line}
use Rattle.lines.specs.Lines.{clause_of, clauses, clauses_in}
use Rattle.lines.proofs.Stated.{any-clauses}
use Rattle.pages.specs.Says.{sheet}
use Rattle.pages.proofs.Arranged.{sheet_book}
use Rattle.histories.specs.States.{session_limits}
use Rattle.histories.specs.Tallies.{tally}
use Rattle.histories.specs.Guarantees.{is_one_of}
use Rattle.histories.proofs.Beside.{refuting}
use Rattle.histories.proofs.Histories.{reached_beside, allowed}
use Rattle.session.specs.declared.session.Session.{Session}
use Rattle.session.specs.Sessions.{state, places}
use Rattle.session.specs.Pages.{stored, refusing, SheetRefutes}

pub any_line : (ls : List Line) → list_any (λ l. empty (clause_of l)) ls ≡ list_any empty (clauses ls)
any_line ls = sym (any-clauses empty ls)

pub sheet_refutes : (s : Session) → list_any empty (clauses_in (state s).lines) ≡ true → SheetRefutes s
sheet_refutes s e log h =
    let u = state s in
    let b = reached_beside session_limits allowed (places s) log u h in
    let k = sheet_book u.n u.lines b.fine.kept in
    refuting (places s) (tally log) u (sheet u.lines) b (k.2 ∙ e) (ap (list_all (is_one_of (tally log).clauses)) k.1 ∙ b.origin) k.0

-- ---- reports

-- a page that is no longer than the buffer is written
stored_whole : (is : List Item) (b : List ℕ) → length (bytes is) ≤ length b → is_ok (stored is b).0 ≡ true
stored_whole is b h = ap (λ (r : Result ℕ TooShort × List ℕ). is_ok (refusing r.0)) (cond-false (ltb (length b) (length (bytes is))) _ _ (le-ltb (length b) (length (bytes is)) h))

pub report_fits : (s : Session) (r : Report) (b new : List ℕ) (result : Result ℕ Refusal) → stored (report_items r (truths s.n s.assignment.word)) b ≡ (result, new)
    → most_report ≤ length b → IsOk result
report_fits s r b new result e h =
    let a = truths s.n s.assignment.word in
    let wide = s.wide in
    let size = length_truths s.n s.assignment.word in
    let few = report_short r a (omega arith) in
    subst (λ (d : Result ℕ Refusal × List ℕ). IsOk d.0) e (stored_whole (report_items r a) b (omega arith))
