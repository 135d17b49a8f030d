-- Worked sheets and reports. Assumes nothing.
use Rattle.std.specs.Prelude.{◌≡◌, ℕ, true, false, List, [], ◌∷◌, ◌++◌, codes, take, replicate, Ok, Err}
use Rattle.answers.specs.declared.run.Outcome.TheVariants.{Met, NoneMeets, Spent, Full}
use Rattle.answers.specs.declared.report.Report.TheVariants.{Ended, Refused}
use Rattle.answers.specs.declared.refusal.Refusal.TheVariants.{NotOpen, NoEmptyLine, BufferTooShort}
use Rattle.text_laws.specs.Examples.{lined}
use Rattle.lines.specs.Lines.{given_clause, widened}
use Rattle.histories.specs.States.{State, unopened}
use Rattle.histories.specs.Worked.{one, not_one, two, clause, nine}
use Rattle.session.specs.Pages.{sheet_told, report_told}

-- so many bytes that nothing has written
abbrev pub blank : ℕ → List ℕ
blank k = replicate k 170

-- the nine lines after seven steps, and 1 false, 2 true
abbrev pub refuted_state : State
refuted_state = record { n = 2; lines = nine; assignment = false ∷ true ∷ [] }

-- a last line that is empty: the one before it ends with LF
abbrev pub nine_sheet : List ℕ
nine_sheet =
    lined (codes "2" ∷ codes "4" ∷ codes "1 2 0" ∷ codes "-1 2 0" ∷ codes "1 -2 0" ∷ codes "-1 -2 0"
    ∷ codes "5" ∷ codes "1 1 2" ∷ codes "1 3 4" ∷ codes "2 3 1" ∷ codes "2 4 2" ∷ codes "2 6 5"
    ∷ [] ∷ [])

-- a widened line among given ones, of which the last is empty
abbrev pub mixed_state : State
mixed_state = record {
  n = 3;
  lines =
      given_clause (clause (not_one ∷ [])) ∷ widened 1 (clause (not_one ∷ two ∷ []))
      ∷ given_clause (clause (one ∷ two ∷ [])) ∷ given_clause (clause []) ∷ [];
  assignment = true ∷ true ∷ false ∷ [];
}

abbrev pub mixed_sheet : List ℕ
mixed_sheet =
    lined (codes "3" ∷ codes "3" ∷ codes "-1 0" ∷ codes "1 2 0" ∷ codes "0" ∷ codes "1"
    ∷ codes "0 1 -1 2 0" ∷ [] ∷ [])

abbrev pub satisfiable : List ℕ
satisfiable = lined (codes "s SATISFIABLE" ∷ codes "v -1 2 0" ∷ [] ∷ [])

pub record WorkedPages : Type 0 where
  -- the sheet of the run on all four clauses of two variables: 64 bytes, and the
  -- bytes after them stay; 63 are refused, and all stay
  pub fits : sheet_told refuted_state (blank 64) ≡ (Ok 64, nine_sheet)
  pub stays : sheet_told refuted_state (blank 67) ≡ (Ok 64, nine_sheet ++ blank 3)
  pub short : sheet_told refuted_state (blank 63) ≡ (Err BufferTooShort, blank 63)
  -- given lines first, a widened one with its literals
  pub mixed : sheet_told mixed_state (blank 30) ≡ (Ok 30, mixed_sheet)
  -- no line is empty, also where the buffer is too short; unopened
  pub no_empty :
      sheet_told (record refuted_state { lines = take 8 nine }) (blank 9)
      ≡ (Err NoEmptyLine, blank 9)
  pub not_open : sheet_told unopened (blank 0) ≡ (Err NotOpen, blank 0)
  -- each report, and one that does not fit
  pub met : report_told (Ended Met) refuted_state (blank 24) ≡ (Ok 23, satisfiable ++ blank 1)
  pub met_unopened :
      report_told (Ended Met) unopened (blank 18)
      ≡ (Ok 18, lined (codes "s SATISFIABLE" ∷ codes "v 0" ∷ [] ∷ []))
  pub none :
      report_told (Ended NoneMeets) refuted_state (blank 16)
      ≡ (Ok 16, lined (codes "s UNSATISFIABLE" ∷ [] ∷ []))
  pub spent :
      report_told (Ended Spent) refuted_state (blank 10)
      ≡ (Ok 10, lined (codes "s UNKNOWN" ∷ [] ∷ []))
  pub full :
      report_told (Ended Full) refuted_state (blank 10)
      ≡ (Ok 10, lined (codes "s UNKNOWN" ∷ [] ∷ []))
  pub spent_short :
      report_told (Ended Spent) refuted_state (blank 9) ≡ (Err BufferTooShort, blank 9)
  pub refused :
      report_told (Refused 13 12) refuted_state (blank 19)
      ≡ (Ok 19, lined (codes "c refused 13 at 12" ∷ [] ∷ []))
