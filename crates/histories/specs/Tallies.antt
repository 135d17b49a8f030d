-- The tally, kept from the calls and their answers alone. Assumes nothing.
use Rattle.std.specs.Prelude.{ℕ, zero, suc, ◌+◌, ◌-◌, Bool, false, cond, List, [], ◌∷◌, ◌++◌, take, ℤ, Some, None, Ok, Err, Option, Result, ◌==◌}
use Rattle.std.specs.List.{list_all, range_with_len}
use Rattle.answers.specs.declared.load.LoadRefusal.{LoadRefusal}
use Rattle.text.specs.Reading.{reading, clauses_of}
use Rattle.limits.specs.Limits.{lengths, most_lines}
use Rattle.guides.specs.Rows.{Counts}
use Rattle.guides.specs.Ranks.{Rank}
use Rattle.histories.specs.Calls.{Call, opens, adds, loads, restarts, runs, Answer, opened, added, loaded, restarted, ran}
use Rattle.histories.specs.Logs.{Log}

-- n, the clauses accepted, as they were given, the steps since the last change
-- of these, of the start or of the guide, and the ranks of the last run
pub record Tally : Type 0 where
  pub n : ℕ
  pub clauses : List (List ℤ)
  pub steps : ℕ
  pub ranks : Option Rank

-- beside a session just made
abbrev pub empty_tally : Tally
empty_tally = record { n = 0; clauses = []; steps = 0; ranks = None }

-- the test passes at all lists of k counts that come to at most b
unfoldable pub all_rows : ℕ → ℕ → (Counts → Bool) → Bool
all_rows zero b test = test []
all_rows (suc k) b test =
    list_all (λ x. all_rows k (b - x) (λ xs. test (x ∷ xs))) (range_with_len 0 (suc b))

-- The ranks that are held, if any are, are those of this guide: on every row
-- that a session can come to, a count for each length from 0 to 64.
unfoldable pub same_ranks : Option Rank → Rank → Bool
same_ranks None rank = false
same_ranks (Some held) rank = all_rows lengths most_lines (λ cs. held cs == rank cs)

-- each clause appended sets the steps to 0
abbrev pub appended : Tally → List (List ℤ) → Tally
appended t [] = t
appended t (xs ∷ xss) = record t { clauses = t.clauses ++ (xs ∷ xss); steps = 0 }

-- how many clauses were taken
abbrev pub taken_of : Result ℕ LoadRefusal → ℕ
taken_of (Ok k) = k
taken_of (Err r) = r.taken

-- Of calls that are not refused: open sets n, add appends its clause, restart
-- sets the steps to 0; run sets them to 0 where its ranks are not those held,
-- and adds its own. Load, also refused, appends what was taken of its text's
-- clauses. Nothing else changes the tally.
abbrev pub counted : Call → Answer → Tally → Tally
counted (opens n start) (opened (Ok done)) t = record t { n = n }
counted (adds xs) (added (Ok line)) t = appended t (xs ∷ [])
counted (loads text) (loaded r) t = appended t (take (taken_of r) (clauses_of (reading t.n text)))
counted (restarts start) (restarted (Ok done)) t = record t { steps = 0 }
counted (runs rank budget) (ran (Ok r)) t =
    record t { steps = cond (same_ranks t.ranks rank) t.steps 0 + r.steps; ranks = Some rank }
counted call answer t = t

abbrev pub tally : Log → Tally
tally [] = empty_tally
tally (e ∷ log) = counted e.0 e.1 (tally log)
