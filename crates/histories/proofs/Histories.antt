-- The guarantee, of every history. Assumes nothing.
use Rattle.std.proofs.Common.{◌≡◌, ℕ, true, [], ◌∷◌, None, inl, inr, ⊎_elim, sym, refl, ◌∙◌, subst, arith, List, map, ap}
use Rattle.answers.specs.declared.run.Outcome.{Outcome}
use Rattle.answers.specs.declared.run.Outcome.TheVariants.{Met, NoneMeets}
use Rattle.histories.specs.States.{Limits, Allowed, State, session_limits}
use Rattle.histories.specs.Calls.{Call, opens, adds, loads, restarts, runs, Answer, does}
use Rattle.histories.specs.Logs.{Log, Reached, played, newest_outcome, newest_number}
use Rattle.histories.specs.Tallies.{Tally, empty_tally, tally}
use Rattle.histories.specs.Guarantees.{CanBeMet, is_verdict, Agree, EveryHistory, Continues}
use Rattle.histories.specs.Runs.{due_move}
use Rattle.histories.specs.Laws.{AHistoryIsItsCalls, HistoriesLeaveWellFormed, SameMovesSameRuns}
use Rattle.histories.proofs.Moves.{due_serves}
use Rattle.histories.proofs.Runs.{same_run}
use Rattle.histories.proofs.Beside.{Beside, beside_nothing, Good, plain, Step}
use Rattle.histories.proofs.Adding.{step_open, step_add, step_restart}
use Rattle.histories.proofs.Loading.{step_load}
use Rattle.histories.proofs.Running.{step_run, met_or_none}

pub step_any : (under : Limits) → Allowed under → (places : ℕ) (t : Tally) (s : State) (call : Call) → Beside places t s → Step places t call (does under places s call)
step_any under allowed places t s (opens n start) b = step_open under allowed places t s n start b
step_any under allowed places t s (adds xs) b = step_add under places t s xs b
step_any under allowed places t s (loads text) b = step_load under places t s text b
step_any under allowed places t s (restarts start) b = step_restart under places t s start b
step_any under allowed places t s (runs rank budget) b = step_run under places t s rank budget b

-- the tally stands beside the session, after every history
pub reached_beside : (under : Limits) → Allowed under → (places : ℕ) (log : Log) (s : State) → Reached under places log s → Beside places (tally log) s
reached_beside under allowed places [] s e = subst (λ u. Beside places empty_tally u) (sym e) (beside_nothing places)
reached_beside under allowed places (e ∷ log) s h =
    let b = reached_beside under allowed places log h.0 h.1 in
    let step = subst (λ d. Step places (tally log) e.0 d) h.2 (step_any under allowed places (tally log) h.0 e.0 b) in
    step.beside

-- and all is good of the newest call
pub reached_good : (under : Limits) → Allowed under → (places : ℕ) (log : Log) (s : State) → Reached under places log s
    → Good places (newest_outcome log) (newest_number log) (tally log) s
reached_good under allowed places [] s e = plain places None 0 empty_tally s refl (λ r z. omega arith)
reached_good under allowed places (e ∷ log) s h =
    let b = reached_beside under allowed places log h.0 h.1 in
    let step = subst (λ d. Step places (tally log) e.0 d) h.2 (step_any under allowed places (tally log) h.0 e.0 b) in
    step.good

-- ---- two verdicts

met_not_none : Met ≡ NoneMeets → ⊥
met_not_none e = let z : ◌≡◌ {A = ℕ} 0 1 = cc in omega arith

-- one verdict, told by whether the clauses can be met
cannot : (o : Outcome) (t : Tally) → (CanBeMet t → o ≡ Met) → o ≡ NoneMeets → CanBeMet t → ⊥
cannot o t h e can = met_not_none (sym (h can) ∙ e)

none_if_not : (o : Outcome) (t : Tally) → is_verdict o ≡ true → (o ≡ Met → CanBeMet t) → (CanBeMet t → ⊥) → o ≡ NoneMeets
none_if_not o t v h no_way = ⊎_elim (λ e. absurd (no_way (h e))) (λ e. e) (met_or_none o v)

pub verdicts_agree : (o o' : Outcome) (t t' : Tally) → is_verdict o ≡ true → is_verdict o' ≡ true
    → (o ≡ Met → CanBeMet t) → (CanBeMet t → o ≡ Met) → (o' ≡ Met → CanBeMet t') → (CanBeMet t' → o' ≡ Met) → Agree o t o' t'
verdicts_agree o o' t t' v v' f g f' g' = (
  λ e. ⊎_elim (λ m. inl (f m, f' (sym e ∙ m))) (λ m. inr (cannot o t g m, cannot o' t' g' (sym e ∙ m))) (met_or_none o v),
  λ h. ⊎_elim (λ can. g can.0 ∙ sym (g' can.1)) (λ not_so. none_if_not o t v f not_so.0 ∙ sym (none_if_not o' t' v' f' not_so.1)) h,
)

-- ---- every history

pub every_history : EveryHistory
every_history under allowed places log s h =
    let good = reached_good under allowed places log s h in
    record {
      set_out = h;
      tells = λ o v. good.tells o v.0 v.1;
      bears = good.bears;
      derives = good.derives;
      agrees = λ o v other allowed' places' log' s' o' h' v'.
          let good' = reached_good other allowed' places' log' s' h' in
          let p = good.tells o v.0 v.1 in
          let q = good'.tells o' v'.0 v'.1 in
          verdicts_agree o o' (tally log) (tally log') v.1 v'.1 p.0 p.1 q.0 q.1;
      ends_in_time = good.in_time;
      has_room = good.has_room;
    }

-- What a call of the code's session has to show: that its answer and the state
-- after it are those set out.
pub kept : (under : Limits) → Allowed under → (places : ℕ) (before : State) (call : Call) (answer : Answer) (after : State)
    → does under places before call ≡ (answer, after) → Continues under places before call answer after
kept under allowed places before call answer after e = record {
  does_so = e;
  guaranteed = λ log h. every_history under allowed places ((call, answer) ∷ log) after (before, h, e);
}

pub allowed : Allowed session_limits
allowed = record { variables = omega arith; places = omega arith }

pub continues : (places : ℕ) (before : State) (call : Call) (answer : Answer) (after : State)
    → does session_limits places before call ≡ (answer, after) → Continues session_limits places before call answer after
continues places before call answer after e = kept session_limits allowed places before call answer after e

-- ---- laws of histories

played_reached : (l : Limits) (places : ℕ) (calls : List Call) → Reached l places (played l places calls).0 (played l places calls).1
played_reached l places [] = refl
played_reached l places (call ∷ calls) = ((played l places calls).1, played_reached l places calls, refl)

reached_played : (l : Limits) (places : ℕ) (log : Log) (s : State) → Reached l places log s → played l places (map (λ e. e.0) log) ≡ (log, s)
reached_played l places [] s e = ap (λ u. ([], u)) (sym e)
reached_played l places (e ∷ log) s h =
    ap (λ (before : Log × State). let d : Answer × State = does l places before.1 e.0 in ((e.0, d.0) ∷ before.0, d.1)) (reached_played l places log h.0 h.1)
    ∙ ap (λ (d : Answer × State). ((e.0, d.0) ∷ log, d.1)) h.2

pub history_is_calls : AHistoryIsItsCalls
history_is_calls l places = (played_reached l places, reached_played l places)

pub leave_well_formed : HistoriesLeaveWellFormed
leave_well_formed l few places log s h =
    let b = reached_beside l few places log s h in
    (b.fine, b.fits, b.small)

pub same_moves_same_runs : SameMovesSameRuns
same_moves_same_runs rank due places alike budget s fine few =
    same_run rank places due (due_move rank) (λ u f no_empty. due_serves rank u f no_empty) alike budget s fine few
