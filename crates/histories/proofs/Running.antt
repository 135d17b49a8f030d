-- What run does to tally and session. Assumes nothing.
use Rattle.std.proofs.Common.{◌≡◌, ◌⊎◌, ℕ, ◌+◌, ◌^◌, ◌<◌, ◌≤◌, Bool, true, false, cond, not, ltb, length, Some, None, Ok, Err, Option, inl, inr, ⊎_elim, sym, refl, ap, ◌∙◌, subst, arith, le_trans}
use Rattle.std.specs.List.{list_all}
use Rattle.std.proofs.lemmas.Bool.{false≢true}
use Rattle.answers.specs.declared.run.Outcome.{Outcome}
use Rattle.answers.specs.declared.run.Outcome.TheVariants.{Met, NoneMeets, Spent, Full}
use Rattle.answers.specs.declared.refusal.Refusal.TheVariants.{NotOpen, BudgetTooLarge}
use Rattle.clauses.specs.Literals.{names}
use Rattle.clauses.specs.Values.{assigned}
use Rattle.clauses.specs.Clauses.{within, meets, empty}
use Rattle.lines.proofs.Resolution.{empty-meets}
use Rattle.guides.specs.Ranks.{Rank}
use Rattle.clause_laws.proofs.Assignments.{all_met}
use Rattle.clause_laws.proofs.Found.{found}
use Rattle.lines.specs.Lines.{clauses_in}
use Rattle.histories.specs.States.{Limits, State, is_open}
use Rattle.histories.specs.Runs.{Run, due_move, run}
use Rattle.histories.specs.Calls.{runs, Answer, ran, does}
use Rattle.histories.specs.Tallies.{Tally, same_ranks, counted}
use Rattle.histories.specs.Guarantees.{meets_all, CanBeMet, is_verdict, is_one_of}
use Rattle.clause_laws.proofs.Books.{kept_facts}
use Rattle.histories.proofs.Moves.{due_serves}
use Rattle.histories.proofs.Potential.{potential, potential_agrees}
use Rattle.histories.proofs.Runs.{Told, run_told}
use Rattle.histories.proofs.Beside.{refuting, Slow, Beside, slow_start, Good, Step, refused_step, tested, open_some}

some_same : (o p : Outcome) → Some o ≡ Some p → o ≡ p
some_same o p e = cc

pub met_or_none : (o : Outcome) → is_verdict o ≡ true → (o ≡ Met) ⊎ (o ≡ NoneMeets)
met_or_none Met e = inl refl
met_or_none NoneMeets e = inr refl
met_or_none Spent e = absurd (false≢true e)
met_or_none Full e = absurd (false≢true e)

adds_up : (k st p q c : ℕ) → k + q < c → st + p ≤ q → k + st + p < c
adds_up k st p q c h g = omega arith

low : (k p c : ℕ) → k + p < c → k < c
low k p c h = omega arith

module _ (places : ℕ) (t : Tally) (s : State) (b : Beside places t s) (some : s.n ≡ 0 → ⊥) (rank : Rank) (budget : ℕ) where
  r : Run
  r = run rank places budget s

  told : Told rank places s r
  unfolding r
  told = run_told rank (due_move rank) (λ u fine no_empty. due_serves rank u fine no_empty) places budget s b.fine

  before : Bool → ℕ
  before same = cond same t.steps 0

  after_run : Tally
  after_run = counted (runs rank budget) (ran (Ok (record { outcome = r.outcome; steps = r.steps }))) t

  slow_before : (held : Option Rank) → Slow held s t.steps → (same : Bool) → same_ranks held rank ≡ same → Slow (Some rank) s (before same)
  unfolding before same_ranks
  slow_before None h true e = absurd (false≢true e)
  slow_before (Some held) h true e =
      ⊎_elim inl (λ k. inr (subst (λ p. t.steps + p < 6 ^ s.n) (potential_agrees held rank s e b.fine (le_trans b.fits (b.small some))) k)) h
  slow_before held h false e = slow_start (Some rank) s b.fine

  slow_after : (k : ℕ) → Slow (Some rank) s k → Slow (Some rank) r.left (k + r.steps)
  slow_after k h =
      ⊎_elim (λ z. inl (told.stays z))
      (λ z. ⊎_elim inl
      (λ y. inr (subst (λ m. k + r.steps + potential rank r.left < 6 ^ m) (sym told.onward.same_n)
      (adds_up k r.steps (potential rank r.left) (potential rank s) (6 ^ s.n) z y)))
      told.falls) h

  beside_after : Beside places after_run r.left
  unfolding after_run
  beside_after = record {
    same_n = b.same_n ∙ sym told.onward.same_n;
    fine = told.onward.fine;
    new = λ z. absurd (some (sym told.onward.same_n ∙ z));
    small = λ z. b.small some;
    fits = told.onward.fits b.fits;
    forth = λ a l m. told.onward.forth (assigned a) (b.forth a (l ∙ told.onward.same_n) m);
    back = λ a l m. b.back a (l ∙ told.onward.same_n) (told.onward.back (assigned a) m);
    origin = ap (list_all (is_one_of t.clauses)) told.onward.same_givens ∙ b.origin;
    named = subst (λ n. list_all (list_all (names n)) t.clauses ≡ true) (sym told.onward.same_n) b.named;
    slow = unfold before in slow_after (before (same_ranks t.ranks rank)) (slow_before t.ranks b.slow (same_ranks t.ranks rank) refl);
  }

  bears : r.outcome ≡ Met → (length r.left.assignment ≡ after_run.n) × (meets_all r.left.assignment after_run.clauses ≡ true)
  unfolding after_run
  bears e =
      let h = beside_after in
      let u = r.left in
      let f = kept_facts u.n u.lines h.fine.kept in
      let w : list_all (within (length u.assignment)) (clauses_in u.lines) ≡ true = subst (λ n. list_all (within n) (clauses_in u.lines) ≡ true) (sym h.fine.total) f.below in
      (h.fine.total ∙ sym h.same_n, h.back u.assignment h.fine.total (all_met u.assignment (clauses_in u.lines) w (told.if_met e)))

  refutes : r.outcome ≡ NoneMeets → CanBeMet after_run → ⊥
  unfolding after_run
  refutes e can =
      let h = beside_after in
      let d = found empty (clauses_in r.left.lines) (told.if_none e) in
      let m = h.forth can.0 (can.1 ∙ h.same_n) can.2 in
      false≢true (sym (empty-meets d.0 (assigned can.0) d.1) ∙ d.2 (meets (assigned can.0)) m)

  good_after : Good places (Some r.outcome) 0 after_run r.left
  unfolding after_run
  good_after = record {
    tells = λ o f v.
        let e = some_same r.outcome o f in
        (λ m. let h = bears (e ∙ m) in (r.left.assignment, h.0, h.1), λ can. ⊎_elim (λ m. m) (λ m. absurd (refutes (e ∙ m) can)) (met_or_none o v));
    bears = λ f. bears (some_same r.outcome Met f);
    derives = λ f. refuting places after_run r.left r.left.lines beside_after (told.if_none (some_same r.outcome NoneMeets f)) beside_after.origin beside_after.fine.kept;
    in_time = λ f.
        ⊎_elim (λ z. absurd (told.if_spent (some_same r.outcome Spent f) z))
        (λ z. subst (λ m. after_run.steps < 6 ^ m) (sym beside_after.same_n) (low after_run.steps (potential rank r.left) (6 ^ r.left.n) z))
        beside_after.slow;
    has_room = λ room. (λ f. told.if_full (some_same r.outcome Full f) (subst (λ n. 3 ^ n ≤ places) b.same_n room), λ q. omega arith);
  }

-- ---- run

pub step_run : (limits : Limits) (places : ℕ) (t : Tally) (s : State) (rank : Rank) (budget : ℕ) → Beside places t s → Step places t (runs rank budget) (does limits places s (runs rank budget))
unfolding r after_run
step_run limits places t s rank budget b =
    let P : Answer × State → Type 0 = λ d. Step places t (runs rank budget) d in
    tested P (not (is_open s)) (ran (Err NotOpen), s) _ (refused_step places t s (runs rank budget) (ran (Err NotOpen)) refl refl (λ e. omega arith) b)
    (λ is. tested P (ltb limits.steps budget) (ran (Err BudgetTooLarge), s) _ (refused_step places t s (runs rank budget) (ran (Err BudgetTooLarge)) refl refl (λ e. omega arith) b)
    (λ few. record { beside = beside_after places t s b (open_some s is) rank budget; good = good_after places t s b (open_some s is) rank budget }))
