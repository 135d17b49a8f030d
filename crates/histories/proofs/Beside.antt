-- The tally beside the session, and what a call does to both. Assumes nothing.
use Rattle.std.proofs.Common.{◌≡◌, ◌↔◌, ◌⊎◌, ℕ, ◌+◌, ◌^◌, ◌<◌, ◌≤◌, Bool, true, false, cond, not, eqb, List, length, Some, None, Option, inl, inr, sym, refl, ◌∙◌, subst, arith}
use Rattle.std.specs.List.{list_any, list_all}
use Rattle.std.proofs.lemmas.Bool.{not-true, not-false, eqb-true, eqb-false, cond_both}
use Rattle.answers.specs.declared.run.Outcome.{Outcome}
use Rattle.answers.specs.declared.run.Outcome.TheVariants.{Met, NoneMeets, Spent, Full}
use Rattle.clauses.specs.Values.{assigned}
use Rattle.clauses.specs.Literals.{names}
use Rattle.guides.specs.Ranks.{Rank}
use Rattle.words.specs.Bits.{width}
use Rattle.clauses.specs.Clauses.{empty}
use Rattle.lines.specs.Lines.{Candidate, clauses_in, givens_in, keeps_facts}
use Rattle.clause_laws.specs.Facts.{FourFacts}
use Rattle.clause_laws.proofs.Facts.{four_facts}
use Rattle.histories.specs.States.{State, unopened, is_open, WellFormed}
use Rattle.histories.specs.Calls.{Call, Answer}
use Rattle.histories.specs.Logs.{outcome, refusal_number}
use Rattle.histories.specs.Tallies.{Tally, empty_tally, counted}
use Rattle.histories.specs.Guarantees.{meets_all, CanBeMet, is_verdict, is_one_of, Refutes}
use Rattle.histories.proofs.Potential.{potential, start_low}
use Rattle.histories.proofs.Runs.{refuted, Settled, AllMet}

-- How far the stretch has come, if ranks are held: the next look gives a
-- verdict, or there is still as much to fall.
abbrev pub Slow : Option Rank → State → ℕ → Type 0
Slow None s k = Unit {0}
Slow (Some held) s k = Settled s ⊎ (k + potential held s < 6 ^ s.n)

pub record Beside (places : ℕ) (t : Tally) (s : State) : Type 0 where
  pub same_n : t.n ≡ s.n
  pub fine : WellFormed s
  pub new : s.n ≡ 0 → (t ≡ empty_tally) × (s ≡ unopened)
  pub small : (s.n ≡ 0 → ⊥) → places ≤ 65536
  pub fits : length s.lines ≤ places
  pub forth : (a : List Bool) → length a ≡ s.n → meets_all a t.clauses ≡ true → AllMet (assigned a) s
  pub back : (a : List Bool) → length a ≡ s.n → AllMet (assigned a) s → meets_all a t.clauses ≡ true
  pub origin : list_all (is_one_of t.clauses) (givens_in s.lines) ≡ true
  pub named : list_all (list_all (names s.n)) t.clauses ≡ true
  pub slow : Slow t.ranks s t.steps

pub beside_nothing : (places : ℕ) → Beside places empty_tally unopened
beside_nothing places = record {
  same_n = refl;
  fine = record { kept = refl; total = refl; narrow = omega arith };
  new = λ e. (refl, refl);
  small = λ h. absurd (h refl);
  fits = omega arith;
  forth = λ a e h. refl;
  back = λ a e h. refl;
  origin = refl;
  named = refl;
  slow = tt;
}

-- where a stretch begins
pub slow_start : (held : Option Rank) (s : State) → WellFormed s → Slow held s 0
slow_start None s fine = tt
slow_start (Some held) s fine = go (refuted s) refl
  where
    go : (b : Bool) → refuted s ≡ b → Settled s ⊎ (0 + potential held s < 6 ^ s.n)
    go true e = inl (inl e)
    go false e = let l = start_low held s fine e in inr (omega arith)

-- ---- what is promised of an answer

-- of the newest call's outcome, if it was a run, and of its refusal's number
pub record Good (places : ℕ) (ended : Option Outcome) (number : ℕ) (t : Tally) (s : State) : Type 0 where
  pub tells : (o : Outcome) → ended ≡ Some o → is_verdict o ≡ true → (o ≡ Met) ↔ CanBeMet t
  pub bears : ended ≡ Some Met → (length s.assignment ≡ t.n) × (meets_all s.assignment t.clauses ≡ true)
  pub derives : ended ≡ Some NoneMeets → Refutes t.n t.clauses s
  pub in_time : ended ≡ Some Spent → t.steps < 6 ^ t.n
  pub has_room : 3 ^ t.n ≤ places → (ended ≡ Some Full → ⊥) × (number ≡ 8 → ⊥)

no_outcome : (o : Outcome) → ◌≡◌ {A = Option Outcome} None (Some o) → ⊥
no_outcome o e = let z : ◌≡◌ {A = ℕ} 0 1 = cc in omega arith

-- an answer that is no run's, and no refusal 8
pub plain : (places : ℕ) (ended : Option Outcome) (number : ℕ) (t : Tally) (s : State) → ended ≡ None → (3 ^ t.n ≤ places → number ≡ 8 → ⊥) → Good places ended number t s
plain places ended number t s e h = record {
  tells = λ o f v. absurd (no_outcome o (sym e ∙ f));
  bears = λ f. absurd (no_outcome Met (sym e ∙ f));
  derives = λ f. absurd (no_outcome NoneMeets (sym e ∙ f));
  in_time = λ f. absurd (no_outcome Spent (sym e ∙ f));
  has_room = λ r. (λ f. no_outcome Full (sym e ∙ f), h r);
}

-- ---- what a call does to both

pub record Step (places : ℕ) (t : Tally) (call : Call) (d : Answer × State) : Type 0 where
  pub beside : Beside places (counted call d.0 t) d.1
  pub good : Good places (outcome d.0) (refusal_number d.0) (counted call d.0 t) d.1

-- a refusal other than 8 leaves both as they were
pub refused_step : (places : ℕ) (t : Tally) (s : State) (call : Call) (a : Answer) → counted call a t ≡ t → outcome a ≡ None → (refusal_number a ≡ 8 → ⊥)
    → Beside places t s → Step places t call (a, s)
refused_step places t s call a same silent other b = record {
  beside = subst (λ u. Beside places u s) (sym same) b;
  good = plain places (outcome a) (refusal_number a) (counted call a t) s silent (λ r. other);
}

-- a test that fails leaves its fact
pub tested : (P : Answer × State → Type 0) (b : Bool) (x y : Answer × State) → P x → (b ≡ false → P y) → P (cond b x y)
tested P b x y p q = cond_both b x y P (λ _. p) q

pub open_some : (s : State) → not (is_open s) ≡ false → s.n ≡ 0 → ⊥
open_some s e = eqb-false s.n 0 (not-true (eqb s.n 0) (not-false (is_open s) e))

pub unopened_none : (s : State) → is_open s ≡ false → s.n ≡ 0
unopened_none s e = eqb-true s.n 0 (not-false (eqb s.n 0) e)

-- ---- derivations

-- An empty line, in lines that keep the facts and are given only as accepted
-- clauses, refutes these.
pub refuting : (places : ℕ) (t : Tally) (s : State) (ls : List Candidate) → Beside places t s → list_any empty (clauses_in ls) ≡ true
    → list_all (is_one_of t.clauses) (givens_in ls) ≡ true → keeps_facts s.n ls ≡ true → Refutes t.n t.clauses (record s { lines = ls })
refuting places t s ls b ends begins kept = record {
  few = subst (λ n. n ≤ width) (sym b.same_n) b.fine.narrow;
  named = subst (λ n. list_all (list_all (names n)) t.clauses ≡ true) (sym b.same_n) b.named;
  ends = ends;
  begins = begins;
  follows = subst (λ n. FourFacts n ls) (sym b.same_n) ((four_facts s.n ls).0 kept);
}
