-- What a call comes to once its tests are passed. Assumes nothing.
use Rattle.std.proofs.Common.{◌≡◌, ℕ, ◌≤◌, Bool, true, false, cond, not, eqb, ltb, List, length, ℤ, Ok, Err, Option, Result, sym, ap, ◌∙◌}
use Rattle.std.specs.List.{list_all}
use Rattle.std.proofs.lemmas.Bool.{ne_eqb, le-ltb}
use Rattle.clauses.specs.Literals.{names}
use Rattle.guides.specs.Ranks.{Rank}
use Rattle.limits.specs.Limits.{most_literals}
use Rattle.text.specs.Reading.{reading}
use Rattle.answers.specs.declared.load.LoadRefusal.{LoadRefusal}
use Rattle.answers.specs.declared.run.Ran.{Ran}
use Rattle.answers.specs.declared.refusal.Refusal.{Refusal}
use Rattle.answers.specs.declared.refusal.Refusal.TheVariants.{NoLiteral}
use Rattle.histories.specs.States.{State, session_limits}
use Rattle.histories.specs.Runs.{run}
use Rattle.histories.specs.Calls.{Call, Answer, adds, added, loads, loaded, runs, ran, accepted, take_up, answering, run_told, does}

-- a number that is no literal is refused
accepts : (b : Bool) (x : Result (Option ℕ) Refusal × State) (s t : State) (r : Result (Option ℕ) Refusal) → cond b x (Err NoLiteral, s) ≡ (r, t)
    → cond (not b) (added (Err NoLiteral), s) (answering added x) ≡ (added r, t)
accepts true x s t r e = ap (answering added) e
accepts false x s t r e = ap (answering added) e

module _ (places : ℕ) (s t : State) (opened : s.n ≡ 0 → ⊥) where
  shut : eqb s.n 0 ≡ false
  shut = ne_eqb s.n 0 opened

  pub adds_do : (xs : List ℤ) (r : Result (Option ℕ) Refusal) → length xs ≤ most_literals
      → cond (list_all (names s.n) xs) (accepted places s xs) (Err NoLiteral, s) ≡ (r, t) → does session_limits places s (adds xs) ≡ (added r, t)
  adds_do xs r few e =
      let no_more : ltb most_literals (length xs) ≡ false = le-ltb most_literals (length xs) few in
      rw (shut, no_more) (accepts (list_all (names s.n) xs) (accepted places s xs) s t r e)

  pub loads_do : (text : List ℕ) (r : Result ℕ LoadRefusal) → take_up places 0 s (reading s.n text) ≡ (r, t) → does session_limits places s (loads text) ≡ (loaded r, t)
  loads_do text r e = rw shut (ap (answering loaded) e)

  pub runs_do : (rank : Rank) (budget : ℕ) (r : Ran) → budget ≤ 1000000 → run rank places budget s ≡ record { outcome = r.outcome; steps = r.steps; left = t }
      → does session_limits places s (runs rank budget) ≡ (ran (Ok r), t)
  runs_do rank budget r few e =
      let no_more : ltb 1000000 budget ≡ false = le-ltb 1000000 budget few in
      rw (shut, no_more) (ap (λ x. answering ran (run_told x)) e)

-- a call's equation over equal places and states
pub retold : (p q : ℕ) (s t u : State) (call : Call) (a b : Answer) → p ≡ q → s ≡ t → a ≡ b → does session_limits p s call ≡ (a, u) → does session_limits q t call ≡ (b, u)
retold p q s t u call a b e f g h = (λ i. does session_limits (sym e i) (sym f i) call) ∙ h ∙ (λ i. (g i, u))
