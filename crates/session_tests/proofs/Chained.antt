-- Three calls that nothing refuses, one after another. Assumes nothing.
use Rattle.std.proofs.Common.{◌≡◌, refl, ℕ, true, List, [], ◌∷◌, length, ℤ, Ok, Some, Option, sym, ap, ◌∙◌, subst}
use Rattle.std.proofs.lemmas.Bool.{and_parts}
use Rattle.clauses.specs.Values.{assigned, truths}
use Rattle.clauses.specs.Literals.{met}
use Rattle.clauses.proofs.Listed.{length_truths}
use Rattle.guides.specs.Ranks.{Rank}
use Rattle.answers.specs.declared.run.Outcome.TheVariants.{Met}
use Rattle.answers.specs.declared.run.Ran.{Ran}
use Rattle.histories.specs.States.{State, session_limits, unopened}
use Rattle.histories.specs.Calls.{Answer, opens, adds, runs, opened, added, ran, does}
use Rattle.histories.specs.Logs.{Log, Reached}
use Rattle.histories.specs.Guarantees.{Guaranteed}
use Rattle.session.proofs.Calls.{retold}

module _ (n start budget : ℕ) (xs : List ℤ) (line : Option ℕ) (rank : Rank) where
  -- the history of the first two
  abbrev pub before : Log
  before = (adds xs, added (Ok line)) ∷ (opens n start, opened (Ok tt)) ∷ []

  pub reached : (p q r : ℕ) (s t u : State) (x y : Answer) → s ≡ unopened → p ≡ r → q ≡ r → x ≡ opened (Ok tt) → y ≡ added (Ok line)
      → does session_limits p s (opens n start) ≡ (x, t) → does session_limits q t (adds xs) ≡ (y, u) → Reached session_limits r before u
  reached p q r s t u x y made e f a b at_open at_add = (t, (s, made, retold p r s s t (opens n start) x _ e refl a at_open), retold q r t t u (adds xs) y _ f refl b at_add)

  -- what is guaranteed of the third, where it ends met
  pub meets : (places : ℕ) (w : State) (r : Ran) (word : ℕ) (z : Answer) → z ≡ ran (Ok r) → r.outcome ≡ Met
      → Guaranteed session_limits places ((runs rank budget, z) ∷ before) w → truths w.n word ≡ w.assignment → met (assigned (truths n word)) xs ≡ true
  meets places w r word z is e g told =
      let h = (subst (λ (a : Answer). Guaranteed session_limits places ((runs rank budget, a) ∷ before) w) is g).bears (ap Some e) in
      let same_n : w.n ≡ n = sym (length_truths w.n word) ∙ ap length told ∙ h.0 in
      let all = (and_parts (met (assigned w.assignment) xs) true h.1).0 in
      subst (λ (m : ℕ). met (assigned (truths m word)) xs ≡ true) same_n (subst (λ a. met (assigned a) xs ≡ true) (sym told) all)
