-- One more neighbour weighed, and all of them. Assumes nothing.
use Rattle.std.proofs.Common.{◌≡◌, ℕ, ◌+◌, ◌-◌, ◌<◌, ◌≤◌, Bool, List, length, Some, None, Option, refl, sym, ap, ◌∙◌, subst, arith}
use Rattle.std.specs.Prelude.{MatchOption}
use Rattle.std.proofs.lemmas.Bool.Decides.{nat_tests}
use Rattle.words.specs.Bits.{first}
use Rattle.clauses.specs.Clauses.{Signs}
use Rattle.guides.specs.declared.row.Row.{Row}
use Rattle.guides.specs.Rows.{Counts}
use Rattle.guides.specs.Ranks.{Rank}
use Rattle.steps.specs.Rows.{row}
use Rattle.steps.specs.Flips.{ranked_flipped, flips, NoneBetter, Best}
use Rattle.steps.proofs.Flips.{SoFar, beaten, near, here, so_far_keeps, so_far_takes, best_of, first_is}
use Rattle.weighing.specs.Gains.{Gains}

module _ (rank : Rank) (cs : List Signs) (a : List Bool) where
  -- the value to beat is the rank of the row to beat
  beaten_rank : (o : Option ℕ) → beaten (here rank cs a) (near rank cs a) o ≡ rank (beaten (row cs a) (ranked_flipped cs a) o)
  beaten_rank None = refl
  beaten_rank (Some u) = refl

  -- what is known before neighbour v is weighed, and after
  abbrev pub Weighed : ℕ → Option ℕ → Counts → Type 0
  Weighed v o best = SoFar (near rank cs a) (here rank cs a) v o × (best ≡ beaten (row cs a) (ranked_flipped cs a) o)

  pub kept : (v : ℕ) (o : Option ℕ) (best : Counts) → 0 < v → Weighed (v - 1) o best → Gains rank (ranked_flipped cs a v) best None → SoFar (near rank cs a) (here rank cs a) v o
  kept v o best h k g =
      let e : v - 1 + 1 ≡ v = omega arith in
      let l : rank best ≤ rank (ranked_flipped cs a v) = grind (arith, nat_tests) in
      let f : rank best ≡ beaten (here rank cs a) (near rank cs a) o = ap rank k.1 ∙ sym (beaten_rank o) in
      let m : beaten (here rank cs a) (near rank cs a) o ≤ near rank cs a (v - 1 + 1) = rw (e, ← f) l in
      subst (λ n. SoFar (near rank cs a) (here rank cs a) n o) e (so_far_keeps (near rank cs a) (here rank cs a) (v - 1) o k.0 m)

  pub taken : (v : ℕ) (o : Option ℕ) (best : Counts) (r : Row) → 0 < v → Weighed (v - 1) o best → Gains rank (ranked_flipped cs a v) best (Some r) → SoFar (near rank cs a) (here rank cs a) v (Some v)
  taken v o best r h k g =
      let e : v - 1 + 1 ≡ v = omega arith in
      let t = g.1 in
      let l : rank (ranked_flipped cs a v) < rank best = grind (arith, nat_tests) in
      let f : rank best ≡ beaten (here rank cs a) (near rank cs a) o = ap rank k.1 ∙ sym (beaten_rank o) in
      let m : near rank cs a (v - 1 + 1) < beaten (here rank cs a) (near rank cs a) o = rw (e, ← f) l in
      subst (λ n. SoFar (near rank cs a) (here rank cs a) n (Some n)) e (so_far_takes (near rank cs a) (here rank cs a) (v - 1) o k.0 m)

  pub all_weighed : (v : ℕ) (o : Option ℕ) → v ≡ length a → SoFar (near rank cs a) (here rank cs a) v o → o ≡ first (flips rank cs a)
  all_weighed v o e h = sym (first_is rank cs a o (subst (λ n. SoFar (near rank cs a) (here rank cs a) n o) e h))

  pub all_best : (v : ℕ) (o : Option ℕ) → v ≡ length a → SoFar (near rank cs a) (here rank cs a) v o → MatchOption o (NoneBetter rank cs a) (Best rank cs a)
  all_best v o e h = best_of rank cs a o (subst (λ n. SoFar (near rank cs a) (here rank cs a) n o) e h)
