-- One more flip step, and none. Assumes nothing.
use Rattle.std.proofs.Common.{◌≡◌, ℕ, zero, suc, ◌+◌, ◌-◌, ◌≤◌, Bool, List, Some, None, refl, sym, ap, ◌∙◌, subst, arith}
use Rattle.words.specs.Bits.{first}
use Rattle.clauses.specs.Clauses.{Signs}
use Rattle.guides.specs.Ranks.{Rank}
use Rattle.steps.specs.Flips.{flipped, flips}
use Rattle.weighing_c.specs.Walks.{turned, walked}

module _ (rank : Rank) (cs : List Signs) (a : List Bool) where
  pub one_more : (k v : ℕ) (b : List Bool) → b ≡ walked rank cs k a → Some v ≡ first (flips rank cs b) → flipped v b ≡ walked rank cs (k + 1) a
  one_more k v b e f =
      let n : k + 1 ≡ suc k = omega arith in
      let g : turned b (first (flips rank cs b)) ≡ flipped v b = rw (← f) refl in
      let s : turned b (first (flips rank cs b)) ≡ walked rank cs (suc k) a = ap (λ x. turned x (first (flips rank cs x))) e in
      sym g ∙ s ∙ ap (λ x. walked rank cs x a) (sym n)

  -- nothing is flipped after k steps, nor after those that follow
  still : (k j m : ℕ) → m ≡ j + k → None ≡ first (flips rank cs (walked rank cs k a)) → walked rank cs m a ≡ walked rank cs k a
  still k zero m e f = let n : m ≡ k = omega arith in ap (λ x. walked rank cs x a) n
  still k (suc j) zero e f = absurd (omega arith)
  still k (suc j) (suc m) e f =
      let s = still k j m (omega arith) f in
      let t : turned (walked rank cs k a) (first (flips rank cs (walked rank cs k a))) ≡ walked rank cs k a = rw (← f) refl in
      ap (λ x. turned x (first (flips rank cs x))) s ∙ t

  pub no_more : (k most : ℕ) (b : List Bool) → b ≡ walked rank cs k a → None ≡ first (flips rank cs b) → k ≤ most → b ≡ walked rank cs most a
  no_more k most b e f h =
      let n : None ≡ first (flips rank cs (walked rank cs k a)) = subst (λ x. None ≡ first (flips rank cs x)) e f in
      e ∙ sym (still k (most - k) most (omega arith) n)
