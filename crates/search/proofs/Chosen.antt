-- Which of the five steps is due. Assumes nothing.
use Rattle.std.proofs.Common.{◌≡◌, ℕ, ◌<◌, ◌≤◌, Bool, true, false, List, [], ◌∷◌, ◌++◌, length, Some, None, refl, sym, ap, ◌∙◌, arith}
use Rattle.std.specs.List.{list_any, list_all}
use Rattle.words.specs.Bits.{first}
use Rattle.clauses.specs.Values.{truths}
use Rattle.clauses.specs.Clauses.{Signs, empty, clean}
use Rattle.clause_laws.proofs.ReadingOff.{reading_off}
use Rattle.lines.specs.Lines.{Candidate}
use Rattle.lines.specs.ReadingOff.{closed, breaks, read_off}
use Rattle.guides.specs.Ranks.{Rank}
use Rattle.steps.specs.Rows.{row}
use Rattle.steps.specs.Flips.{ranked_flipped, flips, Best}
use Rattle.steps.specs.Writing.{learnt, barred, swept}
use Rattle.steps.specs.Moves.{flip, write, accept, writable, move}
use Rattle.clauses.proofs.Listed.{length_truths}
use Rattle.search.proofs.Left.{first-append}
use Rattle.search.specs.Laws.{Closed}

-- the first of two lists one after the other
first_of_both : {A : Type 0} (xs ys : List A) → first xs ≡ None → first (xs ++ ys) ≡ first ys
first_of_both [] ys h = refl
first_of_both (x ∷ xs) ys h = cc

module _ (rank : Rank) (cs : List Signs) (a : List Bool) where
  pub flip_is_due : (v : ℕ) → Some v ≡ first (flips rank cs a) → flip v ≡ move rank cs a
  unfolding move
  flip_is_due v h = rw (← h) refl

  write_is_due : (l : Candidate) → None ≡ first (flips rank cs a) → first (writable cs a) ≡ Some l → write l ≡ move rank cs a
  unfolding move
  write_is_due l h k = rw (← h, k) refl

  pub learn_is_due : (l : Candidate) → None ≡ first (flips rank cs a) → Some l ≡ first (learnt cs a) → write l ≡ move rank cs a
  learn_is_due l h k = write_is_due l h (first-append (learnt cs a) (barred cs a ++ swept cs) l (sym k))

  pub bar_is_due : (l : Candidate) → None ≡ first (flips rank cs a) → None ≡ first (learnt cs a) → Some l ≡ first (barred cs a) → write l ≡ move rank cs a
  bar_is_due l h k m =
      write_is_due l h (first_of_both (learnt cs a) (barred cs a ++ swept cs) (sym k) ∙ first-append (barred cs a) (swept cs) l (sym m))

  pub sweep_is_due :
      (l : Candidate) → None ≡ first (flips rank cs a) → None ≡ first (learnt cs a) → None ≡ first (barred cs a) → Some l ≡ first (swept cs) → write l ≡ move rank cs a
  sweep_is_due l h k m n =
      write_is_due l h (first_of_both (learnt cs a) (barred cs a ++ swept cs) (sym k) ∙ first_of_both (barred cs a) (swept cs) (sym m) ∙ sym n)

  pub reading_is_due :
      (n : ℕ) (r : List Bool) → length a ≡ n → None ≡ first (flips rank cs a) → None ≡ first (learnt cs a) → None ≡ first (barred cs a) → None ≡ first (swept cs)
      → r ≡ read_off n cs → accept r ≡ move rank cs a
  unfolding move
  reading_is_due n r e h k m t q =
      let none = first_of_both (learnt cs a) (barred cs a ++ swept cs) (sym k) ∙ first_of_both (barred cs a) (swept cs) (sym m) ∙ sym t in
      rw (← h, none) (ap accept (q ∙ ap (λ i. read_off i cs) (sym e)))

-- the flip to the best neighbour goes to a lower rank
pub flip_helps : (rank : Rank) (cs : List Signs) (n word v : ℕ) → Best rank cs (truths n word) v → (0 < v) × (v ≤ n) × (rank (ranked_flipped cs (truths n word) v) < rank (row cs (truths n word)))
flip_helps rank cs n word v h = (h.named.0, omega (arith, h.named.1, length_truths n word), h.lower)

-- what is read off from a closed book with no empty line breaks none
pub read_off_breaks_none : (n word : ℕ) (cs : List Signs) → truths n word ≡ read_off n cs → Closed cs
    → list_all clean cs ≡ true → (closed cs ≡ true) × (list_any empty cs ≡ false → breaks (truths n word) cs ≡ false)
read_off_breaks_none n word cs e h k = (h k, λ m. rw e (reading_off n cs m (h k)))
