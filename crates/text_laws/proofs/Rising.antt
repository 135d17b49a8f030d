-- The places that a reading tells rise strictly. Assumes nothing.
use Rattle.std.proofs.Common.{ℕ, zero, suc, ◌≤◌, ltb, List, [], ◌∷◌, ◌++◌, length, ℤ, suc-add, arith}
use Rattle.std.specs.List.Sorted.{IsStrictlyIncreasing}
use Rattle.std.proofs.lemmas.Bool.{cond_both}
use Rattle.text.specs.declared.reader.State.{State}
use Rattle.text.specs.declared.reader.State.TheVariants.{BeforeProblem, BetweenClauses, InsideClause, Done}
use Rattle.limits.specs.Limits.{most_bytes, most_literals}
use Rattle.text.specs.Reading.{Reading, Step, on, gives, stops, step, at_end, go_on, read, reading}
use Rattle.text_laws.specs.Laws.{PlacesRise, told_places}
use Rattle.text_laws.proofs.NoFurther.{TellsAt, step-at}
use Rattle.text_laws.proofs.Places.{AllStand, pieces_stand}
use Rattle.tokens.specs.Words.{Piece, word, comment, pieces}

-- each is above the one before it, and none is below q
abbrev RiseFrom : ℕ → List ℕ → Type 0
RiseFrom q [] = Unit {0}
RiseFrom q (p ∷ ps) = (q ≤ p) × RiseFrom (suc p) ps

rise_earlier : (q p : ℕ) (ps : List ℕ) → q ≤ p → RiseFrom p ps → RiseFrom q ps
rise_earlier q p [] l h = tt
rise_earlier q p (r ∷ ps) l h = (omega (arith, h.0), h.1)

increasing : (q : ℕ) (ps : List ℕ) → RiseFrom q ps → IsStrictlyIncreasing ps
increasing q [] h k l = absurd (omega arith)
increasing q (p ∷ []) h k l = absurd (omega arith)
increasing q (p ∷ r ∷ ps) h zero l = h.1.0
increasing q (p ∷ r ∷ ps) h (suc k) l =
    rw suc-add (increasing (suc p) (r ∷ ps) h.1 k (omega arith))

abbrev Rises : ℕ → Reading → Type 0
Rises q r = RiseFrom q (told_places r)

-- a step tells the place of its word, and what is read after it tells later ones
step_rises : (q p : ℕ) (t : Step) (rest : State → List ℤ → Reading) → q ≤ p → TellsAt p t
    → ((s : State) (ls : List ℤ) → Rises (suc p) (rest s ls)) → Rises q (go_on t rest)
step_rises q p (on s ls) rest l at_p later =
    rise_earlier q (suc p) (told_places (rest s ls)) (omega arith) (later s ls)
step_rises q p (gives ls r s) rest l at_p later = (omega (arith, at_p), rw at_p (later s []))
step_rises q p (stops f) rest l at_p later = (omega (arith, at_p), tt)

module _ (text : List ℕ) (most limit : ℕ) where
  end_rises : (q : ℕ) (s : State) → q ≤ length text → Rises q (at_end (length text) s)
  end_rises q (BeforeProblem e) l = (l, tt)
  end_rises q (BetweenClauses left) l = (l, tt)
  end_rises q (InsideClause left) l = (l, tt)
  end_rises q Done l = tt

  read_rises : (q : ℕ) (done ps : List Piece) (s : State) (ls : List ℤ) → AllStand text q done ps
      → Rises q (read most limit (length text) s ls ps)
  read_rises q done [] s ls h = end_rises q s h
  read_rises q done (comment p c ∷ ps) s ls h = read_rises q (done ++ comment p c ∷ []) ps s ls h
  read_rises q done (word p w ∷ ps) s ls h =
      step_rises q p (step most limit s ls p w) (λ s' ls'. read most limit (length text) s' ls' ps)
      h.0 (step-at most limit s ls p w)
      (λ s' ls'. read_rises (suc p) (done ++ word p w ∷ []) ps s' ls' h.2)

pub places_rise : PlacesRise
places_rise limit text =
    increasing 0 (told_places (reading limit text))
    (cond_both (ltb most_bytes (length text)) _ _ (Rises 0) (λ _. (omega arith, tt))
    (λ _. read_rises text most_literals limit 0 [] (pieces text) _ [] (pieces_stand text)))
