-- Entering a clause into the book. Assumes nothing.
use Rattle.std.proofs.Common.{◌≡◌, ℕ, suc, ◌+◌, ◌<◌, ◌≤◌, Bool, true, false, cond, List, [], ◌∷◌, ◌++◌, length, map, ltb, Some, None, Ok, Err, Option, refl, sym, ap, ◌∙◌, arith}
use Rattle.std.proofs.lemmas.Bool.{false≢true, lt-ltb, le-ltb, not-true}
use Rattle.std.proofs.lemmas.List.{map-append, length-map}
use Rattle.std.specs.Option.{is_none}
use Rattle.clauses.specs.Values.{truths}
use Rattle.clauses.specs.Clauses.{Signs, clean, within, same, has}
use Rattle.lines.specs.declared.line.Origin.{Origin}
use Rattle.lines.specs.declared.line.Origin.TheVariants.{Given, Resolved, Widened}
use Rattle.lines.specs.declared.line.Line.{Line}
use Rattle.lines.specs.Lines.{Candidate, candidate_of, clause_of, clauses_in, given, given_clause, follows, number_from, number_of, keeps}
use Rattle.lines.specs.Lines as lines
use Rattle.lines.proofs.Stated.{length-clauses}
use Rattle.search.proofs.New.{none_new}
use Rattle.steps.proofs.Written.{line_keeps}
use Rattle.answers.specs.declared.refusal.Refusal.TheVariants.{NoFreePlace}
use Rattle.histories.specs.States.{State}
use Rattle.histories.specs.Calls.{entered}

-- a line that stands is one of them
stands_from : (k : ℕ) (c : Signs) (cs : List Signs) (i : ℕ) → number_from k c cs ≡ Some i → i < k + length cs
stands_from k c [] i e = absurd (cc)
stands_from k c (d ∷ cs) i e = go (same d c) (stands_from (suc k) c cs i) e
  where
    go : (b : Bool) → (number_from (suc k) c cs ≡ Some i → i < suc k + length cs) → cond b (Some k) (number_from (suc k) c cs) ≡ Some i → i < k + suc (length cs)
    go true h e = let f : k ≡ i = cc in omega arith
    go false h e = let l = h e in omega arith

pub stands : (c : Signs) (ls : List Line) (i : ℕ) → number_of c (lines.clauses ls) ≡ Some i → i ≤ length ls
stands c ls i e = let h = stands_from 1 c (lines.clauses ls) i e in omega (arith, length-clauses ls)

-- what is given is a candidate of the state
given_is : (l : Line) → given l.origin ≡ true → candidate_of l ≡ given_clause (clause_of l)
given_is l e = go l.origin refl e
  where
    go : (o : Origin) → l.origin ≡ o → given o ≡ true → candidate_of l ≡ given_clause (clause_of l)
    go Given f e = ap (λ (x : Origin). let r : Candidate = record { origin = x; clause = clause_of l } in r) f
    go (Resolved v i j) f e = absurd (false≢true e)
    go (Widened i) f e = absurd (false≢true e)

-- a given line that is new keeps the four facts
pub given_keeps : (n : ℕ) (ls : List Line) (l : Line) → keeps n ls ≡ true → given l.origin ≡ true → clean (clause_of l) ≡ true → within n (clause_of l) ≡ true
    → number_of (clause_of l) (lines.clauses ls) ≡ None → keeps n (ls ++ (l ∷ [])) ≡ true
given_keeps n ls l k g c w new =
    let none : has (clause_of l) (lines.clauses ls) ≡ false = not-true (has (clause_of l) (lines.clauses ls)) (sym (none_new (clause_of l) (lines.clauses ls)) ∙ ap is_none new) in
    line_keeps n ls l k (record { new = none; one_way = c; within_n = w; following = go l.origin g })
  where
    go : (o : Origin) → given o ≡ true → follows (lines.clauses ls) o (clause_of l) ≡ true
    go Given e = refl
    go (Resolved v i j) e = absurd (false≢true e)
    go (Widened i) e = absurd (false≢true e)

module _ (n : ℕ) (ls : List Line) (word places : ℕ) (l : Line) where
  abbrev here : State
  here = record { n = n; lines = map candidate_of ls; assignment = truths n word }

  abbrev number_here : Option ℕ
  number_here = number_of (clause_of l) (clauses_in (map candidate_of ls))

  abbrev room : Bool
  room = ltb (length (map candidate_of ls)) places

  -- its clause is in the book
  pub enters_old : (k : ℕ) → number_of (clause_of l) (lines.clauses ls) ≡ Some k → entered number_here room here (clause_of l) ≡ (Ok (Some k), here)
  enters_old k e = rw e refl

  -- it gets a line
  pub enters_new : (i : ℕ) (ms : List Line) → i ≡ length ls → number_of (clause_of l) (lines.clauses ls) ≡ None → length ls < places → given l.origin ≡ true → ms ≡ ls ++ (l ∷ [])
      → entered number_here room here (clause_of l) ≡ (Ok (Some (i + 1)), record { n = n; lines = map candidate_of ms; assignment = truths n word })
  enters_new i ms last e free g more =
      let size : length (map candidate_of ls) ≡ length ls = length-map ls candidate_of in
      let yes : room ≡ true = lt-ltb _ _ (omega arith) in
      rw (e, yes)
      (λ j. (Ok (Some ((size ∙ sym last) j + 1)), record { n = n; lines = (ap (λ x. map candidate_of ls ++ (x ∷ [])) (sym (given_is l g)) ∙ sym (map-append candidate_of ls (l ∷ [])) ∙ ap (map candidate_of) (sym more)) j; assignment = truths n word }))

  -- there is no place for it
  pub enters_none : (ms : List Line) → number_of (clause_of l) (lines.clauses ls) ≡ None → places ≤ length ls → ms ≡ ls
      → entered number_here room here (clause_of l) ≡ (Err NoFreePlace, record { n = n; lines = map candidate_of ms; assignment = truths n word })
  enters_none ms e full same =
      let size : length (map candidate_of ls) ≡ length ls = length-map ls candidate_of in
      let no : room ≡ false = le-ltb _ _ (omega arith) in
      rw (e, no) (λ j. (Err NoFreePlace, record { n = n; lines = map candidate_of (sym same j); assignment = truths n word }))
