-- What the printed bytes tell. Assumes nothing.
use Rattle.std.proofs.Common.{◌≡◌, ℕ, Bool, List, ◌∷◌, ◌++◌, length, take, drop, get_or, ltb, ℤ, Ok, Err, codes, Result, sym, ap, ◌∙◌, arith}
use Rattle.std.proofs.lemmas.Bool.{cond_both}
use Rattle.std.proofs.lemmas.List.{take_at}
use Rattle.writing.specs.declared.written.TooShort.{TooShort}
use Rattle.writing.specs.Pages.{filled}
use Rattle.solve.specs.declared.fault.Fault.{Fault}
use Rattle.writing.specs.Items.{bytes}
use Rattle.pages.specs.Reports.{Told, satisfied, refuted, undecided, literal_line}
use Rattle.solve.specs.Answers.{solved, printed, output}
use Rattle.solve.specs.Promises.{Saying, Meets, Solves, Tells}
use Rattle.solve.proofs.Telling.{solves}

module _ (text rest : List ℕ) where
  -- the answers differ in the byte at this index
  differ : (i : ℕ) (xs ys : List ℕ) → xs ≡ ys → get_or xs i 0 ≡ get_or ys i 0
  differ i xs ys e = ap (λ zs. get_or zs i 0) e

  read_satisfiable : (r : Result Told Fault) → Solves text r → printed r ≡ codes "s SATISFIABLE" ++ rest
      → (n : ℕ) × (cs : List (List ℤ)) × Saying text n cs × ((a : List Bool) × Meets n cs a × (rest ≡ 10 ∷ bytes (literal_line a)))
  read_satisfiable (Ok (satisfied a)) (n, cs, s, m) e = (n, cs, s, (a, m, sym cc))
  read_satisfiable (Ok refuted) h e = absurd (omega (arith, differ 2 _ _ e))
  read_satisfiable (Ok undecided) h e = absurd (omega (arith, differ 2 _ _ e))
  read_satisfiable (Err f) h e = absurd (omega (arith, differ 0 _ _ e))

  read_unsatisfiable : (r : Result Told Fault) → Solves text r → printed r ≡ codes "s UNSATISFIABLE" ++ rest
      → (n : ℕ) × (cs : List (List ℤ)) × Saying text n cs × ((a : List Bool) → Meets n cs a → ⊥)
  read_unsatisfiable (Ok (satisfied a)) h e = absurd (omega (arith, differ 2 _ _ e))
  read_unsatisfiable (Ok refuted) h e = h
  read_unsatisfiable (Ok undecided) h e = absurd (omega (arith, differ 4 _ _ e))
  read_unsatisfiable (Err f) h e = absurd (omega (arith, differ 0 _ _ e))

tells : (text out : List ℕ) → out ≡ output text → Tells text out
tells text out e = record {
  satisfiable = λ rest f. read_satisfiable text rest (solved text) (solves text) (sym e ∙ f);
  unsatisfiable = λ rest f. read_unsatisfiable text rest (solved text) (solves text) (sym e ∙ f);
}

-- ---- in a buffer

-- what stands in front, of bytes that were written there
pub taken_back : (xs old new : List ℕ) (n : ℕ) → filled xs old ≡ (Ok n, new) → take n new ≡ xs
taken_back xs old new n = cond_both (ltb (length old) (length xs)) _ _ (λ (d : Result ℕ TooShort × List ℕ). d ≡ (Ok n, new) → take n new ≡ xs) (λ _ e. absurd (no_error (ap (λ d. d.0) e))) (λ _ e. whole e)
  where
    no_error : ◌≡◌ {A = Result ℕ TooShort} (Err (record {})) (Ok n) → ⊥
    no_error e = cc

    whole : ◌≡◌ {A = Result ℕ TooShort × List ℕ} (Ok (length xs), xs ++ drop (length xs) old) (Ok n, new) → take n new ≡ xs
    whole e =
        let size : ◌≡◌ {A = Result ℕ TooShort} (Ok (length xs)) (Ok n) = ap (λ d. d.0) e in
        let same : length xs ≡ n = cc in
        ap (take n) (sym (ap (λ d. d.1) e)) ∙ take_at xs (drop (length xs) old) n same

pub tells_there : (text old new : List ℕ) (n : ℕ) → filled (output text) old ≡ (Ok n, new) → Tells text (take n new)
tells_there text old new n e = tells text (take n new) (taken_back (output text) old new n e)
