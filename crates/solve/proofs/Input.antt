-- From the bytes that a reader has to those that a writer gets. Assumes
-- nothing.
use Rattle.std.proofs.Common.{◌≡◌, ℕ, suc, ◌<◌, List, [], ◌++◌, length, take, ltb, Some, None, Err, Option, IfSome, ⊎_elim, sym, ap, ◌∙◌, subst, arith}
use Rattle.limits.specs.Limits.{program_bytes}
use Rattle.std.specs.Option.{option_map}
use Rattle.std.specs.declared.io.traits.Take.{Take}
use Rattle.std.specs.Io.Take.{take_limit, take_inner, take_remaining}
use Rattle.std.specs.Io.KnownBytes.{Appends}
use Rattle.std.proofs.lemmas.Bool.{cond-true, lt-ltb, cases_lt}
use Rattle.std.proofs.lemmas.List.{take_all, length-take-le}
use Rattle.text.specs.Problem.{head_of}
use Rattle.solve.specs.declared.fault.Fault.TheVariants.{TooMuchInput}
use Rattle.solve.specs.Answers.{headed, solved, output, printed}

too_long : (text : List ℕ) → program_bytes < length text → solved text ≡ Err TooMuchInput
too_long text h = cond-true (ltb program_bytes (length text)) (Err TooMuchInput) (headed text (head_of text)) (lt-ltb program_bytes (length text) h)

-- Of a longer input one byte more is read than is taken, and the answer is that
-- to the whole input.
answered_whole : (input : List ℕ) → output (take (suc program_bytes) input) ≡ output input
answered_whole input =
    ⊎_elim
    (λ more.
    let size : length (take (suc program_bytes) input) ≡ (suc program_bytes) = length-take-le (suc program_bytes) input (omega arith) in
    ap printed (too_long (take (suc program_bytes) input) (omega arith) ∙ sym (too_long input (omega arith))))
    (λ few. ap output (take_all (suc program_bytes) input few))
    (cases_lt (suc program_bytes) (length input))

-- what a limited reader gives
pub read_limited : {R : Type 0} (remaining : R → Option (List ℕ)) (t : Take R) (reader : R) (old new : List ℕ) → take_limit t ≡ (suc program_bytes) → take_inner t ≡ reader → old ≡ []
    → IfSome (take_remaining remaining t) (λ xs. new ≡ old ++ xs) → IfSome (remaining reader) (λ input. new ≡ take (suc program_bytes) input)
read_limited remaining t reader old new limit inner none h =
    go (remaining reader)
    (subst (λ r. IfSome (option_map (take (suc program_bytes)) (remaining r)) (λ xs. new ≡ xs)) inner
    (subst (λ (k : ℕ). IfSome (option_map (take k) (remaining t.inner)) (λ xs. new ≡ xs)) limit
    (subst (λ zs. IfSome (take_remaining remaining t) (λ xs. new ≡ zs ++ xs)) none h)))
  where
    go : (o : Option (List ℕ)) → IfSome (option_map (take (suc program_bytes)) o) (λ xs. new ≡ xs) → IfSome o (λ input. new ≡ take (suc program_bytes) input)
    go None k = tt
    go (Some input) k = k

-- the writer gets the answer to the whole input
pub answered : (known old new : Option (List ℕ)) (text bytes : List ℕ) → IfSome known (λ input. text ≡ take (suc program_bytes) input) → bytes ≡ output text → Appends old new bytes
    → IfSome known (λ input. Appends old new (output input))
answered None old new text bytes t b a = tt
answered (Some input) old new text bytes t b a = subst (Appends old new) (b ∙ ap output t ∙ answered_whole input) a
