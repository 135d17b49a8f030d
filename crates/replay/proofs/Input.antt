-- From a reader's bytes to a writer's. Assumes nothing.
use Rattle.std.proofs.Common.{◌≡◌, ℕ, ◌≤◌, List, [], ◌++◌, length, take, Some, None, Ok, Err, Option, Result, IfSome, IfOk, inl, inr, subst, arith}
use Rattle.std.specs.Option.{option_map}
use Rattle.std.specs.declared.io.traits.Take.{Take}
use Rattle.std.specs.Io.Take.{take_limit, take_inner, take_remaining}
use Rattle.std.proofs.lemmas.Bool.{cases_lt}
use Rattle.std.proofs.lemmas.List.{take_all, length-take-le}
use Rattle.replay.specs.Lists.{most_input, lines_of, PlaysAll, Writes, Replays}

-- what a limited reader gives
pub read_limited : {R : Type 0} (remaining : R → Option (List ℕ)) (t : Take R) (reader : R) (old new : List ℕ) → take_limit t ≡ 16777217 → take_inner t ≡ reader → old ≡ []
    → IfSome (take_remaining remaining t) (λ xs. new ≡ old ++ xs) → IfSome (remaining reader) (λ input. new ≡ take 16777217 input)
read_limited remaining t reader old new limit inner none h =
    go (remaining reader)
    (subst (λ r. IfSome (option_map (take 16777217) (remaining r)) (λ xs. new ≡ xs)) inner
    (subst (λ (k : ℕ). IfSome (option_map (take k) (remaining t.inner)) (λ xs. new ≡ xs)) limit
    (subst (λ zs. IfSome (take_remaining remaining t) (λ xs. new ≡ zs ++ xs)) none h)))
  where
    go : (o : Option (List ℕ)) → IfSome (option_map (take 16777217) o) (λ xs. new ≡ xs) → IfSome o (λ input. new ≡ take 16777217 input)
    go None k = tt
    go (Some input) k = k

-- Of a longer list one byte more is read than is taken, and what is written for
-- that is written for the whole.
replays_whole : (input out : List ℕ) → Replays (take 16777217 input) out → Replays input out
replays_whole input out r =
    elim (cases_lt 16777216 (length input)) [
      | inl more ↦
          (let size : length (take 16777217 input) ≡ 16777217 = length-take-le 16777217 input (omega arith) in
          elim r [ inl long ↦ inl (more, long.1) | inr short ↦ absurd (omega (arith, short.0)) ])
      | inr few ↦ subst (λ text. Replays text out) (take_all 16777217 input (omega arith)) r
    ]

-- the writer gets what is written for the whole list
pub replayed : (known old new : Option (List ℕ)) (text : List ℕ) → IfSome known (λ input. text ≡ take 16777217 input) → Writes old new (Replays text)
    → IfSome known (λ input. Writes old new (Replays input))
replayed None old new text t r = tt
replayed (Some input) old new text t r = (r.0, r.1, replays_whole input r.0 (subst (λ (xs : List ℕ). Replays xs r.0) t r.2))

-- the lines of a text that is not too long
pub played_text : {U E : Type 0} (r : Result U E) (old new : Option (List ℕ)) (text : List ℕ) (lines : List (List ℕ)) → IfOk r (λ u. Writes old new (PlaysAll lines))
    → lines ≡ lines_of text → length text ≤ most_input → IfOk r (λ u. Writes old new (Replays text))
played_text (Ok u) old new text lines plays e short =
    (plays.0, plays.1, inr (short, subst (λ ls. PlaysAll ls plays.0) e plays.2))
played_text (Err x) old new text lines plays e short = tt

-- what is written for the text that was read
pub replayed_text : {U E : Type 0} (r : Result U E) (known old new : Option (List ℕ)) (text played : List ℕ) → IfSome known (λ input. text ≡ take 16777217 input) → played ≡ text
    → IfOk r (λ u. Writes old new (Replays played))
    → IfOk r (λ u. IfSome known (λ input. Writes old new (Replays input)))
replayed_text (Ok u) known old new text played t e plays =
    replayed known old new text t (plays.0, plays.1, subst (λ (xs : List ℕ). Replays xs plays.0) e plays.2)
replayed_text (Err x) known old new text played t e plays = tt
