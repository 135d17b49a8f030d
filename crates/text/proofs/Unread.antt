-- What is unread once a token has ended a clause. Assumes nothing.
use Rattle.std.proofs.Common.{◌≡◌, ℕ, ◌-◌, ◌≤◌, eqb, List, [], ◌∷◌, length, ℤ, sym, refl, ap, ◌∙◌, subst, arith}
use Rattle.std.proofs.lemmas.Bool.{cond_both, cond-false, le-ltb}
use Rattle.table.specs.Held.{held, places_of}
use Rattle.text.specs.declared.reader.Reader.{Reader}
use Rattle.text.specs.declared.reader.State.{State}
use Rattle.text.specs.declared.reader.State.TheVariants.{BeforeProblem, BetweenClauses, InsideClause, Done}
use Rattle.tokens.specs.declared.stream.Tokens.{Tokens}
use Rattle.limits.specs.Limits.{most_bytes}
use Rattle.tokens.specs.Numbers.{number_word}
use Rattle.text.specs.Problem.{remaining}
use Rattle.text.specs.Reading.{Reading, clause, Step, on, gives, stops, between, step_piece, go_on, read}
use Rattle.text.specs.Unread.{begun, whole, given, brings, read_on, unread, Alike}
use Rattle.tokens.specs.Scanning.{coming}
use Rattle.tokens.specs.Words.{Piece, word, comment}
use Rattle.text.proofs.Steps.{problem_by, clause_by}

-- after a clause no literals are there yet, and those that are held are its own
abbrev Rests : Step → Type 0
Rests (on s ls) = Unit {0}
Rests (gives ls p s) = (ks : List ℤ) → (begun s ks ≡ []) × (whole s ks ≡ ks)
Rests (stops f) = Unit {0}

begun-between : (n left : ℕ) (ks : List ℤ)
    → (begun (between n left) ks ≡ []) × (whole (between n left) ks ≡ ks)
begun-between n left ks =
    cond_both (eqb left 0) Done (BetweenClauses (remaining n left))
    (λ s. (begun s ks ≡ []) × (whole s ks ≡ ks)) (λ _. (refl, refl)) (λ _. (refl, refl))

step_rests : (most limit : ℕ) (s : State) (ls : List ℤ) (x : Piece) → Rests (step_piece most limit s ls x)
step_rests most limit s ls (comment p c) = tt
step_rests most limit (BeforeProblem e) ls (word p w) = problem_by Rests p (λ _ _. tt) limit w (λ _. tt) (λ _ _ _. tt) e
step_rests most limit (BetweenClauses left) ls (word p w) =
    clause_by Rests p (λ _ _. tt) most left.variables left.clauses [] (begun-between left.variables (left.clauses - 1)) (λ _. tt) (number_word w)
step_rests most limit (InsideClause left) ls (word p w) =
    clause_by Rests p (λ _ _. tt) most left.variables left.clauses ls (begun-between left.variables (left.clauses - 1)) (λ _. tt) (number_word w)
step_rests most limit Done ls (word p w) = tt

-- what a short enough text has still to say
short : (most limit : ℕ) (s : State) (ls : List ℤ) (t : Tokens) → length t.text.now ≤ most_bytes → read_on most limit s ls t ≡ read most limit (length t.text.now) s ls (coming t)
short most limit s ls t h = cond-false _ _ _ (le-ltb most_bytes (length t.text.now) h)

pub unread_clause : (was : Reading) (r is : Reader) (t : Tokens) (x : Piece) (p : ℕ) → unread r ≡ was → length r.tokens.text.now ≤ most_bytes
    → coming r.tokens ≡ x ∷ coming t → t.text.now ≡ r.tokens.text.now → Alike r is → brings r x ≡ gives (held is.literals) p is.state
    → was ≡ clause (given is) p (unread (record { tokens = t; limit = is.limit; state = is.state; literals = is.literals }))
unread_clause was r is t x p u h e text a b =
    let left : Reader = record { tokens = t; limit = is.limit; state = is.state; literals = is.literals } in
    let rest : State → List ℤ → Reading = λ s ls. read (length (places_of r.literals)) r.limit (length r.tokens.text.now) s ls (coming t) in
    let none : (begun is.state (held is.literals) ≡ []) × (given is ≡ held is.literals) = subst Rests b (step_rests (length (places_of r.literals)) r.limit r.state (begun r.state (held r.literals)) x) (held is.literals) in
    let less : length t.text.now ≤ most_bytes = omega (arith, ap length text) in
    sym u ∙ short _ _ _ _ r.tokens h ∙ ap (read _ _ _ _ _) e ∙ ap (λ s. go_on s rest) b
    ∙ ap (clause (held is.literals) p) (sym (short _ _ _ _ t less ∙ (λ i. read (a.2 i) (a.1 i) (length (text i)) is.state (none.0 i) (coming t)))) ∙ ap (λ ls. clause ls p (unread left)) (sym none.1)
