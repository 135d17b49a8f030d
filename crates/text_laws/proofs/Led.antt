-- The words of sound texts lead a reader on: which states they lead to. Assumes nothing.
use Rattle.std.proofs.Common.{◌≡◌, ℕ, ◌+◌, ◌-◌, ◌<◌, ◌≤◌, eqb, false, List, [], ◌∷◌, ◌++◌, length, map, ℤ, pos, Some, codes, decimal, sym, refl, ap, ◌∙◌, append_assoc, append-nil, arith, length-append}
use Rattle.std.specs.List.{flat_map, AllByRecursion}
use Rattle.std.specs.Fmt.{signed_decimal}
use Rattle.std.proofs.lemmas.Bool.{le-ltb}
use Rattle.std.proofs.lemmas.Bool.Decides.{nat_tests}
use Rattle.text.specs.declared.faults.ReadFault.{ReadFault}
use Rattle.text.specs.declared.problem.Expected.{Expected}
use Rattle.text.specs.declared.problem.Expected.TheVariants.{ProblemWord, FormatWord, Variables, Clauses}
use Rattle.text.specs.declared.reader.State.{State}
use Rattle.text.specs.declared.reader.State.TheVariants.{BeforeProblem, BetweenClauses, InsideClause, Done}
use Rattle.text_laws.specs.Standing.{Sound, GoesOn, Begun}
use Rattle.limits.specs.Limits.{most_clauses, most_literals}
use Rattle.tokens.specs.Numbers.{number_word}
use Rattle.text.specs.Problem.{remaining}
use Rattle.text.specs.Reading.{Reading, clauses_of, fault_of, Step, on, gives, stops, between, clause_word, step, go_on, read}
use Rattle.tokens.specs.Words.{Piece, word, comment, words_of}
use Rattle.text_laws.specs.Writing.{Literal, clause_words}
use Rattle.text_laws.proofs.Numerals.{number_words}

-- a reading that gives the clauses cs, and is refused
abbrev pub Refuses : ReadFault → List (List ℤ) → Reading → Type 0
Refuses f cs r = (clauses_of r ≡ cs) × (fault_of r ≡ Some f)

-- what is so of a state, of the literals so far and of the clauses that are still to be given
abbrev pub Claim : Type 1
Claim = State → List ℤ → List (List ℤ) → Type 0

-- so it is after a step, which gives the first of the clauses if it ends one
abbrev Past : Claim → Step → List (List ℤ) → Type 0
Past P (on s ls) cs = P s ls cs
Past P (gives ls p s) cs = (ds : List (List ℤ)) × (cs ≡ ls ∷ ds) × P s [] ds
Past P (stops f) cs = ⊥

-- a clause over n variables
abbrev pub Clause : ℕ → List ℤ → Type 0
Clause n c = (length c ≤ most_literals) × AllByRecursion (Literal n) c

clause_words-are : (c : List ℤ) (ws : List (List ℕ))
    → clause_words c ++ ws ≡ map signed_decimal c ++ ((48 ∷ []) ∷ ws)
clause_words-are [] ws = refl
clause_words-are (x ∷ c) ws = ap (λ vs. signed_decimal x ∷ vs) (clause_words-are c ws)

-- the state where a clause isn't whole, of which the literals ls are there
abbrev pub in_clause : ℕ → ℕ → List ℤ → State
in_clause n left [] = BetweenClauses (remaining n left)
in_clause n left (x ∷ ls) = InsideClause (remaining n left)

pub step-in_clause : (limit n left : ℕ) (ls : List ℤ) (p : ℕ) (w : List ℕ)
    → step most_literals limit (in_clause n left ls) ls p w
    ≡ clause_word most_literals n left ls p (number_word w)
step-in_clause limit n left [] p w = refl
step-in_clause limit n left (x ∷ ls) p w = refl

in_clause-more : (n left : ℕ) (ls : List ℤ) (x : ℤ)
    → in_clause n left (ls ++ x ∷ []) ≡ InsideClause (remaining n left)
in_clause-more n left [] x = refl
in_clause-more n left (y ∷ ls) x = refl

-- the next literal is taken, where there is room for it
takes_literal : (limit n left : ℕ) (ls : List ℤ) (x : ℤ) (p : ℕ)
    → n < 100000 → Literal n x → length ls < most_literals
    → step most_literals limit (in_clause n left ls) ls p (signed_decimal x)
    ≡ on (in_clause n left (ls ++ x ∷ [])) (ls ++ x ∷ [])
takes_literal limit n left ls x p small a room =
    let known = (number_words (signed_decimal x) x).1 refl (omega (arith, a)) in
    rw (step-in_clause limit n left ls p (signed_decimal x), known, in_clause-more n left ls x)
    (grind (arith, nat_tests))

-- the words ws are those of a problem line before its word e
abbrev pub Awaits : ℕ → Expected → List (List ℕ) → Type 0
Awaits limit ProblemWord ws = ws ≡ []
Awaits limit FormatWord ws = ws ≡ codes "p" ∷ []
Awaits limit Variables ws = ws ≡ codes "p" ∷ codes "cnf" ∷ []
Awaits limit (Clauses n) ws =
    (n < 100000) × (n ≤ limit) × (ws ≡ codes "p" ∷ codes "cnf" ∷ decimal n ∷ [])

module _ (limit : ℕ) where
  -- and so it is after the words ws, at whatever places they stand
  abbrev After : Claim → List (List ℕ) → Claim
  After P [] = P
  After P (w ∷ ws) = λ s ls cs. (p : ℕ) → Past (After P ws) (step most_literals limit s ls p w) cs

  -- the same, where the text begins with them
  abbrev pub Led : Claim → List (List ℕ) → List (List ℤ) → Type 0
  Led P ws cs = After P ws (BeforeProblem ProblemWord) [] cs

  -- pieces are refused if, where the words of those in front lead to, what is left is refused
  module _ (f : ReadFault) (end : ℕ) (more : List Piece) where
    abbrev Left : List Piece → Claim
    Left ps s ls cs = Refuses f cs (read most_literals limit end s ls (ps ++ more))

    step_led : (P : Claim) (ps : List Piece)
        → ((s : State) (ls : List ℤ) (cs : List (List ℤ)) → P s ls cs → Left ps s ls cs)
        → (t : Step) (cs : List (List ℤ)) → Past P t cs
        → Refuses f cs (go_on t (λ s ls. read most_literals limit end s ls (ps ++ more)))
    step_led P ps led (on s ls) cs h = led s ls cs h
    step_led P ps led (gives ls p s) cs (ds, e, h) =
        let k = led s [] ds h in
        (ap (λ ds. ls ∷ ds) k.0 ∙ sym e, k.1)
    step_led P ps led (stops g) cs h = absurd h

    pub pieces_led : (P : Claim)
        → ((s : State) (ls : List ℤ) (cs : List (List ℤ)) → P s ls cs → Left [] s ls cs)
        → (ps : List Piece) (s : State) (ls : List ℤ) (cs : List (List ℤ))
        → After P (words_of ps) s ls cs → Left ps s ls cs
    pieces_led P here [] = here
    pieces_led P here (comment p c ∷ ps) = pieces_led P here ps
    pieces_led P here (word p w ∷ ps) = λ s ls cs h.
        step_led (After P (words_of ps)) ps (pieces_led P here ps)
        (step most_literals limit s ls p w) cs (h p)

  -- where the words lead to, P is claimed
  module _ (P : Claim) where
    led_to_variables : (n : ℕ) → n < 100000 → n ≤ limit → (ws : List (List ℕ)) (cs : List (List ℤ))
        → After P ws (BeforeProblem (Clauses n)) [] cs
        → Led P (codes "p" ∷ codes "cnf" ∷ decimal n ∷ ws) cs
    led_to_variables n small narrow ws cs h = λ _ _ _.
        rw ((number_words (decimal n) (pos n)).1 refl small, le-ltb limit n narrow) h

    led_to_clauses : (n m : ℕ) → n < 100000 → n ≤ limit → m ≤ most_clauses
        → (ws : List (List ℕ)) (cs : List (List ℤ)) → After P ws (between n m) [] cs
        → Led P (codes "p" ∷ codes "cnf" ∷ decimal n ∷ decimal m ∷ ws) cs
    led_to_clauses n m small narrow few ws cs h =
        let known = (number_words (decimal m) (pos m)).1 refl (omega arith) in
        led_to_variables n small narrow (decimal m ∷ ws) cs
        (λ _. rw (known, le-ltb most_clauses m few) h)

    module _ (n : ℕ) (small : n < 100000) where
      past_literals : (left : ℕ) (ls xs : List ℤ) (ws : List (List ℕ)) (cs : List (List ℤ))
          → AllByRecursion (Literal n) xs → length ls + length xs ≤ most_literals
          → After P ws (in_clause n left (ls ++ xs)) (ls ++ xs) cs
          → After P (map signed_decimal xs ++ ws) (in_clause n left ls) ls cs
      past_literals left ls [] ws cs a room h = rw append-nil at h
      past_literals left ls (x ∷ xs) ws cs a room h = λ p.
          let one = ls ++ x ∷ [] in
          let fits : length one + length xs ≤ most_literals =
          omega (arith, length-append ls (x ∷ [])) in
          rw (takes_literal limit n left ls x p small a.0 (omega arith))
          (past_literals left one xs ws cs a.1 fits (rw append_assoc h))

      past_clause : (left : ℕ) (c : List ℤ) (ws : List (List ℕ)) (cs : List (List ℤ)) → Clause n c
          → After P ws (between n (left - 1)) [] cs
          → After P (clause_words c ++ ws) (BetweenClauses (remaining n left)) [] (c ∷ cs)
      past_clause left c ws cs a h =
          rw (clause_words-are c ws)
          (past_literals left [] c ((48 ∷ []) ∷ ws) (c ∷ cs) a.1 (omega (arith, a.0))
          (λ p. rw (step-in_clause limit n left c p (48 ∷ [])) (cs, refl, h)))

      past_clauses : (left : ℕ) (more : List (List ℤ)) (ws : List (List ℕ))
          → (AllByRecursion (Clause n) more → After P ws (between n left) [] [])
          → (cs : List (List ℤ)) (m : ℕ) → m ≡ length cs + left
          → AllByRecursion (Clause n) (cs ++ more)
          → After P (flat_map clause_words cs ++ ws) (between n m) [] cs
      past_clauses left more ws h [] m e a = let same : m ≡ left = omega arith in rw same (h a)
      past_clauses left more ws h (c ∷ cs) m e a =
          let some : eqb m 0 ≡ false = grind (arith, nat_tests) in
          rw (append_assoc, some)
          (past_clause m c (flat_map clause_words cs ++ ws) cs a.0
          (past_clauses left more ws h cs (m - 1) (omega arith) a.1))

      past_last : (left : ℕ) → eqb left 0 ≡ false → (ls : List ℤ) → P (in_clause n left ls) ls []
          → AllByRecursion (Clause n) (ls ∷ [])
          → After P (map signed_decimal ls) (between n left) [] []
      past_last left some ls h a =
          let all = past_literals left [] ls [] [] a.0.1 (omega (arith, a.0.0)) h in
          rw some (rw append-nil at all)

    -- the words of a sound text lead to its end
    pub led_through : (ws : List (List ℕ)) (cs : List (List ℤ)) → Sound limit ws cs → P Done [] []
        → Led P ws cs
    led_through ws cs (n, narrow, (small, few, a), e) h =
        let m = length cs in
        let vs = flat_map clause_words cs in
        let all = past_clauses n small 0 [] [] (λ _. h) cs m (omega arith) (rw append-nil a) in
        rw e (led_to_clauses n m small narrow few vs cs (rw append-nil at all))

    -- those up to a clause that is missing lead there
    pub led_into_clause : (ws : List (List ℕ)) (cs : List (List ℤ)) (b : Begun limit ws cs)
        → ((left : ℕ) → P (in_clause b.n left b.ls) b.ls []) → Led P ws cs
    led_into_clause ws cs b h =
        let left = b.m - length cs in
        let some : eqb left 0 ≡ false = grind (arith, nat_tests, b.missing) in
        let (small, few, a) = b.writable in
        let vs = map signed_decimal b.ls in
        let last = past_last b.n small left some b.ls (h left) in
        rw b.words
        (led_to_clauses b.n b.m small b.narrow b.few (flat_map clause_words cs ++ vs) cs
        (past_clauses b.n small left (b.ls ∷ []) vs last cs b.m (omega (arith, b.missing)) a))

    -- and fewer than four lead into the problem line
    pub led_into_line : (ws : List (List ℕ)) → length ws < 4 → GoesOn limit ws
        → ((e : Expected) → Awaits limit e ws → P (BeforeProblem e) [] []) → Led P ws []
    led_into_line [] l g h = h ProblemWord refl
    led_into_line (a ∷ []) l (rest, cs, (n, narrow, s, e)) h =
        let same : a ≡ codes "p" = cc in
        rw same (λ _. h FormatWord (rw same refl))
    led_into_line (a ∷ b ∷ []) l (rest, cs, (n, narrow, s, e)) h =
        let first : a ≡ codes "p" = cc in
        let second : b ≡ codes "cnf" = cc in
        rw (first, second) (λ _ _. h Variables (rw (first, second) refl))
    led_into_line (a ∷ b ∷ c ∷ []) l (rest, cs, (n, narrow, (small, few, w), e)) h =
        let first : a ≡ codes "p" = cc in
        let second : b ≡ codes "cnf" = cc in
        let third : c ≡ decimal n = cc in
        let here = h (Clauses n) (small, narrow, rw (first, second, third) refl) in
        rw (first, second, third) (led_to_variables n small narrow [] [] here)
    led_into_line (a ∷ b ∷ c ∷ d ∷ ws) l g h = absurd (omega arith)
