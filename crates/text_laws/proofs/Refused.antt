-- Where a text's words are as is said of a refusal, it is refused so. Assumes nothing.
use Rattle.std.proofs.Common.{◌≡◌, ℕ, zero, suc, ◌<◌, ◌≤◌, cond, ltb, true, List, [], ◌∷◌, ◌++◌, length, replicate, ℤ, pos, negsuc, Some, None, Ok, Err, codes, decimal, Option, refl, ap, ◌∙◌, append_assoc, append-nil, arith}
use Rattle.std.specs.List.{flat_map, AllByRecursion}
use Rattle.std.specs.Str.{bytes_eq}
use Rattle.std.proofs.lemmas.List.{length-replicate}
use Rattle.std.proofs.lemmas.Slice.Eq.{bytes_eq-Decides}
use Rattle.std.proofs.lemmas.Bool.{le-ltb, ltb-false, cond_both}
use Rattle.std.proofs.lemmas.Bool.Decides.{nat_tests}
use Rattle.text.specs.declared.faults.TextFault.TheVariants.{TooLong, NotProblemLine, TooLarge, NotNumber, AboveVariables, EndsInsideClause, WordAfterClauses, ClausesMissing}
use Rattle.text.specs.declared.faults.BookFault.TheVariants.{TooManyLiterals, NoFreePlace}
use Rattle.text.specs.declared.faults.ReadFault.{ReadFault}
use Rattle.text.specs.declared.faults.ReadFault.TheVariants.{Text, Book}
use Rattle.text.specs.declared.problem.Expected.{Expected}
use Rattle.text.specs.declared.problem.Expected.TheVariants.{ProblemWord, FormatWord, Variables, Clauses}
use Rattle.text.specs.declared.problem.Progress.TheVariants.{Expecting}
use Rattle.text.specs.declared.reader.State.TheVariants.{BeforeProblem}
use Rattle.text_laws.specs.Standing.{GoesOn, Begun}
use Rattle.text_laws.specs.Refusing.{TooMany, WrongWord, WrongEnd, AtAWord, AtTheEnd, RefusedAs, too_long, at_a_word, at_the_end}
use Rattle.limits.specs.Limits.{most_bytes, most_clauses, most_literals}
use Rattle.text.specs.Refusals.{read_refusal, place_of}
use Rattle.tokens.specs.Numbers.{number_word}
use Rattle.text.specs.Problem.{within, then_clauses, then_complete, expect}
use Rattle.text.specs.Reading.{refused, clauses_of, fault_of, stops, after_problem, clause_word, step, at_end, reading}
use Rattle.tokens.specs.Words.{word, pieces, words_of}
use Rattle.text_laws.specs.Writing.{Writable, clause_words}
use Rattle.text_laws.proofs.Numerals.{number_words}
use Rattle.text_laws.proofs.Led.{Refuses, Claim, Clause, in_clause, step-in_clause, Awaits, Led, pieces_led, led_through, led_into_clause, led_into_line}

empty_clauses : (n m : ℕ) → AllByRecursion (Clause n) (replicate m [])
empty_clauses n zero = tt
empty_clauses n (suc m) = ((omega arith, tt), empty_clauses n m)

module _ (limit : ℕ) where
  -- a whole problem line goes on to a sound text, of empty clauses; and so do its first words
  line_goes_on : (n m : ℕ) → n < 100000 → n ≤ limit → m ≤ most_clauses
      → GoesOn limit (codes "p" ∷ codes "cnf" ∷ decimal n ∷ decimal m ∷ [])
  line_goes_on n m small narrow few =
      let cs : List (List ℤ) = replicate m [] in
      let same : length cs ≡ m = length-replicate m [] in
      let writable : Writable n cs = (small, omega arith, empty_clauses n m) in
      (flat_map clause_words cs, cs, (n, narrow, writable, rw same refl))

  goes_on_before : (ws vs : List (List ℕ)) → GoesOn limit (ws ++ vs) → GoesOn limit ws
  goes_on_before ws vs (rest, cs, s) = (vs ++ rest, cs, rw append_assoc at s)

  names_go_on : GoesOn limit (codes "p" ∷ codes "cnf" ∷ [])
  names_go_on =
      goes_on_before (codes "p" ∷ codes "cnf" ∷ []) (decimal 0 ∷ decimal 0 ∷ [])
      (line_goes_on 0 0 (omega arith) (omega arith) (omega arith))

  -- after the words ws, the word w at the place p
  module _ (ws : List (List ℕ)) (w : List ℕ) (p : ℕ) where
    abbrev WithIt : Type 0
    WithIt = GoesOn limit (ws ++ (w ∷ []))

    -- a word that doesn't fit in the problem line, and is no size that is too large
    module _ (no_further : WithIt → ⊥) (fine : TooMany limit ws w → ⊥) where
      not_named : (v : List ℕ) (e : Expected) → (w ≡ v → WithIt)
          → cond (bytes_eq w v) (Ok (Expecting e)) (Err (NotProblemLine p)) ≡ Err (NotProblemLine p)
      not_named v e fits =
          cond_both (bytes_eq w v) _ _ (λ r. r ≡ Err (NotProblemLine p))
          (λ t. absurd (no_further (fits ((bytes_eq-Decides w v).0 t)))) (λ _. refl)

      abbrev Above : ℕ → Type 0
      Above most = (k : ℕ) → number_word w ≡ Some (pos k) → most < k → TooMany limit ws w

      abbrev Fits : ℕ → Type 0
      Fits most = (k : ℕ) → w ≡ decimal k → k < 100000 → k ≤ most → WithIt

      not_sized : (most : ℕ) → Above most → Fits most
          → (o : Option ℤ) → number_word w ≡ o → within most p o ≡ Err (NotProblemLine p)
      not_sized most many fits None e = refl
      not_sized most many fits (Some (negsuc k)) e = refl
      not_sized most many fits (Some (pos k)) e =
          let (same, small) = (number_words w (pos k)).0 e in
          cond_both (ltb most k) _ _ (λ r. r ≡ Err (NotProblemLine p))
          (λ t. absurd (fine (many k e (grind (arith, nat_tests)))))
          (λ l. absurd (no_further (fits k same small (ltb-false most k l))))

      unfitting : (e : Expected) → Awaits limit e ws → expect limit e p w ≡ Err (NotProblemLine p)
      unfitting ProblemWord a =
          not_named (codes "p") FormatWord
          (λ e. rw (a, e) (goes_on_before (codes "p" ∷ []) (codes "cnf" ∷ []) names_go_on))
      unfitting FormatWord a = not_named (codes "cnf") Variables (λ e. rw (a, e) names_go_on)
      unfitting Variables a =
          let two : length ws ≡ 2 = ap length a in
          let many : Above limit = λ k e above.
          record {
            k = k;
            number = e;
            sizes = omega arith;
            variables = λ _. above;
            clauses = λ three. absurd (omega arith);
          } in
          let fits : Fits limit = λ k e small narrow.
          rw (a, e)
          (goes_on_before (codes "p" ∷ codes "cnf" ∷ decimal k ∷ []) (decimal 0 ∷ [])
          (line_goes_on k 0 small narrow (omega arith))) in
          ap then_clauses (not_sized limit many fits (number_word w) refl)
      unfitting (Clauses n) (less, narrow, a) =
          let three : length ws ≡ 3 = ap length a in
          let many : Above most_clauses = λ k e above.
          record {
            k = k;
            number = e;
            sizes = omega arith;
            variables = λ two. absurd (omega arith);
            clauses = λ _. above;
          } in
          let fits : Fits most_clauses = λ k e small few.
          rw (a, e) (line_goes_on n k less narrow few) in
          ap (then_complete n) (not_sized most_clauses many fits (number_word w) refl)

    too_large : TooMany limit ws w → (e : Expected) → Awaits limit e ws
        → expect limit e p w ≡ Err (TooLarge p)
    too_large many ProblemWord a = absurd (omega (arith, many.sizes, ap length a))
    too_large many FormatWord a = absurd (omega (arith, many.sizes, ap length a))
    too_large many Variables a =
        let above = many.variables (ap length a) in
        let test : ltb limit many.k ≡ true = grind (arith, nat_tests) in
        rw (many.number, test) refl
    too_large many (Clauses n) (small, narrow, a) =
        let above = many.clauses (ap length a) in
        let test : ltb most_clauses many.k ≡ true = grind (arith, nat_tests) in
        rw (many.number, test) refl

    -- a wrong word stops a reader, where the words before it lead
    abbrev Stops : ReadFault → Claim
    Stops f s ls cs = (cs ≡ []) × (step most_literals limit s ls p w ≡ stops f)

    line_stops : (f : ReadFault) → length ws < 4 → GoesOn limit ws
        → ((e : Expected) → Awaits limit e ws → after_problem (expect limit e p w) ≡ stops f)
        → Led limit (Stops f) ws []
    line_stops f l sound h = led_into_line limit (Stops f) ws l sound (λ e a. (refl, h e a))

    clause_stops : (f : ReadFault) (cs : List (List ℤ)) (b : Begun limit ws cs)
        → ((left : ℕ) → clause_word most_literals b.n left b.ls p (number_word w) ≡ stops f)
        → Led limit (Stops f) ws cs
    clause_stops f cs b h =
        led_into_clause limit (Stops f) ws cs b
        (λ left. (refl, step-in_clause limit b.n left b.ls p w ∙ h left))

    wrong_word : (cs : List (List ℤ)) (f : ReadFault) → p ≡ place_of (read_refusal f)
        → GoesOn limit ws → (WithIt → ⊥) → WrongWord limit ws cs w f → Led limit (Stops f) ws cs
    wrong_word cs (Text (NotProblemLine q)) here sound stuck (l, none, fine) =
        rw (none, ← here)
        (line_stops _ l sound (λ e a. ap after_problem (unfitting stuck fine e a)))
    wrong_word cs (Text (TooLarge q)) here sound stuck (none, many) =
        rw (none, ← here)
        (line_stops _ many.sizes.1 sound (λ e a. ap after_problem (too_large many e a)))
    wrong_word cs (Text (NotNumber q)) here sound stuck (b, none) =
        clause_stops _ cs b (λ left. rw (none, here) refl)
    wrong_word cs (Text (AboveVariables q)) here sound stuck (b, x, e, above) =
        clause_stops _ cs b (λ left. rw (e, here) (grind (arith, nat_tests)))
    wrong_word cs (Book (TooManyLiterals q)) here sound stuck (b, x, e, a, full) =
        clause_stops _ cs b (λ left. rw (e, here) (grind (arith, nat_tests)))
    wrong_word cs (Text (WordAfterClauses q)) here sound stuck s =
        led_through limit (Stops _) ws cs s (refl, rw here refl)
    wrong_word cs (Text (EndsInsideClause q)) here sound stuck h = absurd h
    wrong_word cs (Text (ClausesMissing q)) here sound stuck h = absurd h
    wrong_word cs (Text TooLong) here sound stuck h = absurd h
    wrong_word cs (Book (NoFreePlace q)) here sound stuck h = absurd h

  -- and a wrong end is refused
  module _ (ws : List (List ℕ)) (end : ℕ) where
    abbrev Ends : ReadFault → Claim
    Ends f s ls cs = (cs ≡ []) × (at_end end s ≡ refused f)

    ends_inside : (n left : ℕ) (ls : List ℤ) → 0 < length ls
        → at_end end (in_clause n left ls) ≡ refused (Text (EndsInsideClause end))
    ends_inside n left [] some = absurd (omega arith)
    ends_inside n left (x ∷ ls) some = refl

    wrong_end : (cs : List (List ℤ)) (f : ReadFault) → place_of (read_refusal f) ≡ end
        → GoesOn limit ws → WrongEnd limit ws cs f → Led limit (Ends f) ws cs
    wrong_end cs (Text (NotProblemLine q)) here sound (l, none) =
        rw none (led_into_line limit (Ends _) ws l sound (λ e a. (refl, rw here refl)))
    wrong_end cs (Text (EndsInsideClause q)) here sound (b, some) =
        led_into_clause limit (Ends _) ws cs b
        (λ left. (refl, rw here (ends_inside b.n left b.ls some)))
    wrong_end cs (Text (ClausesMissing q)) here sound (b, none) =
        led_into_clause limit (Ends _) ws cs b (λ left. (refl, rw (none, here) refl))
    wrong_end cs (Text (TooLarge q)) here sound h = absurd h
    wrong_end cs (Text (NotNumber q)) here sound h = absurd h
    wrong_end cs (Text (AboveVariables q)) here sound h = absurd h
    wrong_end cs (Text (WordAfterClauses q)) here sound h = absurd h
    wrong_end cs (Text TooLong) here sound h = absurd h
    wrong_end cs (Book f) here sound h = absurd h

module _ (limit : ℕ) (text : List ℕ) (cs : List (List ℤ)) (f : ReadFault) where
  refused_at_word : AtAWord limit text cs f → Refuses f cs (reading limit text)
  refused_at_word x =
      let p = place_of (read_refusal f) in
      let (before, after, e, v) = x.stands in
      let led = wrong_word limit x.ws x.w p cs f refl x.sound x.no_further x.wrong in
      rw (le-ltb most_bytes (length text) x.short, e)
      (pieces_led limit f (length text) (word p x.w ∷ after) (Stops limit x.ws x.w p f)
      (λ s ls ds h. rw (h.0, h.1) (refl, refl))
      before (BeforeProblem ProblemWord) [] cs (rw v led))

  refused_at_end : AtTheEnd limit text cs f → Refuses f cs (reading limit text)
  refused_at_end x =
      let ws = words_of (pieces text) in
      let end = length text in
      let left = pieces_led limit f end [] (Ends limit ws end f)
      (λ s ls ds h. rw (h.0, h.1) (refl, refl))
      (pieces text) (BeforeProblem ProblemWord) [] cs
      (wrong_end limit ws end cs f x.stands x.sound x.wrong) in
      rw (le-ltb most_bytes end x.short) (rw append-nil at left)

pub reason_refuses : (limit : ℕ) (text : List ℕ) (cs : List (List ℤ)) (f : ReadFault)
    → RefusedAs limit text cs f
    → (clauses_of (reading limit text) ≡ cs) × (fault_of (reading limit text) ≡ Some f)
reason_refuses limit text cs f (too_long long) =
    let test : ltb most_bytes (length text) ≡ true = grind (arith, nat_tests) in
    rw test (refl, refl)
reason_refuses limit text cs f (at_a_word _ _ x) = refused_at_word limit text cs f x
reason_refuses limit text cs f (at_the_end _ _ x) = refused_at_end limit text cs f x
