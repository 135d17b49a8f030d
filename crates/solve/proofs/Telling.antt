-- What the program answers is so of the text. Assumes nothing.
use Rattle.std.proofs.Common.{◌≡◌, ℕ, ◌≤◌, true, ltb, leb, List, length, ℤ, Some, None, Ok, Err, Result, ⊎_elim, refl, sym, ap, ◌∙◌, subst, arith}
use Rattle.limits.specs.Limits.{program_bytes, program_places}
use Rattle.std.proofs.lemmas.Bool.{cond_both, ltb-true, ltb-false, lt-ltb, le-leb, and_from, not-true, false≢true}
use Rattle.text.specs.declared.faults.ReadFault.{ReadFault}
use Rattle.text.specs.declared.faults.TextFault.{TextFault}
use Rattle.text.specs.Problem.{head_of}
use Rattle.text.specs.Reading.{reading, clauses_of, fault_of}
use Rattle.words.specs.Bits.{one_to}
use Rattle.answers.specs.declared.run.Outcome.{Outcome}
use Rattle.answers.specs.declared.run.Outcome.TheVariants.{Met, NoneMeets, Spent, Full}
use Rattle.answers.specs.declared.run.Ran.{Ran}
use Rattle.histories.specs.States.{State, session_limits}
use Rattle.histories.specs.Guarantees.{meets_all}
use Rattle.histories.proofs.Histories.{every_history, allowed}
use Rattle.pages.specs.Reports.{told_of}
use Rattle.solve.specs.Answers.{headed, solved}
use Rattle.solve.specs.Promises.{Saying, Judges, Solves, SaysSo}
use Rattle.solve.proofs.Ending.{xss, Whole, by_ending}
use Rattle.solve.proofs.Saying.{HasVariables, said_head, said_reading, reading_said}

-- ---- the verdict

module _ (text : List ℕ) (n : ℕ) (r : Ran) (u : State) (w : Whole text n r u) where
  judges : (o : Outcome) → r.outcome ≡ o → Judges n (xss text n) (told_of o u.assignment)
  judges Met e =
      let b = (every_history session_limits allowed program_places w.log u w.reached).bears (w.newest ∙ ap Some e) in
      (b.0 ∙ w.same_n, ap (meets_all u.assignment) (sym w.same_clauses) ∙ b.1)
  judges NoneMeets e = λ a m.
      let tells = (every_history session_limits allowed program_places w.log u w.reached).tells NoneMeets (w.newest ∙ ap Some e, refl) in
      let met = tells.1 (a, m.0 ∙ sym w.same_n, ap (meets_all a) w.same_clauses ∙ m.1) in
      absurd (cc met)
  judges Spent e = tt
  judges Full e = tt

module _ (text : List ℕ) (short : length text ≤ program_bytes) where
  says : (n m : ℕ) (r : Ran) (u : State) → head_of text ≡ Ok (n, m) → Whole text n r u → Saying text n (xss text n)
  says n m r u head w = reading_said text short n m head w.some w.few w.sound

  headed_solves : (h : Result (ℕ × ℕ) TextFault) → head_of text ≡ h → Solves text (headed text h)
  headed_solves (Err f) e = tt
  headed_solves (Ok (n, m)) e =
      by_ending text n (Solves text) (λ _. tt) (λ _ _. tt) (λ r u w. (n, xss text n, says n m r u e w, judges text n r u w r.outcome refl))

  -- the words say as many variables as the head
  same_head : (n m k : ℕ) (cs : List (List ℤ)) → head_of text ≡ Ok (n, m) → Saying text k cs → k ≡ n
  same_head n m k cs head s = subst (HasVariables k) head (said_head text short k cs s)

  headed_says : (h : Result (ℕ × ℕ) TextFault) → head_of text ≡ h → SaysSo text (headed text h)
  headed_says (Err f) e = λ _ k cs s. absurd (subst (HasVariables k) e (said_head text short k cs s))
  headed_says (Ok (n, m)) e =
      by_ending text n (SaysSo text)
      (λ out _ k cs s.
      let same = same_head n m k cs e s in
      let some = s.some in
      let few = s.few in
      let within : one_to 64 n ≡ true = and_from (ltb 0 n) (leb n 64) (lt-ltb 0 n (omega arith)) (le-leb n 64 (omega arith)) in
      absurd (false≢true (sym (not-true (one_to 64 n) out) ∙ within)))
      (λ f h _ k cs s.
      let same = same_head n m k cs e s in
      let read = subst (λ j. (clauses_of (reading j text) ≡ cs) × (fault_of (reading j text) ≡ None)) same (said_reading text short k cs s) in
      ⊎_elim (λ g. absurd (none_some g.0 (sym read.1 ∙ g.1))) (λ x. (x.0, omega (arith, x.1, ap length read.0))) h)
      (λ r u w. (short, (n, xss text n, says n m r u e w)))
    where
      none_some : (g : ReadFault) → None ≡ Some g → ⊥
      none_some g z = cc

-- ---- whatever the text's length

pub solves : (text : List ℕ) → Solves text (solved text)
solves text =
    cond_both (ltb program_bytes (length text)) _ _ (Solves text) (λ _. tt) (λ few. headed_solves text (ltb-false _ _ few) (head_of text) refl)

pub says_so : (text : List ℕ) → SaysSo text (solved text)
says_so text =
    cond_both (ltb program_bytes (length text)) _ _ (SaysSo text)
    (λ long short. absurd (omega (arith, ltb-true _ _ long))) (λ few. headed_says text (ltb-false _ _ few) (head_of text) refl)
