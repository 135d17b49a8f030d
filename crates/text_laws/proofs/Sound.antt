-- A text ends well exactly when its words say clauses. Assumes nothing.
use Rattle.std.proofs.Common.{◌≡◌, ℕ, zero, suc, ◌-◌, ◌<◌, ◌≤◌, min, cond, eqb, ltb, leb, ◌↔◌, List, [], ◌∷◌, ◌++◌, length, ℤ, pos, negsuc, nat_abs, Some, None, Ok, Err, codes, decimal, Option, Result, sym, refl, ap, ◌∙◌, append_assoc, append-nil, arith, length-append}
use mathlib.Core.List.{nil≢cons, cons≢nil}
use mathlib.Core.Logic.Iff
use lib.Dec.{eqb-suc-zero}
use Rattle.std.specs.List.{flat_map, AllByRecursion}
use Rattle.std.specs.Fmt.{signed_decimal}
use Rattle.std.specs.Str.{bytes_eq}
use Rattle.std.proofs.lemmas.Fmt.{decimal_digit}
use Rattle.std.proofs.lemmas.Slice.Eq.{bytes_eq-Decides}
use Rattle.std.proofs.lemmas.Bool.{le-ltb, ltb-false, cond_both}
use Rattle.std.proofs.lemmas.Bool.Decides.{nat_tests}
use Rattle.text.specs.declared.faults.TextFault.{TextFault}
use Rattle.text.specs.declared.faults.ReadFault.{ReadFault}
use Rattle.text.specs.declared.problem.Expected.{Expected}
use Rattle.text.specs.declared.problem.Expected.TheVariants.{ProblemWord, FormatWord, Variables, Clauses}
use Rattle.text.specs.declared.problem.Progress.{Progress}
use Rattle.text.specs.declared.problem.Progress.TheVariants.{Expecting, Complete}
use Rattle.text.specs.declared.reader.State.{State}
use Rattle.text.specs.declared.reader.State.TheVariants.{BeforeProblem, BetweenClauses, InsideClause, Done}
use Rattle.text_laws.specs.Laws.{SoundTextsSayTheirClauses}
use Rattle.limits.specs.Limits.{most_bytes, most_clauses, most_literals}
use Rattle.tokens.specs.Numbers.{number_word}
use Rattle.text.specs.Problem.{remaining, within, then_clauses, then_complete, expect}
use Rattle.text.specs.Reading.{Reading, refused, clauses_of, fault_of, Step, on, gives, stops, between, after_problem, clause_word, step, at_end, go_on, read}
use Rattle.tokens.specs.Words.{Piece, word, comment, pieces, words_of}
use Rattle.text_laws.specs.Writing.{Literal, Writable, clause_words, saying}
use Rattle.text_laws.specs.Standing.{Sound}
use Rattle.text_laws.proofs.Numerals.{number_words}

-- a result that is no refusal, and P holds of it
abbrev pub Accepted : (Progress → Type 0) → Result Progress TextFault → Type 0
Accepted P (Err f) = ⊥
Accepted P (Ok g) = P g

-- w is a number up to `most` in decimal, and P holds of it
abbrev Number : ℕ → (ℕ → Type 0) → List ℕ → Type 0
Number most P w = (k : ℕ) × (w ≡ decimal k) × (k < 100000) × (k ≤ most) × P k

-- w is the word that is expected, and P holds of what it brings
abbrev Brings : ℕ → (Progress → Type 0) → Expected → List ℕ → Type 0
Brings limit P ProblemWord w = (w ≡ codes "p") × P (Expecting FormatWord)
Brings limit P FormatWord w = (w ≡ codes "cnf") × P (Expecting Variables)
Brings limit P Variables w = Number limit (λ n. P (Expecting (Clauses n))) w
Brings limit P (Clauses n) w = Number most_clauses (λ m. P (Complete (remaining n m))) w

-- only the word v is accepted
same_word : (P : Progress → Type 0) (w v : List ℕ) (g : Progress) (f : TextFault) → Accepted P (cond (bytes_eq w v) (Ok g) (Err f)) ↔ ((w ≡ v) × P g)
same_word P w v g f = (
  cond_both (bytes_eq w v) _ _ (λ r. Accepted P r → (w ≡ v) × P g) (λ t h. ((bytes_eq-Decides w v).0 t, h)) (λ _ h. absurd h),
  λ h. rw ((bytes_eq-Decides w v).1 h.0) h.1,
)

-- only the decimals up to `most` are: Q is what holds of no refusal
module _ (most place : ℕ) (w : List ℕ) (Q : Result ℕ TextFault → Type 0) (never : (f : TextFault) → Q (Err f) → ⊥) where
  within_tells : (o : Option ℤ) → number_word w ≡ o → Q (within most place o) → Number most (λ k. Q (Ok k)) w
  within_tells None e = λ h. absurd (never _ h)
  within_tells (Some (negsuc k)) e = λ h. absurd (never _ h)
  within_tells (Some (pos k)) e =
      let d = (number_words w (pos k)).0 e in
      cond_both (ltb most k) _ _ (λ r. Q r → Number most (λ k. Q (Ok k)) w) (λ _ h. absurd (never _ h)) (λ l h. (k, d.0, d.1, ltb-false most k l, h))

  within_number : Q (within most place (number_word w)) ↔ Number most (λ k. Q (Ok k)) w
  within_number = (within_tells (number_word w) refl, λ (k, e, small, l, h). rw ((number_words w (pos k)).1 e small, le-ltb most k l) h)

-- a word of the problem line is accepted exactly if it is the one that is expected
pub expect-brings : (limit : ℕ) (P : Progress → Type 0) (e : Expected) (p : ℕ) (w : List ℕ) → Accepted P (expect limit e p w) ↔ Brings limit P e w
expect-brings limit P ProblemWord p w = same_word P w (codes "p") _ _
expect-brings limit P FormatWord p w = same_word P w (codes "cnf") _ _
expect-brings limit P Variables p w = within_number limit p w (λ r. Accepted P (then_clauses r)) (λ f h. h)
expect-brings limit P (Clauses n) p w = within_number most_clauses p w (λ r. Accepted P (then_complete n r)) (λ f h. h)

-- from a progress on, the words ws complete the problem line, and P holds of n, m and the words after it
abbrev pub Completes : ℕ → (ℕ → ℕ → List (List ℕ) → Type 0) → Progress → List (List ℕ) → Type 0
Completes limit P (Complete r) ws = P r.variables r.clauses ws
Completes limit P (Expecting e) [] = ⊥
Completes limit P (Expecting e) (w ∷ ws) = Brings limit (λ g. Completes limit P g ws) e w

-- the words ws begin with a whole problem line, and P holds of n, m and the words after it
abbrev pub HasLine : ℕ → (ℕ → ℕ → List (List ℕ) → Type 0) → List (List ℕ) → Type 0
HasLine limit P ws =
    (n m : ℕ) × (rest : List (List ℕ)) × (n < 100000) × (n ≤ limit) × (m ≤ most_clauses)
    × (ws ≡ codes "p" ∷ codes "cnf" ∷ decimal n ∷ decimal m ∷ rest) × P n m rest

-- the two say the same
module _ (limit : ℕ) (P : ℕ → ℕ → List (List ℕ) → Type 0) where
  pub line_tells : (ws : List (List ℕ)) → Completes limit P (Expecting ProblemWord) ws → HasLine limit P ws
  line_tells [] h = absurd h
  line_tells (w ∷ []) h = absurd h.1
  line_tells (w ∷ v ∷ []) h = absurd h.1.1
  line_tells (w ∷ v ∷ a ∷ []) h = absurd h.1.1.4
  line_tells (w ∷ v ∷ a ∷ b ∷ rest) (d, (e, (n, f, small, l, (m, g, _, few, h)))) = (n, m, rest, small, l, few, cc, h)

  pub line_completes : (ws : List (List ℕ)) → HasLine limit P ws → Completes limit P (Expecting ProblemWord) ws
  line_completes ws (n, m, rest, small, l, few, e, h) = rw e (refl, (refl, (n, refl, small, l, (m, refl, omega arith, few, h))))

-- a reading of just these clauses, that ends well
abbrev Says : List (List ℤ) → Reading → Type 0
Says cs r = (clauses_of r ≡ cs) × (fault_of r ≡ None)

-- a refusal says no clauses
pub refused_says : {P : Type 0} (f : ReadFault) (cs : List (List ℤ)) → (P → ⊥) → Says cs (refused f) ↔ P
refused_says f cs never = (λ (_, e). let no : ◌≡◌ {A = ℕ} 0 1 = cc in absurd (omega arith), λ h. absurd (never h))

-- the words ws say m clauses cs over n variables; no word says a number above 99999
abbrev pub ClausesSaid : ℕ → ℕ → List (List ℕ) → List (List ℤ) → Type 0
ClausesSaid n m ws cs =
    (length cs ≡ m) × (ws ≡ flat_map clause_words cs) × AllByRecursion (λ c. (length c ≤ most_literals) × AllByRecursion (Literal (min n 99999)) c) cs

-- the words ws say `left` clauses cs, where the literals ls of the first one are read already
abbrev pub RestSaid : ℕ → ℕ → List ℤ → List (List ℕ) → List (List ℤ) → Type 0
RestSaid n left ls ws cs =
    (xs : List ℤ) × (ds : List (List ℤ)) × (rest : List (List ℕ)) × (cs ≡ (ls ++ xs) ∷ ds) × (ws ≡ clause_words xs ++ rest)
    × (length xs ≤ most_literals - length ls) × AllByRecursion (Literal (min n 99999)) xs × ClausesSaid n (left - 1) rest ds

-- in a state, the words ws that are left say the clauses cs that are left
abbrev pub Said : ℕ → State → List ℤ → List (List ℕ) → List (List ℤ) → Type 0
Said limit (BeforeProblem e) ls ws cs = Completes limit (λ n m rest. ClausesSaid n m rest cs) (Expecting e) ws
Said limit (BetweenClauses left) ls ws cs = RestSaid left.variables left.clauses [] ws cs
Said limit (InsideClause left) ls ws cs = RestSaid left.variables left.clauses ls ws cs
Said limit Done ls ws cs = (ws ≡ []) × (cs ≡ [])

-- after the problem line or a clause, m clauses are left
module _ (limit n : ℕ) where
  between_tells : (m : ℕ) (ws : List (List ℕ)) (cs : List (List ℤ)) → Said limit (between n m) [] ws cs → ClausesSaid n m ws cs
  between_tells m ws cs =
      cond_both (eqb m 0) _ _ (λ s. Said limit s [] ws cs → ClausesSaid n m ws cs)
      (λ z (e, f). rw (e, f) (grind (arith, nat_tests), refl, tt))
      (λ z (xs, ds, rest, e, f, l, a, (k, g, b)). rw (e, f, g) (grind (arith, nat_tests), refl, ((l, a), b)))

  between_said : (m : ℕ) (ws : List (List ℕ)) (cs : List (List ℤ)) → ClausesSaid n m ws cs → Said limit (between n m) [] ws cs
  between_said zero ws [] h = (h.1, refl)
  between_said zero ws (c ∷ cs) h = absurd (omega arith)
  between_said (suc m) ws [] h = absurd (omega arith)
  between_said (suc m) ws (c ∷ cs) (k, e, a) = rw eqb-suc-zero (c, cs, flat_map clause_words cs, refl, e, a.0.0, a.0.1, (omega arith, refl, a.1))

-- 0 is written 0
pub zero_word : (x : ℤ) → nat_abs x ≡ 0 → signed_decimal x ≡ 48 ∷ []
zero_word (pos n) z = rw z (decimal_digit 0 (omega arith))
zero_word (negsuc n) z = absurd (omega arith)

-- a clause that is being read has a word yet, its 0
no_words : (xs : List ℤ) (rest : List (List ℕ)) → [] ≡ clause_words xs ++ rest → ⊥
no_words [] rest e = nil≢cons e
no_words (x ∷ xs) rest e = nil≢cons e

-- a word w before the words ws
module _ (limit : ℕ) (ws : List (List ℕ)) (cs : List (List ℤ)) where
  -- after the step that w brings, the words ws say what is left of the clauses cs
  abbrev pub Brought : Step → Type 0
  Brought (on s ls) = Said limit s ls ws cs
  Brought (gives ls p s) = (ds : List (List ℤ)) × (cs ≡ ls ∷ ds) × Said limit s [] ws ds
  Brought (stops f) = ⊥

  -- so it is of the reading, if it is so of what is read after w
  go_on_says : (t : Step) (rest : State → List ℤ → Reading) → ((s : State) (ls : List ℤ) (ds : List (List ℤ)) → Says ds (rest s ls) ↔ Said limit s ls ws ds)
      → Says cs (go_on t rest) ↔ Brought t
  go_on_says (on s ls) rest more = more s ls cs
  go_on_says (gives ls p s) rest more = (
    λ (e, f). (clauses_of (rest s []), sym e, (more s [] _).0 (refl, f)),
    λ (ds, e, h). let k = (more s [] ds).1 h in (ap (λ ds. ls ∷ ds) k.0 ∙ sym e, k.1),
  )
  go_on_says (stops f) rest more = refused_says f cs (λ h. h)

  -- a word of the problem line, by what `expect` makes of it
  problem_brings : (r : Result Progress TextFault) → Brought (after_problem r) ↔ Accepted (λ g. Completes limit (λ n m rest. ClausesSaid n m rest cs) g ws) r
  problem_brings (Err f) = Iff.rfl
  problem_brings (Ok (Expecting e)) = Iff.rfl
  problem_brings (Ok (Complete r)) = (between_tells limit r.variables r.clauses ws cs, between_said limit r.variables r.clauses ws cs)

  -- a word of a clause: its next literal, or its 0
  module _ (n left : ℕ) (ls : List ℤ) (p : ℕ) (w : List ℕ) where
    clause_tells : (o : Option ℤ) → number_word w ≡ o → Brought (clause_word most_literals n left ls p o) → RestSaid n left ls (w ∷ ws) cs
    clause_tells None e = λ h. absurd h
    clause_tells (Some x) e =
        let d = (number_words w x).0 e in
        let P : Step → Type 0 = λ t. Brought t → RestSaid n left ls (w ∷ ws) cs in
        cond_both (eqb (nat_abs x) 0) _ _ P
        (λ z (ds, f, s). ([], ds, ws, rw append-nil f, ap (λ v. v ∷ ws) (d.0 ∙ zero_word x (grind (arith, nat_tests))), omega arith, tt, between_tells limit n (left - 1) ws ds s))
        (λ z. cond_both (ltb n (nat_abs x)) _ _ P (λ _ h. absurd h)
        (λ k. cond_both (leb most_literals (length ls)) _ _ P (λ _ h. absurd h)
        (λ l (xs, ds, rest, f, g, m, a, s).
        let r = length-append ls (x ∷ []) in
        (x ∷ xs, ds, rest, rw append_assoc at f, cc, grind (arith, nat_tests), (grind (arith, nat_tests), a), s))))

    clause_said : RestSaid n left ls (w ∷ ws) cs → Brought (clause_word most_literals n left ls p (number_word w))
    clause_said ([], ds, rest, e, f, l, a, s) =
        let first : w ≡ 48 ∷ [] = cc in
        let after : ws ≡ rest = cc in
        rw first (ds, rw append-nil at e, between_said limit n (left - 1) ws ds (rw after s))
    clause_said (x ∷ xs, ds, rest, e, f, l, a, s) =
        let known = (number_words w x).1 (cc) (omega arith) in
        let takes : clause_word most_literals n left ls p (Some x) ≡ on (InsideClause (remaining n left)) (ls ++ x ∷ []) = grind (arith, nat_tests) in
        rw (known, takes) (xs, ds, rest, rw append_assoc e, cc, omega (arith, length-append ls (x ∷ [])), a.1, s)

  -- a word in any state
  pub step-brings : (s : State) (ls : List ℤ) (p : ℕ) (w : List ℕ) → Brought (step most_literals limit s ls p w) ↔ Said limit s ls (w ∷ ws) cs
  step-brings (BeforeProblem e) ls p w = Iff.trans (problem_brings (expect limit e p w)) (expect-brings limit _ e p w)
  step-brings (BetweenClauses left) ls p w = (clause_tells left.variables left.clauses [] p w (number_word w) refl, clause_said left.variables left.clauses [] p w)
  step-brings (InsideClause left) ls p w = (clause_tells left.variables left.clauses ls p w (number_word w) refl, clause_said left.variables left.clauses ls p w)
  step-brings Done ls p w = (λ h. absurd h, λ (e, _). absurd (cons≢nil e))

module _ (limit end : ℕ) where
  pub end_says : (s : State) (ls : List ℤ) (cs : List (List ℤ)) → Says cs (at_end end s) ↔ Said limit s ls [] cs
  end_says (BeforeProblem e) ls cs = refused_says _ cs (λ h. h)
  end_says (BetweenClauses left) ls cs = refused_says _ cs (λ h. no_words h.0 h.2 h.4)
  end_says (InsideClause left) ls cs = refused_says _ cs (λ h. no_words h.0 h.2 h.4)
  end_says Done ls cs = (λ (e, _). (refl, sym e), λ (_, e). (sym e, refl))

  -- pieces are read as the clauses that their words say
  read_says : (s : State) (ls : List ℤ) (ps : List Piece) (cs : List (List ℤ)) → Says cs (read most_literals limit end s ls ps) ↔ Said limit s ls (words_of ps) cs
  read_says s ls [] cs = end_says s ls cs
  read_says s ls (comment p c ∷ ps) cs = read_says s ls ps cs
  read_says s ls (word p w ∷ ps) cs =
      Iff.trans (go_on_says limit (words_of ps) cs (step most_literals limit s ls p w) (λ s' ls'. read most_literals limit end s' ls' ps) (λ s' ls'. read_says s' ls' ps))
      (step-brings limit (words_of ps) cs s ls p w)

-- a problem line with n and m, and m clauses after it, are the words `saying n cs`
line_says : (limit : ℕ) (ws : List (List ℕ)) (cs : List (List ℤ))
    → HasLine limit (λ n m rest. ClausesSaid n m rest cs) ws ↔ Sound limit ws cs
line_says limit ws cs = (
  λ (n, m, rest, small, l, few, e, (k, f, a)). let same : min n 99999 ≡ n = omega arith in (n, l, (small, omega arith, rw same at a), cc),
  λ (n, l, (small, few, a), e). let same : min n 99999 ≡ n = omega arith in (n, length cs, flat_map clause_words cs, small, l, few, e, (refl, refl, rw same a)),
)

-- the words that say clauses, from the start on, are those of a sound text
pub said-sound : (limit : ℕ) (ws : List (List ℕ)) (cs : List (List ℤ)) → Said limit (BeforeProblem ProblemWord) [] ws cs ↔ Sound limit ws cs
said-sound limit ws cs = (
  λ h. (line_says limit ws cs).0 (line_tells limit _ ws h),
  λ s. line_completes limit _ ws ((line_says limit ws cs).1 s),
)

pub sound_texts : SoundTextsSayTheirClauses
sound_texts limit text cs =
    let ws = words_of (pieces text) in
    let says = read_says limit (length text) (BeforeProblem ProblemWord) [] (pieces text) cs in (
      cond_both (ltb most_bytes (length text)) _ _ (λ r. Says cs r → (n : ℕ) × (n ≤ limit) × Writable n cs × (length text ≤ most_bytes) × (ws ≡ saying n cs))
          (λ _ h. absurd ((refused_says _ cs (λ no. no)).0 h))
          (λ short h. let (n, l, a, e) = (said-sound limit ws cs).0 (says.0 h) in (n, l, a, ltb-false _ _ short, e)),
      λ n l a short e. rw (le-ltb most_bytes (length text) short) (says.1 ((said-sound limit ws cs).1 (n, l, a, e))),
    )
