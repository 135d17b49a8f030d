-- Each clause ends at its 0, and each refusal has its reason. Assumes nothing.
use Rattle.std.proofs.Common.{◌≡◌, ℕ, ◌<◌, ◌≤◌, ltb, List, [], ◌∷◌, ◌++◌, length, map, get_or, ℤ, pos, negsuc, Some, None, codes, decimal, Option, refl, ap, ◌∙◌, subst, append_assoc, append-nil, arith, length-append}
use Rattle.std.proofs.lemmas.Bool.{ltb-false, cond_both}
use Rattle.std.proofs.lemmas.Bool.Decides.{nat_tests}
use Rattle.text.specs.declared.faults.ReadFault.{ReadFault}
use Rattle.text.specs.declared.problem.Expected.TheVariants.{ProblemWord}
use Rattle.text.specs.declared.reader.State.{State}
use Rattle.text.specs.declared.reader.State.TheVariants.{BeforeProblem}
use Rattle.limits.specs.Limits.{most_bytes, most_literals}
use Rattle.tokens.specs.Numbers.{number_word}
use Rattle.text.specs.Reading.{Reading, clause, well, refused, clauses_of, fault_of, Step, on, gives, stops, step, at_end, go_on, read, reading}
use Rattle.tokens.specs.Words.{Piece, word, comment, pieces, words_of}
use Rattle.text_laws.specs.Laws.{placed, EachClauseEndsAtItsZero}
use Rattle.text_laws.specs.Standing.{WordAt, GoesOn, begun}
use Rattle.text_laws.specs.Refusing.{RefusedAs, too_long, at_a_word, at_the_end}
use Rattle.text_laws.proofs.Numerals.{number_words}
use Rattle.text_laws.proofs.NoFurther.{TellsAt, step-at}
use Rattle.text_laws.proofs.Standing.{Stood, Keeps, step_kept, EndKept, end_kept, Reached, Reaches, reached_first, step_reaches, goes_on, no_end}

words_of-append : (ps qs : List Piece) → words_of (ps ++ qs) ≡ words_of ps ++ words_of qs
words_of-append [] qs = refl
words_of-append (word p w ∷ ps) qs = ap (λ ws. w ∷ ws) (words_of-append ps qs)
words_of-append (comment p c ∷ ps) qs = words_of-append ps qs

abbrev told_number : Option ℤ → ℕ
told_number None = 0
told_number (Some (negsuc k)) = 0
told_number (Some (pos k)) = k

module _ (limit : ℕ) (text : List ℕ) where
  -- the pieces ps are left of the text, and the words ws stand before them
  abbrev LeftAfter : List (List ℕ) → List Piece → Type 0
  LeftAfter ws ps = (before : List Piece) × (pieces text ≡ before ++ ps) × (words_of before ≡ ws)

  past : (ws : List (List ℕ)) (x : Piece) (ps : List Piece)
      → LeftAfter ws (x ∷ ps) → LeftAfter (ws ++ words_of (x ∷ [])) ps
  past ws x ps (before, e, f) =
      (before ++ (x ∷ []), rw append_assoc e, words_of-append before _ ∙ rw f refl)

  all_past : (ws : List (List ℕ)) → LeftAfter ws [] → words_of (pieces text) ≡ ws
  all_past ws (before, e, f) = ap words_of (e ∙ append-nil before) ∙ f

  -- after the clauses cs, the clause of the literals ls ends at the word 0 at p
  abbrev EndsAt : List (List ℤ) → List ℤ → ℕ → Type 0
  EndsAt cs ls p =
      (n m : ℕ) × (n < 100000) × (m < 100000) × WordAt text p (begun n m cs ls) (codes "0")

  -- after the clauses cs, each clause of a reading ends at its 0, and its refusal has its reason
  abbrev Explained : List (List ℤ) → Reading → Type 0
  Explained cs (clause ls p r) = EndsAt cs ls p × Explained (cs ++ (ls ∷ [])) r
  Explained cs well = Unit {0}
  Explained cs (refused f) = RefusedAs limit text cs f

  module _ (short : length text ≤ most_bytes) where
    end_explained : (s : State) (ls : List ℤ) (ws : List (List ℕ)) (cs : List (List ℤ))
        → words_of (pieces text) ≡ ws → Reached limit s ls ws
        → (r : Reading) → at_end (length text) s ≡ r → EndKept limit (length text) ws cs r
        → Explained cs r
    end_explained s ls ws cs same reached (clause xs p r) e k = absurd k
    end_explained s ls ws cs same reached well e k = tt
    end_explained s ls ws cs same reached (refused f) e k =
        at_the_end cs f (record {
          short = short;
          stands = k.0;
          sound = rw same (goes_on limit s ls ws reached);
          not_yet = rw same (no_end limit s ls ws (length text) f reached e);
          wrong = rw same k.1;
        })

    -- a step, if what is read after it is explained
    module _ (p : ℕ) (w : List ℕ) (ps : List Piece) (ws : List (List ℕ)) (cs : List (List ℤ))
        (left : LeftAfter ws (word p w ∷ ps)) (sound : GoesOn limit ws)
        (rest : State → List ℤ → Reading)
        (more : (s : State) (ls : List ℤ) (ds : List (List ℤ))
        → Stood limit s ls (ws ++ (w ∷ [])) ds → Reached limit s ls (ws ++ (w ∷ []))
        → Explained ds (rest s ls)) where
      step_explained : (t : Step) → TellsAt p t → Keeps limit p w ws cs t
          → Reaches limit (ws ++ (w ∷ [])) t → Explained cs (go_on t rest)
      step_explained (on s ls) at k reaches = more s ls cs k reaches
      step_explained (gives ls q s) at (here, zero, (b, same), stood) reaches =
          let (before, e, f) = left in
          let words = b.words in
          let ends : WordAt text q (begun b.n b.m cs ls) (codes "0") =
          (before, ps, rw (here, ← zero) e, f ∙ (rw same at words)) in
          ((b.n, b.m, b.writable.0, omega (arith, b.few), ends), more s [] _ stood reaches)
      step_explained (stops f) at k reaches =
          let (before, e, f') = left in
          at_a_word cs f (record {
            short = short;
            ws = ws;
            w = w;
            stands = (before, ps, rw at e, f');
            sound = sound;
            no_further = reaches;
            wrong = k;
          })

    explained : (s : State) (ls : List ℤ) (ps : List Piece) (ws : List (List ℕ))
        (cs : List (List ℤ)) → LeftAfter ws ps → Stood limit s ls ws cs → Reached limit s ls ws
        → Explained cs (read most_literals limit (length text) s ls ps)
    explained s ls [] ws cs left stood reached =
        end_explained s ls ws cs (all_past ws left) reached (at_end (length text) s) refl
        (end_kept limit (length text) ws cs s ls stood)
    explained s ls (comment p c ∷ ps) ws cs left stood reached =
        let then = past ws (comment p c) ps left in
        explained s ls ps ws cs (rw append-nil at then) stood reached
    explained s ls (word p w ∷ ps) ws cs left stood reached =
        step_explained p w ps ws cs left (goes_on limit s ls ws reached)
        (λ s' ls'. read most_literals limit (length text) s' ls' ps)
        (λ s' ls' ds. explained s' ls' ps (ws ++ (w ∷ [])) ds (past ws (word p w) ps left))
        (step most_literals limit s ls p w) (step-at most_literals limit s ls p w)
        (step_kept limit p w ws cs s ls stood) (step_reaches limit s ls ws p w reached)

  reading_explained : Explained [] (reading limit text)
  reading_explained =
      cond_both (ltb most_bytes (length text)) _ _ (Explained [])
      (λ long. too_long (grind (arith, nat_tests)))
      (λ short. explained (ltb-false _ _ short) (BeforeProblem ProblemWord) [] (pieces text) [] []
      ([], refl, refl) (refl, refl) (reached_first limit))

  refusal_explained : (r : Reading) (cs : List (List ℤ)) (f : ReadFault) → Explained cs r
      → fault_of r ≡ Some f → RefusedAs limit text (cs ++ clauses_of r) f
  refusal_explained (clause ls p r) cs f (_, h) e =
      rw (← append_assoc cs (ls ∷ []) (clauses_of r)) (refusal_explained r (cs ++ (ls ∷ [])) f h e)
  refusal_explained well cs f h e = absurd (let no : ◌≡◌ {A = ℕ} 0 1 = cc in omega arith)
  refusal_explained (refused g) cs f h e =
      let same : g ≡ f = cc in
      rw (append-nil, ← same) h

  clause_explained : (r : Reading) (cs : List (List ℤ)) (done more : List (List ℤ × ℕ))
      (ls : List ℤ) (p : ℕ) → Explained cs r → placed r ≡ done ++ ((ls, p) ∷ more)
      → EndsAt (cs ++ map (λ d. d.0) done) ls p
  clause_explained (clause xs q r) cs [] more ls p (h, _) e =
      let same : ◌≡◌ {A = List ℤ × ℕ} (xs, q) (ls, p) = cc in
      rw append-nil (subst (λ d. EndsAt cs d.0 d.1) same h)
  clause_explained (clause xs q r) cs (d ∷ done) more ls p (_, h) e =
      let same : ◌≡◌ {A = List ℤ × ℕ} (xs, q) d = cc in
      let rest : placed r ≡ done ++ ((ls, p) ∷ more) = cc in
      rw (← append_assoc cs (d.0 ∷ []) (map (λ d. d.0) done), ← ap (λ d. d.0) same)
      (clause_explained r (cs ++ (xs ∷ [])) done more ls p h rest)
  clause_explained well cs done more ls p h e =
      absurd (omega (arith, ap length e, length-append done ((ls, p) ∷ more)))
  clause_explained (refused f) cs done more ls p h e =
      absurd (omega (arith, ap length e, length-append done ((ls, p) ∷ more)))

  -- the number that the text's word i is, counted from 0
  abbrev size : ℕ → ℕ
  size i = told_number (number_word (get_or (words_of (pieces text)) i []))

  same_size : (i k : ℕ) → k < 100000 → get_or (words_of (pieces text)) i [] ≡ decimal k
      → size i ≡ k
  same_size i k small e = rw (e, (number_words (decimal k) (pos k)).1 refl small) refl

  clause_at : (done more : List (List ℤ × ℕ)) (ls : List ℤ) (p : ℕ)
      → placed (reading limit text) ≡ done ++ ((ls, p) ∷ more)
      → WordAt text p (begun (size 2) (size 3) (map (λ d. d.0) done) ls) (codes "0")
  clause_at done more ls p e =
      let h = clause_explained (reading limit text) [] done more ls p reading_explained e in
      let (n, m, small, few, (before, after, at, words)) = h in
      let all = ap words_of at ∙ words_of-append before _ in
      let n_is = same_size 2 n small (rw (all, words) refl) in
      let m_is = same_size 3 m few (rw (all, words) refl) in
      rw (n_is, m_is) (before, after, at, words)

-- every clause has the same sizes before it: the text's third and fourth word
pub clauses_end_at_zeros : EachClauseEndsAtItsZero
clauses_end_at_zeros limit text = (size limit text 2, size limit text 3, clause_at limit text)

pub refused_has_reason : (limit : ℕ) (text : List ℕ) (cs : List (List ℤ)) (f : ReadFault)
    → (clauses_of (reading limit text) ≡ cs) × (fault_of (reading limit text) ≡ Some f)
    → RefusedAs limit text cs f
refused_has_reason limit text cs f (e, g) =
    let all = reading_explained limit text in
    rw (← e) (refusal_explained limit text (reading limit text) [] f all g)
