-- A refusal looks no further than its word. Assumes nothing.
use Rattle.std.proofs.Common.{◌≡◌, ℕ, ◌+◌, ◌<◌, ◌≤◌, true, ltb, List, [], ◌∷◌, ◌++◌, length, ℤ, Some, sym, refl, ap, ◌∙◌, append_assoc, arith, length-append}
use Rattle.std.specs.List.{AllByRecursion}
use Rattle.std.proofs.ByRecursion.{All-append}
use Rattle.std.proofs.lemmas.Bool.{le-ltb, cond-false, cond_both}
use Rattle.text.specs.declared.faults.ReadFault.{ReadFault}
use Rattle.text.specs.declared.problem.Expected.TheVariants.{ProblemWord}
use Rattle.text.specs.declared.reader.State.{State}
use Rattle.text.specs.declared.reader.State.TheVariants.{BeforeProblem, BetweenClauses, InsideClause, Done}
use Rattle.text_laws.specs.Laws.{Apart, RefusalLooksNoFurther}
use Rattle.limits.specs.Limits.{most_bytes, most_literals}
use Rattle.tokens.specs.Numbers.{number_word}
use Rattle.text.specs.Reading.{Reading, clause, well, refused, fault_of, Step, on, gives, stops, step, at_end, go_on, read, reading}
use Rattle.text.specs.Refusals.{read_refusal, place_of}
use Rattle.tokens.specs.Scanning.{a_word, a_comment, Mode, gap, inside, opens_comment, next_mode, ended, unended, scan}
use Rattle.tokens.specs.Words.{Piece, word, comment, parts_words, ends_line, early_after}
use Rattle.tokens.proofs.Lines.{pieces_scanned}
use Rattle.text.proofs.Steps.{problem_by, clause_by}

-- a word that ends a clause or is refused tells its own place
abbrev pub TellsAt : ℕ → Step → Type 0
TellsAt p (on s ls) = Unit {0}
TellsAt p (gives ls q s) = q ≡ p
TellsAt p (stops f) = place_of (read_refusal f) ≡ p

pub step-at : (most limit : ℕ) (s : State) (ls : List ℤ) (p : ℕ) (w : List ℕ) → TellsAt p (step most limit s ls p w)
step-at most limit (BeforeProblem e) ls p w = problem_by (TellsAt p) p (λ _ h. h) limit w (λ _. tt) (λ _ _ _. tt) e
step-at most limit (BetweenClauses left) ls p w = clause_by (TellsAt p) p (λ _ h. h) most left.variables left.clauses [] refl (λ _. tt) (number_word w)
step-at most limit (InsideClause left) ls p w = clause_by (TellsAt p) p (λ _ h. h) most left.variables left.clauses ls refl (λ _. tt) (number_word w)
step-at most limit Done ls p w = refl

-- no word stands before the place q
abbrev Later : ℕ → Piece → Type 0
Later q (word p w) = q ≤ p
Later q (comment p w) = Unit {0}

-- nothing is refused before the place q
abbrev RefusedLater : ℕ → Reading → Type 0
RefusedLater q (clause ls p r) = RefusedLater q r
RefusedLater q well = Unit {0}
RefusedLater q (refused f) = q ≤ place_of (read_refusal f)

refused_where : (q : ℕ) (r : Reading) (f : ReadFault) → RefusedLater q r → fault_of r ≡ Some f → q ≤ place_of (read_refusal f)
refused_where q (clause ls p r) f h e = refused_where q r f h e
refused_where q well f h e = let no : ◌≡◌ {A = ℕ} 0 1 = cc in omega arith
refused_where q (refused g) f h e = let same : g ≡ f = cc in rw same at h

-- after one step: what is left is refused later, or is read alike
go_on-later : (q p : ℕ) (t : Step) (rest : State → List ℤ → Reading) → q ≤ p → TellsAt p t → ((s : State) (ls : List ℤ) → RefusedLater q (rest s ls)) → RefusedLater q (go_on t rest)
go_on-later q p (on s ls) rest h same more = more s ls
go_on-later q p (gives ls r s) rest h same more = more s []
go_on-later q p (stops f) rest h same more = omega arith

go_on-alike : (f : ReadFault) (t : Step) (rest rest' : State → List ℤ → Reading) → ((s : State) (ls : List ℤ) → fault_of (rest s ls) ≡ Some f → rest' s ls ≡ rest s ls) → fault_of (go_on t rest) ≡ Some f → go_on t rest' ≡ go_on t rest
go_on-alike f (on s ls) rest rest' alike e = alike s ls e
go_on-alike f (gives ls p s) rest rest' alike e = ap (clause ls p) (alike s [] e)
go_on-alike f (stops g) rest rest' alike e = refl

module _ (most limit q end : ℕ) (before-end : q ≤ end) where
  end_later : (s : State) → RefusedLater q (at_end end s)
  end_later (BeforeProblem e) = before-end
  end_later (BetweenClauses left) = before-end
  end_later (InsideClause left) = before-end
  end_later Done = tt

  -- later words are refused later
  read-later : (s : State) (ls : List ℤ) (ps : List Piece) → AllByRecursion (Later q) ps → RefusedLater q (read most limit end s ls ps)
  read-later s ls [] h = end_later s
  read-later s ls (comment p c ∷ ps) h = read-later s ls ps h.1
  read-later s ls (word p w ∷ ps) h =
      go_on-later q p (step most limit s ls p w) (λ s' ls'. read most limit end s' ls' ps) h.0 (step-at most limit s ls p w) (λ s' ls'. read-later s' ls' ps h.1)

  -- pieces that are refused before q are read alike, whatever the later words are and wherever the text ends
  module _ (end' : ℕ) (more more' : List Piece) (later : AllByRecursion (Later q) more) (f : ReadFault) (before : place_of (read_refusal f) < q) where
    read_alike : (s : State) (ls : List ℤ) (ps : List Piece) → fault_of (read most limit end s ls (ps ++ more)) ≡ Some f → read most limit end' s ls (ps ++ more') ≡ read most limit end s ls (ps ++ more)
    read_alike s ls [] e =
        let no : ⊥ = omega (arith, refused_where q (read most limit end s ls more) f (read-later s ls more later) e) in
        absurd no
    read_alike s ls (comment p c ∷ ps) e = read_alike s ls ps e
    read_alike s ls (word p w ∷ ps) e =
        go_on-alike f (step most limit s ls p w) (λ s' ls'. read most limit end s' ls' (ps ++ more)) (λ s' ls'. read most limit end' s' ls' (ps ++ more')) (λ s' ls'. read_alike s' ls' ps) e

-- from the place q on, a scan that isn't in a word from before gives words at q or later
module _ (q : ℕ) where
  abbrev OpenedLater : Mode → Type 0
  OpenedLater (gap early fresh) = Unit {0}
  OpenedLater (inside a_word early s w) = q ≤ s
  OpenedLater (inside a_comment early s w) = Unit {0}

  next_later : (m : Mode) (p b : ℕ) → q ≤ p → OpenedLater m → OpenedLater (next_mode m p b)
  next_later (gap early fresh) p b h o =
      cond_both (parts_words b) _ _ OpenedLater (λ _. tt) (λ _. cond_both (opens_comment early fresh b) a_comment a_word (λ part. OpenedLater (inside part early p (b ∷ []))) (λ _. tt) (λ _. h))
  next_later (inside a_word early s w) p b h o = cond_both (parts_words b) _ _ OpenedLater (λ _. tt) (λ _. o)
  next_later (inside a_comment early s w) p b h o = cond_both (ends_line b) _ _ OpenedLater (λ _. tt) (λ _. tt)

  ended-later : (m : Mode) (b : ℕ) → OpenedLater m → AllByRecursion (Later q) (ended m b)
  ended-later (gap early fresh) b o = tt
  ended-later (inside a_word early s w) b o = cond_both (parts_words b) _ _ (AllByRecursion (Later q)) (λ _. (o, tt)) (λ _. tt)
  ended-later (inside a_comment early s w) b o = cond_both (ends_line b) _ _ (AllByRecursion (Later q)) (λ _. (tt, tt)) (λ _. tt)

  unended-later : (m : Mode) → OpenedLater m → AllByRecursion (Later q) (unended m)
  unended-later (gap early fresh) o = tt
  unended-later (inside a_word early s w) o = (o, tt)
  unended-later (inside a_comment early s w) o = (tt, tt)

  scan-later : (m : Mode) (p : ℕ) (bs : List ℕ) → q ≤ p → OpenedLater m → AllByRecursion (Later q) (scan m p bs)
  scan-later m p [] h o = unended-later m o
  scan-later m p (b ∷ bs) h o =
      All-append (Later q) (ended m b) (scan (next_mode m p b) (p + 1) bs) (ended-later m b o)
      (scan-later (next_mode m p b) (p + 1) bs (omega arith) (next_later m p b h o))

-- what a scan gives of a text's front, whose last word ends there; a comment may go on
abbrev open_word : Mode → List Piece
open_word (gap early fresh) = []
open_word (inside a_word early s w) = word s w ∷ []
open_word (inside a_comment early s w) = []

abbrev of_front : Mode → ℕ → List ℕ → List Piece
of_front m p [] = open_word m
of_front m p (b ∷ bs) = ended m b ++ of_front (next_mode m p b) (p + 1) bs

-- first the pieces ps, then only words at the place q or later
abbrev Parted : ℕ → List Piece → List Piece → Type 0
Parted q ps all = (more : List Piece) × (all ≡ ps ++ more) × AllByRecursion (Later q) more

part_here : (q : ℕ) (m : Mode) (p : ℕ) (back : List ℕ) → Apart back → q ≤ p → Parted q (open_word m) (scan m p back)
part_here q (gap early fresh) p back apart h = (_, refl, scan-later q (gap early fresh) p back h tt)
part_here q (inside a_comment early s w) p back apart h = (_, refl, scan-later q (inside a_comment early s w) p back h tt)
part_here q (inside a_word early s w) p [] apart h = ([], refl, tt)
part_here q (inside a_word early s w) p (b ∷ bs) apart h =
    let after = gap (early_after early w) (ends_line b) in
    (scan after (p + 1) bs, rw apart, scan-later q after (p + 1) bs (omega arith) tt)

part : (q : ℕ) (m : Mode) (p : ℕ) (front back : List ℕ) → Apart back → q ≤ p + length front → Parted q (of_front m p front) (scan m p (front ++ back))
part q m p [] back apart h = part_here q m p back apart (omega arith)
part q m p (b ∷ bs) back apart h =
    let r = part q (next_mode m p b) (p + 1) bs back apart (omega arith) in
    (r.0, rw (r.1, append_assoc), r.2)

-- a text that isn't too long is read by its pieces
reading_is : (limit : ℕ) (text : List ℕ) (ps : List Piece) → length text ≤ most_bytes → scan (gap true true) 0 text ≡ ps
    → reading limit text ≡ read most_literals limit (length text) (BeforeProblem ProblemWord) [] ps
reading_is limit text ps h e =
    cond-false (ltb most_bytes (length text)) _ _ (le-ltb most_bytes (length text) h)
    ∙ ap (read most_literals limit (length text) (BeforeProblem ProblemWord) []) (sym (pieces_scanned true 0 text) ∙ e)

pub looks_no_further : RefusalLooksNoFurther
looks_no_further limit front back other f apart apart' long long' e before =
    let q = length front in
    let x = part q (gap true true) 0 front back apart (omega arith) in
    let y = part q (gap true true) 0 front other apart' (omega arith) in
    let was = reading_is limit (front ++ back) _ long x.1 in
    let is = reading_is limit (front ++ other) _ long' y.1 in
    let within_text : q ≤ length (front ++ back) = omega (arith, length-append front back) in
    let alike = read_alike most_literals limit q (length (front ++ back)) within_text (length (front ++ other)) x.0 y.0 x.2 f before in
    is ∙ alike (BeforeProblem ProblemWord) [] (of_front (gap true true) 0 front) (ap fault_of (sym was) ∙ e) ∙ sym was
