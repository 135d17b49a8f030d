-- How far the words have come that a reader has read, in each of its states. Assumes nothing.
use Rattle.std.proofs.Common.{◌≡◌, ℕ, zero, suc, ◌+◌, ◌-◌, ◌<◌, ◌≤◌, eqb, ltb, leb, ◌↔◌, List, [], ◌∷◌, ◌++◌, length, map, ℤ, pos, negsuc, nat_abs, Some, None, Ok, Err, codes, decimal, Option, Result, refl, ap, ◌∙◌, append_assoc, append-nil, arith, length-append}
use mathlib.Core.Logic.Iff
use Rattle.std.specs.List.{flat_map, AllByRecursion}
use Rattle.std.specs.Fmt.{signed_decimal}
use Rattle.std.specs.Str.{bytes_eq}
use Rattle.std.proofs.ByRecursion.{All-append}
use Rattle.std.proofs.lemmas.List.{map-append, flat_map_more}
use Rattle.std.proofs.lemmas.Slice.Eq.{bytes_eq-Decides}
use Rattle.std.proofs.lemmas.Bool.{ltb-false, cond_both}
use Rattle.std.proofs.lemmas.Bool.Decides.{nat_tests}
use Rattle.text.specs.declared.faults.TextFault.{TextFault}
use Rattle.text.specs.declared.faults.TextFault.TheVariants.{NotProblemLine, TooLarge}
use Rattle.text.specs.declared.faults.ReadFault.{ReadFault}
use Rattle.text.specs.declared.problem.Expected.{Expected}
use Rattle.text.specs.declared.problem.Expected.TheVariants.{ProblemWord, FormatWord, Variables, Clauses}
use Rattle.text.specs.declared.reader.State.{State}
use Rattle.text.specs.declared.reader.State.TheVariants.{BeforeProblem, BetweenClauses, InsideClause, Done}
use Rattle.limits.specs.Limits.{most_clauses, most_literals}
use Rattle.tokens.specs.Numbers.{number_word}
use Rattle.text.specs.Problem.{within, then_clauses, then_complete, expect}
use Rattle.text.specs.Reading.{Reading, clause, well, refused, Step, on, gives, stops, between, after_problem, clause_word, step, at_end}
use Rattle.text.specs.Refusals.{read_refusal, place_of}
use Rattle.text_laws.specs.Writing.{Literal, Writable, clause_words}
use Rattle.text_laws.specs.Standing.{Sound, GoesOn, Begun, begun}
use Rattle.text_laws.specs.Refusing.{WrongWord, WrongEnd}
use Rattle.text_laws.proofs.Numerals.{number_words}
use Rattle.text_laws.proofs.Sound.{refused_says, Said, RestSaid, ClausesSaid, Brought, zero_word, said-sound, step-brings, end_says}

-- The words ws up to a place within the clauses: a problem line, the clauses cs, and the literals
-- ls of the next. The clauses that are to come are `left`.
pub record SoFar (limit n left : ℕ) (ls : List ℤ) (ws : List (List ℕ)) (cs : List (List ℤ))
    : Type 0 where
  pub m : ℕ
  pub counted : length cs + left ≡ m
  pub narrow : n ≤ limit
  pub few : m ≤ most_clauses
  pub whole : Writable n cs
  pub short : length ls ≤ most_literals
  pub literals : AllByRecursion (Literal n) ls
  pub words : ws ≡ begun n m cs ls

-- the words ws up to where the word e of the problem line is expected
abbrev pub LineSoFar : ℕ → Expected → List (List ℕ) → Type 0
LineSoFar limit ProblemWord ws = ws ≡ []
LineSoFar limit FormatWord ws = ws ≡ codes "p" ∷ []
LineSoFar limit Variables ws = ws ≡ codes "p" ∷ codes "cnf" ∷ []
LineSoFar limit (Clauses n) ws =
    (n < 100000) × (n ≤ limit) × (ws ≡ codes "p" ∷ codes "cnf" ∷ decimal n ∷ [])

-- in a state, after the literals ls of a clause: the words ws are read, the clauses cs are given
abbrev pub Stood : ℕ → State → List ℤ → List (List ℕ) → List (List ℤ) → Type 0
Stood limit (BeforeProblem e) ls ws cs = (cs ≡ []) × LineSoFar limit e ws
Stood limit (BetweenClauses r) ls ws cs =
    (0 < r.clauses) × SoFar limit r.variables r.clauses [] ws cs
Stood limit (InsideClause r) ls ws cs =
    (0 < length ls) × (0 < r.clauses) × SoFar limit r.variables r.clauses ls ws cs
Stood limit Done ls ws cs = Sound limit ws cs

-- the words of a clause are its literals and 0
literals_then_zero : (ls : List ℤ) → clause_words ls ≡ map signed_decimal ls ++ (codes "0" ∷ [])
literals_then_zero [] = refl
literals_then_zero (x ∷ ls) = ap (λ ws. signed_decimal x ∷ ws) (literals_then_zero ls)

module _ (limit n left : ℕ) (ls : List ℤ) (ws : List (List ℕ)) (cs : List (List ℤ))
    (h : SoFar limit n left ls ws cs) where
  -- a clause is missing
  abbrev pub begun_so : 0 < left → Begun limit ws cs
  begun_so some =
      let one = length-append cs (ls ∷ []) in
      let each = All-append _ cs (ls ∷ []) h.whole.2 ((h.short, h.literals), tt) in
      record {
        n = n;
        m = h.m;
        ls = ls;
        narrow = h.narrow;
        missing = omega (arith, h.counted);
        few = h.few;
        writable = (h.whole.0, omega (arith, h.counted, h.few), each);
        words = h.words;
      }

  -- one more literal
  with_literal : (x : ℤ) → Literal n x → length ls < most_literals
      → SoFar limit n left (ls ++ (x ∷ [])) (ws ++ (signed_decimal x ∷ [])) cs
  with_literal x fits room =
      let one = length-append ls (x ∷ []) in
      record {
        m = h.m;
        counted = h.counted;
        narrow = h.narrow;
        few = h.few;
        whole = h.whole;
        short = omega arith;
        literals = All-append (Literal n) ls (x ∷ []) h.literals (fits, tt);
        words = rw (h.words, map-append signed_decimal ls (x ∷ []), append_assoc) refl;
      }

  -- the 0 of the clause
  with_zero : 0 < left → SoFar limit n (left - 1) [] (ws ++ (codes "0" ∷ [])) (cs ++ (ls ∷ []))
  with_zero some =
      let one = length-append cs (ls ∷ []) in
      let given = flat_map clause_words cs in
      let more = flat_map_more clause_words [] cs ls in
      record {
        m = h.m;
        counted = omega (arith, h.counted);
        narrow = h.narrow;
        few = h.few;
        whole = (begun_so some).writable;
        short = omega arith;
        literals = tt;
        words = rw (h.words, append-nil, ← more, literals_then_zero ls, append_assoc given) refl;
      }

-- after the problem line or a clause
between_stood : (limit n left : ℕ) (ws : List (List ℕ)) (cs : List (List ℤ))
    → SoFar limit n left [] ws cs → Stood limit (between n left) [] ws cs
between_stood limit n left ws cs h =
    cond_both (eqb left 0) _ _ (λ s. Stood limit s [] ws cs)
    (λ z. let m : length cs ≡ h.m = grind (arith, nat_tests, h.counted) in
    let words = h.words in
    (n, h.narrow, h.whole, rw m (rw append-nil at words)))
    (λ z. (grind (arith, nat_tests), h))

-- the word w at the place p, after the words ws and the clauses cs
module _ (limit p : ℕ) (w : List ℕ) (ws : List (List ℕ)) (cs : List (List ℤ)) where
  -- the words after it have come as far as they should; a clause ends at its 0; a refusal has its
  -- reason
  abbrev pub Keeps : Step → Type 0
  Keeps (on s ls) = Stood limit s ls (ws ++ (w ∷ [])) cs
  Keeps (gives ls q s) =
      (q ≡ p) × (w ≡ codes "0") × ((b : Begun limit ws cs) × (b.ls ≡ ls))
      × Stood limit s [] (ws ++ (w ∷ [])) (cs ++ (ls ∷ []))
  Keeps (stops f) = WrongWord limit ws cs w f

  -- where a size is expected, up to `most`
  size_kept : (most : ℕ) (P : Result ℕ TextFault → Type 0)
      → ((k : ℕ) → w ≡ decimal k → k < 100000 → k ≤ most → P (Ok k))
      → ((k : ℕ) → number_word w ≡ Some (pos k) → most < k → P (Err (TooLarge p)))
      → (((k : ℕ) → number_word w ≡ Some (pos k) → ⊥) → P (Err (NotProblemLine p)))
      → (o : Option ℤ) → number_word w ≡ o → P (within most p o)
  size_kept most P fits large none None e = none (λ k d. cc)
  size_kept most P fits large none (Some (negsuc j)) e = none (λ k d. cc)
  size_kept most P fits large none (Some (pos k)) e =
      let d = (number_words w (pos k)).0 e in
      cond_both (ltb most k) _ _ P (λ l. large k e (grind (arith, nat_tests)))
      (λ l. fits k d.0 d.1 (ltb-false most k l))

  line_kept : (e : Expected) → cs ≡ [] → LineSoFar limit e ws
      → Keeps (after_problem (expect limit e p w))
  line_kept ProblemWord none at =
      let before = ap length at in
      cond_both (bytes_eq w (codes "p")) _ _ (λ r. Keeps (after_problem r))
      (λ t. (none, rw (at, (bytes_eq-Decides w _).0 t) refl))
      (λ t. (omega arith, none, λ m. let s = m.sizes in omega arith))
  line_kept FormatWord none at =
      let before = ap length at in
      cond_both (bytes_eq w (codes "cnf")) _ _ (λ r. Keeps (after_problem r))
      (λ t. (none, rw (at, (bytes_eq-Decides w _).0 t) refl))
      (λ t. (omega arith, none, λ m. let s = m.sizes in omega arith))
  line_kept Variables none at =
      let before = ap length at in
      size_kept limit (λ r. Keeps (after_problem (then_clauses r)))
      (λ n d small narrow. (none, (small, narrow, rw (at, d) refl)))
      (λ k d l. (
        none,
        record {
          k = k;
          number = d;
          sizes = (omega arith, omega arith);
          variables = λ _. l;
          clauses = λ three. absurd (omega arith);
        },
      ))
      (λ never. (omega arith, none, λ m. never m.k m.number))
      (number_word w) refl
  line_kept (Clauses n) none at =
      let before = ap length at.2 in
      size_kept most_clauses (λ r. Keeps (after_problem (then_complete n r)))
      (λ m d small few. between_stood limit n m (ws ++ (w ∷ [])) cs (record {
        m = m;
        counted = rw none (omega arith);
        narrow = at.1;
        few = few;
        whole = rw none (at.0, omega arith, tt);
        short = omega arith;
        literals = tt;
        words = rw (none, at.2, d) refl;
      }))
      (λ k d l. (
        none,
        record {
          k = k;
          number = d;
          sizes = (omega arith, omega arith);
          variables = λ two. absurd (omega arith);
          clauses = λ _. l;
        },
      ))
      (λ never. (omega arith, none, λ m. never m.k m.number))
      (number_word w) refl

  -- within a clause
  clause_kept : (n left : ℕ) (ls : List ℤ) → 0 < left → SoFar limit n left ls ws cs
      → (o : Option ℤ) → number_word w ≡ o → Keeps (clause_word most_literals n left ls p o)
  clause_kept n left ls some h None e = (begun_so limit n left ls ws cs h some, e)
  clause_kept n left ls some h (Some x) e =
      let d = ((number_words w x).0 e).0 in
      let b = begun_so limit n left ls ws cs h some in
      cond_both (eqb (nat_abs x) 0) _ _ Keeps
      (λ z. let zero : w ≡ codes "0" = d ∙ zero_word x (grind (arith, nat_tests)) in
      let then = with_zero limit n left ls ws cs h some in
      (refl, zero, (b, refl), between_stood limit n (left - 1) _ _ (rw zero then)))
      (λ z. cond_both (ltb n (nat_abs x)) _ _ Keeps
      (λ above. (b, x, e, grind (arith, nat_tests)))
      (λ above. cond_both (leb most_literals (length ls)) _ _ Keeps
      (λ full. (b, x, e, grind (arith, nat_tests), grind (arith, nat_tests, h.short)))
      (λ full. let fits : Literal n x = grind (arith, nat_tests) in
      let then = with_literal limit n left ls ws cs h x fits (grind (arith, nat_tests)) in
      (omega (arith, length-append ls (x ∷ [])), some, rw d then))))

  pub step_kept : (s : State) (ls : List ℤ) → Stood limit s ls ws cs
      → Keeps (step most_literals limit s ls p w)
  step_kept (BeforeProblem e) ls h = line_kept e h.0 h.1
  step_kept (BetweenClauses r) ls h =
      clause_kept r.variables r.clauses [] h.0 h.1 (number_word w) refl
  step_kept (InsideClause r) ls h =
      clause_kept r.variables r.clauses ls h.1 h.2 (number_word w) refl
  step_kept Done ls h = h

-- the end of the text, where it is refused, has its reason
module _ (limit end : ℕ) (ws : List (List ℕ)) (cs : List (List ℤ)) where
  abbrev pub EndKept : Reading → Type 0
  EndKept (clause ls p r) = ⊥
  EndKept well = Unit {0}
  EndKept (refused f) = (place_of (read_refusal f) ≡ end) × WrongEnd limit ws cs f

  pub end_kept : (s : State) (ls : List ℤ) → Stood limit s ls ws cs → EndKept (at_end end s)
  end_kept (BeforeProblem ProblemWord) ls h = (refl, (rw h.1 (omega arith), h.0))
  end_kept (BeforeProblem FormatWord) ls h = (refl, (rw h.1 (omega arith), h.0))
  end_kept (BeforeProblem Variables) ls h = (refl, (rw h.1 (omega arith), h.0))
  end_kept (BeforeProblem (Clauses n)) ls h = (refl, (rw h.1.2 (omega arith), h.0))
  end_kept (BetweenClauses r) ls (some, h) =
      (refl, (begun_so limit r.variables r.clauses [] ws cs h some, refl))
  end_kept (InsideClause r) ls (begins, some, h) =
      (refl, (begun_so limit r.variables r.clauses ls ws cs h some, begins))
  end_kept Done ls h = tt

module _ (limit : ℕ) where
  -- in a state, the words that are left say some clauses
  abbrev pub Completed : State → List ℤ → List (List ℕ) → Type 0
  Completed s ls ws = (cs : List (List ℤ)) × Said limit s ls ws cs

  -- the words ws are read: words complete them exactly if they do from this state on
  abbrev pub Reached : State → List ℤ → List (List ℕ) → Type 0
  Reached s ls ws =
      (rest : List (List ℕ))
      → Completed (BeforeProblem ProblemWord) [] (ws ++ rest) ↔ Completed s ls rest

  -- some empty clauses
  empty_clauses : (n k : ℕ) → (ds : List (List ℤ)) × ClausesSaid n k (flat_map clause_words ds) ds
  empty_clauses n zero = ([], (refl, refl, tt))
  empty_clauses n (suc k) =
      let (ds, (l, _, a)) = empty_clauses n k in
      ([] ∷ ds, (cc, refl, ((omega arith, tt), a)))

  -- a problem line of no variables and no clauses
  no_clauses : (n : ℕ) (ls : List ℤ) → Said limit (BeforeProblem (Clauses n)) ls (decimal 0 ∷ []) []
  no_clauses n ls = (0, refl, omega arith, omega arith, (refl, refl, tt))

  abbrev noughts : List (List ℕ)
  noughts = decimal 0 ∷ decimal 0 ∷ []

  no_sizes : (ls : List ℤ) → Said limit (BeforeProblem Variables) ls noughts []
  no_sizes ls = (0, refl, omega arith, omega arith, no_clauses 0 ls)

  -- the 0 of an open clause, and then empty clauses
  closed : (n left : ℕ) (ls : List ℤ)
      → (rest : List (List ℕ)) × ((cs : List (List ℤ)) × RestSaid n left ls rest cs)
  closed n left ls =
      let (ds, h) = empty_clauses n (left - 1) in
      let ws = flat_map clause_words ds in
      (codes "0" ∷ ws, (ls ∷ ds, ([], ds, ws, rw append-nil refl, refl, omega arith, tt, h)))

  -- from any state on, some words do
  some_rest : (s : State) (ls : List ℤ) → (rest : List (List ℕ)) × Completed s ls rest
  some_rest (BeforeProblem (Clauses n)) ls = (decimal 0 ∷ [], ([], no_clauses n ls))
  some_rest (BeforeProblem Variables) ls = (noughts, ([], no_sizes ls))
  some_rest (BeforeProblem FormatWord) ls = (codes "cnf" ∷ noughts, ([], (refl, no_sizes ls)))
  some_rest (BeforeProblem ProblemWord) ls =
      (codes "p" ∷ codes "cnf" ∷ noughts, ([], (refl, (refl, no_sizes ls))))
  some_rest (BetweenClauses r) ls = closed r.variables r.clauses []
  some_rest (InsideClause r) ls = closed r.variables r.clauses ls
  some_rest Done ls = ([], ([], (refl, refl)))

  pub goes_on : (s : State) (ls : List ℤ) (ws : List (List ℕ)) → Reached s ls ws → GoesOn limit ws
  goes_on s ls ws reached =
      let (rest, h) = some_rest s ls in
      let (all, t) = (reached rest).1 h in
      (rest, all, (said-sound limit (ws ++ rest) all).0 t)

  -- nothing is read at first
  pub reached_first : Reached (BeforeProblem ProblemWord) [] []
  reached_first rest = Iff.rfl

  -- up to a step's word: its state is reached, or no sound text goes on
  abbrev pub Reaches : List (List ℕ) → Step → Type 0
  Reaches ws (on s ls) = Reached s ls ws
  Reaches ws (gives ls p s) = Reached s [] ws
  Reaches ws (stops f) = GoesOn limit ws → ⊥

  reaches-brought : (ws : List (List ℕ)) (t : Step)
      → ((rest : List (List ℕ)) → Completed (BeforeProblem ProblemWord) [] (ws ++ rest)
      ↔ ((cs : List (List ℤ)) × Brought limit rest cs t))
      → Reaches ws t
  reaches-brought ws (on s ls) h = h
  reaches-brought ws (gives ls p s) h =
      λ rest. Iff.trans (h rest) (λ (cs, (ds, e, k)). (ds, k), λ (ds, k). (ls ∷ ds, (ds, refl, k)))
  reaches-brought ws (stops f) h =
      λ (rest, all, sound). ((h rest).0 (all, (said-sound limit (ws ++ rest) all).1 sound)).1

  pub step_reaches : (s : State) (ls : List ℤ) (ws : List (List ℕ)) (p : ℕ) (w : List ℕ)
      → Reached s ls ws → Reaches (ws ++ (w ∷ [])) (step most_literals limit s ls p w)
  step_reaches s ls ws p w reached =
      reaches-brought (ws ++ (w ∷ [])) (step most_literals limit s ls p w)
      (λ rest. rw append_assoc (Iff.trans (reached (w ∷ rest)) (
        λ (cs, h). (cs, (step-brings limit rest cs s ls p w).1 h),
        λ (cs, h). (cs, (step-brings limit rest cs s ls p w).0 h),
      )))

  -- where the end is refused, the words aren't yet those of a sound text
  pub no_end : (s : State) (ls : List ℤ) (ws : List (List ℕ)) (end : ℕ) (f : ReadFault)
      → Reached s ls ws → at_end end s ≡ refused f
      → (ds : List (List ℤ)) → Sound limit ws ds → ⊥
  no_end s ls ws end f reached e ds sound =
      let (cs, h) = (reached []).0 (ds, rw append-nil ((said-sound limit ws ds).1 sound)) in
      let says = (end_says limit end s ls cs).1 h in
      (refused_says f cs (λ no. no)).0 (rw e at says)
