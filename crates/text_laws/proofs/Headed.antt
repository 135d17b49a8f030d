-- The head of a text is the sizes that its problem line says. Assumes nothing.
use Rattle.std.proofs.Common.{◌≡◌, ℕ, cond, ltb, ◌↔◌, Bool, true, false, List, ◌∷◌, [], length, ℤ, Ok, Err, Result, sym, refl, ap, arith}
use mathlib.Core.Logic.Iff
use Rattle.std.proofs.lemmas.Bool.{le-ltb, ltb-false, cond_both}
use Rattle.text.specs.declared.faults.TextFault.{TextFault}
use Rattle.text.specs.declared.faults.TextFault.TheVariants.{TooLong}
use Rattle.text.specs.declared.faults.ReadFault.TheVariants.{Text}
use Rattle.text.specs.declared.problem.Expected.{Expected}
use Rattle.text.specs.declared.problem.Expected.TheVariants.{ProblemWord}
use Rattle.text.specs.declared.problem.Progress.{Progress}
use Rattle.text.specs.declared.problem.Progress.TheVariants.{Expecting, Complete}
use Rattle.text.specs.declared.reader.State.{State}
use Rattle.text.specs.declared.reader.State.TheVariants.{BeforeProblem}
use Rattle.text_laws.specs.Laws.{Headed, HeadTellsTheLine}
use Rattle.limits.specs.Limits.{most_bytes, most_variables, most_literals}
use Rattle.text.specs.Problem.{expect, sizes, go_on as line_goes_on, head_of}
use Rattle.text.specs.Reading.{Reading, refused, after_problem, go_on, read}
use Rattle.tokens.specs.Words.{Piece, word, comment, pieces, words_of}
use Rattle.text_laws.proofs.Sound.{Accepted, expect-brings, Completes, HasLine, line_tells, line_completes}

no_err : {s : ℕ × ℕ} {f : TextFault} → Ok s ≡ Err f → ⊥
no_err e = let no : ◌≡◌ {A = ℕ} 0 1 = cc in omega arith

-- pieces have the sizes n and m exactly if their words complete a problem line with these
module _ (limit end n m : ℕ) where
  abbrev HasSizes : Result (ℕ × ℕ) TextFault → Type 0
  HasSizes r = r ≡ Ok (n, m)

  abbrev Sizes : ℕ → ℕ → List (List ℕ) → Type 0
  Sizes k l ws = (k ≡ n) × (l ≡ m)

  abbrev Completed : List Piece → Progress → Type 0
  Completed ps g = Completes limit Sizes g (words_of ps)

  sizes-after : (ps : List Piece) (line : Expected → Result (ℕ × ℕ) TextFault)
      → ((e : Expected) → HasSizes (line e) ↔ Completed ps (Expecting e))
      → (r : Result Progress TextFault) → HasSizes (line_goes_on r line) ↔ Accepted (Completed ps) r
  sizes-after ps line more (Err f) = (λ e. no_err (sym e), λ h. absurd h)
  sizes-after ps line more (Ok (Expecting e)) = more e
  sizes-after ps line more (Ok (Complete r)) =
      let of_pair : HasSizes (Ok (r.variables, r.clauses)) → Completed ps (Complete r) = λ e.
      let same : ◌≡◌ {A = ℕ × ℕ} (r.variables, r.clauses) (n, m) = cc in
      (ap (λ s. s.0) same, ap (λ s. s.1) same) in
      (of_pair, λ h. cc)

  sizes-complete : (e : Expected) (ps : List Piece)
      → HasSizes (sizes limit end e ps) ↔ Completed ps (Expecting e)
  sizes-complete e [] = (λ e. no_err (sym e), λ h. absurd h)
  sizes-complete e (comment p c ∷ ps) = sizes-complete e ps
  sizes-complete e (word p w ∷ ps) =
      let after = sizes-after ps _ (λ e'. sizes-complete e' ps) (expect limit e p w) in
      Iff.trans after (expect-brings limit _ e p w)

  pub line-sizes : (ps : List Piece)
      → HasSizes (sizes limit end ProblemWord ps) ↔ HasLine limit Sizes (words_of ps)
  line-sizes ps =
      Iff.trans (sizes-complete ProblemWord ps)
      (line_tells limit Sizes (words_of ps), line_completes limit Sizes (words_of ps))

-- a problem line whose sizes are refused is refused alike by a reader
module _ (limit end : ℕ) (f : TextFault) where
  abbrev Alike : Result (ℕ × ℕ) TextFault → Reading → Type 0
  Alike line r = line ≡ Err f → r ≡ refused (Text f)

  alike-after : (line : Expected → Result (ℕ × ℕ) TextFault) (rest : State → List ℤ → Reading)
      → ((e : Expected) → Alike (line e) (rest (BeforeProblem e) []))
      → (r : Result Progress TextFault) → Alike (line_goes_on r line) (go_on (after_problem r) rest)
  alike-after line rest more (Err g) = λ h. cc
  alike-after line rest more (Ok (Expecting e)) = more e
  alike-after line rest more (Ok (Complete r)) = λ h. absurd (no_err h)

  pieces_alike : (e : Expected) (ps : List Piece)
      → Alike (sizes limit end e ps) (read most_literals limit end (BeforeProblem e) [] ps)
  pieces_alike e [] = λ h. cc
  pieces_alike e (comment p c ∷ ps) = pieces_alike e ps
  pieces_alike e (word p w ∷ ps) =
      alike-after _ (λ s ls. read most_literals limit end s ls ps) (λ e'. pieces_alike e' ps)
      (expect limit e p w)

  -- and so is a text that is too long
  text_alike : (long : Bool) {line : Result (ℕ × ℕ) TextFault} {r : Reading}
      → Alike line r → Alike (cond long (Err TooLong) line) (cond long (refused (Text TooLong)) r)
  text_alike true more = λ h. cc
  text_alike false more = more

-- so it is of a whole text
head_is : (text : List ℕ) (n m : ℕ) → head_of text ≡ Ok (n, m) → Headed text n m
head_is text n m =
    cond_both (ltb most_bytes (length text)) _ _ (λ r. r ≡ Ok (n, m) → Headed text n m)
    (λ _ e. absurd (no_err (sym e)))
    (λ l e.
    let (k, j, rest, small, narrow, few, words, (a, b)) =
    (line-sizes most_variables (length text) n m (pieces text)).0 e in
    record {
      short = ltb-false _ _ l;
      narrow = omega arith;
      few = omega arith;
      rest = rest;
      words = cc;
    })

is_head : (text : List ℕ) (n m : ℕ) → Headed text n m → head_of text ≡ Ok (n, m)
is_head text n m h =
    rw (le-ltb most_bytes (length text) h.short)
    ((line-sizes most_variables (length text) n m (pieces text)).1
    (n, m, h.rest, omega (arith, h.narrow), h.narrow, h.few, h.words, (refl, refl)))

pub head_tells : HeadTellsTheLine
head_tells text = (
  λ n m. (head_is text n m, is_head text n m),
  λ f. text_alike most_variables (length text) f (ltb most_bytes (length text))
      (pieces_alike most_variables (length text) f ProblemWord (pieces text)),
)
