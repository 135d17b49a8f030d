-- Lines of the code as lines of a state. Assumes nothing.
use Rattle.std.proofs.Common.{◌≡◌, ℕ, ◌-◌, ◌<◌, ◌≤◌, true, false, eqb, ltb, leb, List, [], length, get_or, map, Ok, Err, refl, sym, ap, ◌∙◌, arith}
use Rattle.std.proofs.lemmas.Bool.{ne_eqb, lt-ltb, le-leb, lt-leb}
use Rattle.std.proofs.lemmas.List.{length-map, get_or-map}
use Rattle.clauses.specs.Values.{truths}
use Rattle.lines.specs.declared.line.Line.{Line}
use Rattle.lines.specs.Lines.{candidate_of}
use Rattle.answers.specs.declared.refusal.Refusal.TheVariants.{NoSuchLine}
use Rattle.histories.specs.States.{State}
use Rattle.session.specs.Sessions.{line_of, no_line}

-- no variables, no truth values
pub no_truths : (word : ℕ) → truths 0 word ≡ []
unfolding truths
no_truths word = refl

-- ---- line k

pub line_found : (s : State) (ls : List Line) (k : ℕ) (l d : Line) → s.lines ≡ map candidate_of ls → (s.n ≡ 0 → ⊥) → (k ≡ 0 → ⊥) → k - 1 < length ls → l ≡ get_or ls (k - 1) d
    → Ok (candidate_of l) ≡ line_of s k
line_found s ls k l d e opened some there is =
    let size = length-map ls candidate_of in
    let shut : eqb s.n 0 ≡ false = ne_eqb s.n 0 opened in
    let low : ltb 0 k ≡ true = lt-ltb 0 k (omega arith) in
    let high : leb k (length s.lines) ≡ true = le-leb k (length s.lines) (omega (arith, ap length e)) in
    let at : get_or s.lines (k - 1) no_line ≡ candidate_of l = ap (λ xs. get_or xs (k - 1) no_line) e ∙ get_or-map candidate_of ls (k - 1) d no_line there ∙ ap candidate_of (sym is) in
    rw (shut, low, high, at) refl

pub line_none : (s : State) (ls : List Line) (k : ℕ) → s.lines ≡ map candidate_of ls → (s.n ≡ 0 → ⊥) → length ls ≤ k - 1 → (k ≡ 0 → ⊥) → Err NoSuchLine ≡ line_of s k
line_none s ls k e opened past some =
    let size = length-map ls candidate_of in
    let shut : eqb s.n 0 ≡ false = ne_eqb s.n 0 opened in
    let low : ltb 0 k ≡ true = lt-ltb 0 k (omega arith) in
    let high : leb k (length s.lines) ≡ false = lt-leb k (length s.lines) (omega (arith, ap length e)) in
    rw (shut, low, high) refl
