-- The lines of a book as the code reads them, one by one. Assumes nothing.
use Rattle.std.proofs.Common.{◌≡◌, ℕ, zero, suc, ◌+◌, ◌<◌, ◌≤◌, Bool, true, List, [], ◌∷◌, length, get_or, take, ℤ, sym, ap, ◌∙◌, arith}
use Rattle.std.specs.List.{list_all}
use Rattle.std.proofs.lemmas.Bool.{and_parts}
use Rattle.std.proofs.lemmas.List.{take_all, length-take-le}
use Rattle.lines.proofs.Stated.{length-clauses, clauses_at}
use Rattle.words.specs.Bits.{width}
use Rattle.clauses.specs.declared.clause.Clause.{Clause}
use Rattle.clauses.specs.Values.{Values, assigned, full, truths}
use Rattle.clauses.specs.Clauses.{Signs, size, within, broken, critical}
use Rattle.clauses.specs.Words.{signs}
use Rattle.clauses.proofs.Literals.{all_wider}
use Rattle.clause_laws.proofs.Agreeing.{word_assignment}
use Rattle.lines.specs.declared.line.Line.{Line}
use Rattle.lines.specs.Lines.{clause_of, clauses}
use Rattle.guides.specs.Rows.{Fit}
use Rattle.steps.specs.Rows.{row}
use Rattle.weighing.specs.declared.book.Book.{Book}
use Rattle.steps.proofs.Rows.{raised_if, row_more, length-row, count-row-le, sum-row-le, broken-length}

-- what holds of all holds of each
pub all-at : {X : Type 0} (p : X → Bool) (xs : List X) (i : ℕ) (d : X) → list_all p xs ≡ true → i < length xs → p (get_or xs i d) ≡ true
all-at p [] i d h l = absurd (omega arith)
all-at p (x ∷ xs) zero d h l = (and_parts (p x) (list_all p xs) h).0
all-at p (x ∷ xs) (suc i) d h l = all-at p xs i d (and_parts (p x) (list_all p xs) h).1 (omega arith)

-- a word and its first n bits judge a line alike
pub critical_so : (n word : ℕ) (c : Signs) (l : ℤ) → n ≤ width → within n c ≡ true → critical (full word) l c ≡ critical (assigned (truths n word)) l c
unfolding truths
critical_so n word c l h w = (word_assignment n c w word h).2 l

pub broken_so : (n word : ℕ) (c : Signs) → n ≤ width → within n c ≡ true → broken (full word) c ≡ broken (assigned (truths n word)) c
unfolding truths
broken_so n word c h w = (word_assignment n c w word h).1

module _ (book : Book) (word : ℕ) where
  abbrev lines : List Line
  lines = book.lines.now

  -- the assignment
  abbrev a : List Bool
  a = truths book.n word

  -- line i
  pub clause-at : (i : ℕ) (d : Line) → i < length lines → get_or (clauses lines) i [] ≡ clause_of (get_or lines i d)
  clause-at i d h = clauses_at lines i d h

  pub within-at : (i : ℕ) (d : Line) → i < length lines → within book.n (clause_of (get_or lines i d)) ≡ true
  within-at i d h = rw (← (clause-at i d h)) (all-at (within book.n) (clauses lines) i [] book.inside (rw (length-clauses lines) h))

  pub broken-at : (i : ℕ) (d : Line) → i < length lines → broken (full word) (clause_of (get_or lines i d)) ≡ broken (assigned a) (clause_of (get_or lines i d))
  broken-at i d h = broken_so book.n word (clause_of (get_or lines i d)) book.wide (within-at i d h)

  -- what the code reads of line i
  module _ (i : ℕ) (d : Line) (c : Clause) (h : i < length lines) (e : c ≡ (get_or lines i d).clause) where
    pub reads-clause : get_or (clauses lines) i [] ≡ signs c
    reads-clause = rw e (clause-at i d h)

    pub reads-within : within book.n (signs c) ≡ true
    reads-within = rw e (within-at i d h)

    pub reads-broken : broken (full word) (signs c) ≡ broken (assigned a) (get_or (clauses lines) i [])
    reads-broken = broken_so book.n word (signs c) book.wide reads-within ∙ ap (broken (assigned a)) (sym reads-clause)

    pub reads-critical : (l : ℤ) → critical (full word) l (signs c) ≡ critical (assigned a) l (get_or (clauses lines) i [])
    reads-critical l = critical_so book.n word (signs c) l book.wide reads-within ∙ ap (critical (assigned a) l) (sym reads-clause)

  -- a line that is broken under some valuation is no longer than a row counts
  pub short : (i : ℕ) (d : Line) (c : Clause) (m : Values) → i < length lines → c ≡ (get_or lines i d).clause → broken m (signs c) ≡ true → size (signs c) ≤ width
  short i d c m h e b =
      let w : within book.n (signs c) ≡ true = rw e (within-at i d h) in
      let wide = book.wide in
      let l = broken-length book.n m 0 (signs c) w b in
      omega arith

  -- the row of one more line
  pub weighed-more :
      (i : ℕ) (d : Line) (c : Clause) (b : Bool) → i < length lines → c ≡ (get_or lines i d).clause → b ≡ broken (full word) (signs c)
      → row (take (i + 1) (clauses lines)) a ≡ raised_if b (size (signs c)) (row (take i (clauses lines)) a)
  weighed-more i d c b h e f =
      let g : get_or (clauses lines) i [] ≡ signs c = rw e (clause-at i d h) in
      let w : within book.n (signs c) ≡ true = rw e (within-at i d h) in
      let q : broken (assigned a) (signs c) ≡ b = sym (f ∙ broken_so book.n word (signs c) book.wide w) in
      row_more (clauses lines) a i [] (rw (length-clauses lines) h) ∙ rw (g, q)

  -- no entry is above the number of lines weighed
  pub entry-le : (i k : ℕ) → i ≤ length lines → k ≤ width → get_or (row (take i (clauses lines)) a) k 0 ≤ i
  entry-le i k h l =
      let c = count-row-le (take i (clauses lines)) a k (omega arith) in
      omega (arith, length-take-le i (clauses lines) (rw (length-clauses lines) h))

  pub all_weighed : row (take (length lines) (clauses lines)) a ≡ row (clauses lines) a
  all_weighed = ap (λ cs. row cs a) (take_all (length lines) (clauses lines) (omega (arith, length-clauses lines)))

  pub row-fit : Fit (row (clauses lines) a)
  row-fit =
      (length-row (clauses lines) a, omega (arith, sum-row-le (clauses lines) a (all_wider book.n width book.wide (clauses lines) book.inside), length-clauses lines, book.few))
