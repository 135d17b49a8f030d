-- The candidates to learn, line by line and literal by literal, as the loops
-- go through them. Assumes nothing.
use Rattle.std.proofs.Common.{◌≡◌, ℕ, ◌+◌, ◌<◌, ◌≤◌, Bool, true, false, cond, List, [], ◌∷◌, ◌++◌, length, get_or, Some, None, ℤ, pos, negsuc, neg_ℤ, nat_abs, FitsSigned, to_z, of_z, refl, sym, ap, ap₂, subst, ◌∙◌, arith}
use Rattle.std.specs.Int.{w32}
use Rattle.std.specs.List.{flat_map, list_all}
use Rattle.std.proofs.lemmas.Bool.{and_parts, false≢true}
use Rattle.std.proofs.lemmas.Bool.Decides.{nat_tests}
use Rattle.std.proofs.lemmas.Int.{to_z-of_z, fits_signed_from_abs}
use Rattle.std.proofs.lemmas.List.{append-nil, append_assoc}
use Rattle.lines.proofs.Stated.{length-clauses}
use Rattle.std.proofs.lemmas.List.Sums.{list_all-from_AllPass}
use Rattle.words.specs.Bits.{width, first}
use Rattle.clauses.specs.declared.clause.Clause.{Clause}
use Rattle.clauses.specs.Values.{Values, assigned, full, truths}
use Rattle.clauses.specs.Literals.{same_literal, lowest_number}
use Rattle.clauses.specs.Clauses.{Signs, holds, holds_plus, literals, within, broken, critical}
use Rattle.clauses.specs.Words.{signs}
use Rattle.clauses.proofs.Literals.{within-holds}
use Rattle.clauses.proofs.Words.{sign_past}
use Rattle.lines.specs.declared.line.Line.{Line}
use Rattle.lines.specs.Lines.{Candidate, candidate_of, numbered, keeps}
use Rattle.steps.specs.Writing.{from_pair, from_literal, from_line, resolved_from, learnt}
use Rattle.steps.proofs.Clashing.{critical-clashes, literals_held}
use Rattle.steps.proofs.Written.{learnt_keeps}
use Rattle.weighing.specs.declared.book.Book.{Book}
use Rattle.weighing.specs.Books.{standing}
use Rattle.weighing.proofs.Standing.{all-at, reads-clause, reads-broken, reads-critical}
use Rattle.clauses.proofs.Listed.{length_truths}
use Rattle.search.specs.Laws.{KeepsTheFacts}
use Rattle.search.proofs.Left.{left, at, candidates_more, flat_map-filter, none-empty, first_found}

-- ---- literals as the code has them

fits_literal : (l : ℤ) → nat_abs l ≤ width → FitsSigned w32 l
fits_literal l h = fits_signed_from_abs w32 l (omega arith)

pub read_literal : (l : ℤ) → nat_abs l ≤ width → to_z w32 (of_z w32 l) ≡ l
read_literal l h = to_z-of_z w32 l (fits_literal l h)

-- the lowest number's opposite is a literal of no clause
pub uncritical_past_all : (m : Values) (l : ℤ) (c : Clause) → same_literal l lowest_number ≡ true
    → critical m (neg_ℤ l) (signs c) ≡ false
uncritical_past_all m (pos k) c h = absurd (false≢true h)
uncritical_past_all m (negsuc k) c h =
    rw (ap holds_plus (sign_past c k (grind (arith, nat_tests)))) refl

-- ---- candidates

flat_map_same : {A B : Type 0} (f g : A → List B) → ((x : A) → f x ≡ g x) → (xs : List A) → flat_map f xs ≡ flat_map g xs
flat_map_same f g same [] = refl
flat_map_same {A} {B} f g same (x ∷ xs) = ap₂ {C = List B} (λ ys zs. ys ++ zs) (same x) (flat_map_same f g same xs)

module _ (cs : List Signs) (a : List Bool) where
  -- from g, a literal of it, and h
  abbrev pub by_pair : ℕ × Signs → ℤ → ℕ × Signs → List Candidate
  by_pair g l h = cond (critical (assigned a) (neg_ℤ l) h.1) (from_pair cs g l h) []

  -- from g and a literal of it
  abbrev pub by_literal : ℕ × Signs → ℤ → List Candidate
  by_literal g l = flat_map (by_pair g l) (numbered cs)

  -- from g
  abbrev pub by_line : ℕ × Signs → List Candidate
  by_line g = cond (broken (assigned a) g.1) (flat_map (by_literal g) (literals g.1)) []

  -- these are all
  pub learnt_is : learnt cs a ≡ flat_map by_line (numbered cs)
  unfolding learnt
  learnt_is =
      flat_map-filter (from_line cs a) (λ g. broken (assigned a) g.1) (numbered cs)
      ∙ flat_map_same _ by_line
      (λ g. ap (λ xs. cond (broken (assigned a) g.1) xs [])
      (flat_map_same (from_literal cs a g) (by_literal g) (λ l. flat_map-filter (from_pair cs g l) (λ h. critical (assigned a) (neg_ℤ l) h.1) (numbered cs)) (literals g.1)))
      (numbered cs)

  -- A broken line and one that is critical on the opposite of one of its
  -- literals clash in just that variable.
  pair-resolves :
      (g h : ℕ × Signs) (l : ℤ) → broken (assigned a) g.1 ≡ true → holds l g.1 ≡ true → critical (assigned a) (neg_ℤ l) h.1 ≡ true
      → by_pair g l h ≡ resolved_from cs g h
  pair-resolves g h l b k c =
      rw (c, critical-clashes (assigned a) l g.1 h.1 b k c) (sym (append-nil (from_pair cs g l h)))

-- all literals that are still to be told are held
pub all_held : (c : Signs) → list_all (λ l. holds l c) (literals c) ≡ true
all_held c = list_all-from_AllPass (λ l. holds l c) (literals c) (literals_held c)

-- the next one, and those after it
pub next_held : (c : Signs) (ls rest : List ℤ) (l : ℤ) → ls ≡ l ∷ rest → list_all (λ k. holds k c) ls ≡ true → (holds l c ≡ true) × (list_all (λ k. holds k c) rest ≡ true)
next_held c ls rest l e h = and_parts (holds l c) (list_all (λ k. holds k c) rest) (rw e at h)

-- A literal as it stands in the code, where it is one that the clause holds.
pub record Told (c : Signs) (l : ℤ) : Type 0 where
  pub small : nat_abs l ≤ width
  pub literal : to_z w32 (of_z w32 l) ≡ l
  pub held : holds (to_z w32 (of_z w32 l)) c ≡ true

told : (c : Signs) (l : ℤ) → nat_abs l ≤ width → holds l c ≡ true → Told c l
told c l h k =
    let z = read_literal l h in
    record { small = h; literal = z; held = rw z k }

-- ---- the loops over a book

module _ (book : Book) (word : ℕ) where
  abbrev cs : List Signs
  cs = standing book

  abbrev a : List Bool
  a = truths book.n word

  inside : (i : ℕ) → i < length book.lines.now → i < length cs
  inside i h = rw (length-clauses book.lines.now) h

  -- what the code reads of the line at index i
  module _ (whole after : List Candidate) (i : ℕ) (d : Line) (c : Clause) (h : i < length book.lines.now) (e : c ≡ (get_or book.lines.now i d).clause) where
    -- a line that is not broken is passed
    pub passed : false ≡ broken (full word) (signs c) → whole ≡ flat_map (by_line cs a) (left cs i) → whole ≡ flat_map (by_line cs a) (left cs (i + 1))
    passed b m = m ∙ candidates_more (by_line cs a) cs i (inside i h) ∙ rw (← (reads-broken book word i d c h e), ← b) refl

    -- the literals of a broken line are gone through
    pub opened :
        (ls : List ℤ) → ls ≡ literals (signs c) → true ≡ broken (full word) (signs c) → whole ≡ flat_map (by_line cs a) (left cs i)
        → (list_all (λ k. holds k (at cs i).1) ls ≡ true) × (whole ≡ flat_map (by_literal cs a (at cs i)) ls ++ flat_map (by_line cs a) (left cs (i + 1)))
    opened ls u b m =
        let line = reads-clause book word i d c h e in
        let here : ls ≡ literals (at cs i).1 = u ∙ ap literals (sym line) in
        let now : broken (assigned a) (at cs i).1 ≡ true = sym (b ∙ reads-broken book word i d c h e) in (
          rw here (all_held (at cs i).1),
          m ∙ candidates_more (by_line cs a) cs i (inside i h) ∙ rw (now, here) refl,
        )

    -- a line that is not critical is passed
    pub uncritical :
        (g : ℕ × Signs) (z : ℤ) → false ≡ critical (full word) (neg_ℤ z) (signs c) → whole ≡ flat_map (by_pair cs a g z) (left cs i) ++ after
        → whole ≡ flat_map (by_pair cs a g z) (left cs (i + 1)) ++ after
    uncritical g z b m =
        let no : critical (assigned a) (neg_ℤ z) (at cs i).1 ≡ false = sym (b ∙ reads-critical book word i d c h e (neg_ℤ z)) in
        m ∙ ap (λ xs. xs ++ after) (candidates_more (by_pair cs a g z) cs i (inside i h) ∙ rw no refl)

    -- what is resolved with a critical line, from a broken one that holds the
    -- opposite literal
    resolves :
        (g : ℕ × Signs) (z : ℤ) → broken (assigned a) g.1 ≡ true → holds z g.1 ≡ true → true ≡ critical (full word) (neg_ℤ z) (signs c)
        → by_pair cs a g z (at cs i) ≡ resolved_from cs g (at cs i)
    resolves g z k l b =
        pair-resolves cs a g (at cs i) z k l (sym (b ∙ reads-critical book word i d c h e (neg_ℤ z)))

    -- if nothing new, the line is passed
    pub unresolved :
        (g : ℕ × Signs) (z : ℤ) → broken (assigned a) g.1 ≡ true → holds z g.1 ≡ true → true ≡ critical (full word) (neg_ℤ z) (signs c)
        → None ≡ first (resolved_from cs g (at cs i)) → whole ≡ flat_map (by_pair cs a g z) (left cs i) ++ after → whole ≡ flat_map (by_pair cs a g z) (left cs (i + 1)) ++ after
    unresolved g z k l b n m =
        m ∙ ap (λ xs. xs ++ after)
        (candidates_more (by_pair cs a g z) cs i (inside i h)
        ∙ ap (λ xs. xs ++ flat_map (by_pair cs a g z) (left cs (i + 1))) (resolves g z k l b ∙ none-empty (resolved_from cs g (at cs i)) (sym n)))

    -- if a new line, it is the first of all
    pub found :
        (g : ℕ × Signs) (z : ℤ) (x : Candidate) → broken (assigned a) g.1 ≡ true → holds z g.1 ≡ true → true ≡ critical (full word) (neg_ℤ z) (signs c)
        → Some x ≡ first (resolved_from cs g (at cs i)) → whole ≡ flat_map (by_pair cs a g z) (left cs i) ++ after → first whole ≡ Some x
    found g z x k l b n m =
        first_found (by_pair cs a g z) cs i whole after x (inside i h) m (ap first (resolves g z k l b) ∙ sym n)

  -- the lines are gone through for the next literal
  pub begun :
      (whole after : List Candidate) (g : ℕ × Signs) (ls rest : List ℤ) (l z : ℤ) → ls ≡ l ∷ rest → z ≡ l → whole ≡ flat_map (by_literal cs a g) ls ++ after
      → whole ≡ flat_map (by_pair cs a g z) (left cs 0) ++ (flat_map (by_literal cs a g) rest ++ after)
  begun whole after g ls rest l z e q m =
      rw q (m ∙ ap (λ ks. flat_map (by_literal cs a g) ks ++ after) e ∙ append_assoc (by_literal cs a g l) (flat_map (by_literal cs a g) rest) after)

  -- the next literal of the line at index i
  pub next_told :
      (i : ℕ) (ls rest : List ℤ) (l : ℤ) → i < length book.lines.now → ls ≡ l ∷ rest → list_all (λ k. holds k (at cs i).1) ls ≡ true → Told (at cs i).1 l
  next_told i ls rest l h e k =
      let held = next_held (at cs i).1 ls rest l e k in
      let b = within-holds book.n (at cs i).1 (all-at (within book.n) cs i [] book.inside (inside i h)) l held.0 in
      let w = book.wide in
      told (at cs i).1 l (omega arith) held.0

  pub learn_keeps : (l : Line) → first (learnt cs a) ≡ Some (candidate_of l) → KeepsTheFacts book.n book.lines.now l
  learn_keeps l e k =
      let n : length a ≡ book.n = length_truths book.n word in
      subst (λ m. keeps m (book.lines.now ++ (l ∷ [])) ≡ true) n (learnt_keeps book.lines.now a l (subst (λ m. keeps m book.lines.now ≡ true) (sym n) k) e)
