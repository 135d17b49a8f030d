-- The bar of the assignment, widened from the oldest broken line. Assumes
-- nothing.
use Rattle.std.proofs.Common.{◌≡◌, ℕ, ◌+◌, ◌≤◌, Bool, true, false, cond, ltb, List, [], ◌∷◌, ◌++◌, length, filter, Some, None, option_map, refl, sym, ap, ap₂, ◌∙◌, subst, arith}
use Rattle.std.specs.List.{flat_map, list_all, enumerate_from}
use Rattle.std.proofs.lemmas.Bool.{and_parts, ltb-true}
use Rattle.words.specs.Bits.{width, first}
use Rattle.words.proofs.Variables.{listed_same}
use Rattle.clauses.specs.declared.clause.Clause.{Clause}
use Rattle.clauses.specs.declared.value.Value.{Value}
use Rattle.clauses.specs.Words.{signs}
use Rattle.clauses.specs.Values.{is_true, is_false, full, assigned, truths}
use Rattle.clauses.specs.Clauses.{Sign, sign, Signs, blank, within, broken, has, bar}
use Rattle.clause_laws.proofs.Agreeing.{full-listed}
use Rattle.lines.specs.declared.line.Line.{Line}
use Rattle.lines.specs.Lines.{Candidate, candidate_of, widened_line, widened, keeps}
use Rattle.steps.specs.Writing.{fresh, broken_under, broken_lines, oldest_broken, barred}
use Rattle.steps.proofs.Written.{barred_keeps}
use Rattle.weighing.specs.declared.book.Book.{Book}
use Rattle.weighing.specs.Books.{standing}
use Rattle.weighing.proofs.Standing.{broken_so}
use Rattle.clauses.proofs.Listed.{length_truths}
use Rattle.search.specs.Laws.{KeepsTheFacts}

-- the word and the assignment break the same lines
under_from : (n word k : ℕ) (cs : List Signs) → n ≤ width → list_all (within n) cs ≡ true
    → filter (λ g. broken (full word) g.1) (enumerate_from k cs) ≡ filter (λ g. broken (assigned (truths n word)) g.1) (enumerate_from k cs)
under_from n word k [] h w = refl
under_from n word k (c ∷ cs) h w =
    let p = and_parts (within n c) (list_all (within n) cs) w in
    ap₂ {C = List (ℕ × Signs)} (λ b gs. cond b ((k, c) ∷ gs) gs) (broken_so n word c h p.0) (under_from n word (k + 1) cs h p.1)

pub under_alike : (book : Book) (word : ℕ) → broken_under (full word) (standing book) ≡ broken_lines (standing book) (truths book.n word)
under_alike book word = under_from book.n word 1 (standing book) book.wide book.inside

-- and have the same bar
pub bar_alike : (n word : ℕ) → n ≤ width → bar n (full word) ≡ bar (length (truths n word)) (assigned (truths n word))
unfolding bar truths
bar_alike n word h =
    listed_same width (λ k. place k (full word k) n) (λ k. place k (assigned (truths n word) k) (length (truths n word)))
    (λ k _. go k (ltb k n) refl ∙ ap (place k (assigned (truths n word) k)) (sym (length_truths n word)))
  where
    place : ℕ → Value → ℕ → Sign
    place k x m = cond (ltb k m) (sign (is_false x) (is_true x)) blank

    go : (k : ℕ) (t : Bool) → ltb k n ≡ t → place k (full word k) n ≡ place k (assigned (truths n word) k) n
    go k true e = ap (λ x. place k x n) (full-listed n k word h (ltb-true k n e))
    go k false e = rw e refl

-- ---- the first bar is widened from the oldest broken line

module _ (cs : List Signs) (b : Signs) where
  -- the bar, widened from each of these lines
  abbrev bars : List (ℕ × Signs) → List Candidate
  bars gs = flat_map (λ g. fresh cs (widened g.0 b)) gs

  -- if it is in the book, it is so whichever line it is widened from
  no_bars : has b cs ≡ true → (gs : List (ℕ × Signs)) → bars gs ≡ []
  no_bars h [] = refl
  no_bars h (g ∷ gs) = rw h (no_bars h gs)

  -- else the first is from the first of these lines
  pub first_bar : (gs : List (ℕ × Signs)) (i : ℕ) → option_map (λ g. g.0) (first gs) ≡ Some i → first (bars gs) ≡ first (fresh cs (widened i b))
  first_bar [] i e = cc
  first_bar (g ∷ gs) i e = go (has b cs) refl
    where
      same : g.0 ≡ i
      same = cc

      go : (t : Bool) → has b cs ≡ t → first (bars (g ∷ gs)) ≡ first (fresh cs (widened i b))
      go true h = rw (same, h) (ap first (no_bars h gs))
      go false h = rw (same, h) refl

-- ---- the bar of a book

none_first : (gs : List (ℕ × Signs)) → option_map (λ g. g.0) (first gs) ≡ None → gs ≡ []
none_first [] e = refl
none_first (g ∷ gs) e = cc

module _ (book : Book) (word : ℕ) where
  abbrev cs : List Signs
  cs = standing book

  abbrev a : List Bool
  a = truths book.n word

  -- no line is broken: there is none to widen
  pub no_bar : oldest_broken (full word) cs ≡ None → first (barred cs a) ≡ None
  unfolding barred
  no_bar e = ap (λ gs. first (bars cs (bar (length a) (assigned a)) gs)) (sym (under_alike book word) ∙ none_first (broken_under (full word) cs) e)

  -- the oldest broken line is line i
  bar_from : (i : ℕ) → oldest_broken (full word) cs ≡ Some i → first (barred cs a) ≡ first (fresh cs (widened i (bar book.n (full word))))
  unfolding barred
  bar_from i e =
      first_bar cs (bar (length a) (assigned a)) (broken_lines cs a) i (rw (← (under_alike book word)) e)
      ∙ ap (λ b. first (fresh cs (widened i b))) (sym (bar_alike book.n word book.wide))

  -- so is a line that is widened from it and has the clause of the bar
  pub bar_line :
      (i : ℕ) (c : Clause) (l : Line) → oldest_broken (full word) cs ≡ Some i → signs c ≡ bar book.n (full word) → l ≡ widened_line i c
      → first (fresh cs (candidate_of l)) ≡ first (barred cs a)
  bar_line i c l e b w =
      ap (λ (k : Line). first (fresh cs (candidate_of k))) w ∙ ap (λ d. first (fresh cs (widened i d))) b ∙ sym (bar_from i e)

  pub bar_keeps : (l : Line) → first (barred cs a) ≡ Some (candidate_of l) → KeepsTheFacts book.n book.lines.now l
  bar_keeps l e k =
      let n : length a ≡ book.n = length_truths book.n word in
      let wide = book.wide in
      subst (λ m. keeps m (book.lines.now ++ (l ∷ [])) ≡ true) n
      (barred_keeps book.lines.now a l (subst (λ m. keeps m book.lines.now ≡ true) (sym n) k) (omega arith) e)
