-- The walk for a broken line. Assumes nothing.
use Rattle.std.proofs.Common.{◌≡◌, ℕ, ◌+◌, ◌≤◌, Bool, true, false, ◌||◌, List, [], ◌∷◌, cond, filter, Some, option_map, refl, sym, ap, ap₂, ◌∙◌}
use Rattle.std.specs.Prelude.{position}
use Rattle.std.specs.List.{position_from, enumerate_from, list_any, list_all}
use Rattle.std.specs.Option.{is_some}
use Rattle.std.proofs.lemmas.Bool.{and_parts}
use Rattle.std.proofs.lemmas.Iterator.Adapters.{position_from-zero}
use Rattle.words.specs.Bits.{first}
use Rattle.words.specs.Bits.{width}
use Rattle.clauses.specs.Values.{Values, full, truths}
use Rattle.clauses.specs.Clauses.{Signs, empty, within, broken}
use Rattle.lines.specs.declared.line.Line.{Line}
use Rattle.lines.specs.Lines.{clause_of, clauses}
use Rattle.lines.specs.ReadingOff.{breaks}
use Rattle.steps.specs.Writing.{oldest_broken}
use Rattle.weighing.specs.declared.book.Book.{Book}
use Rattle.weighing.specs.Books.{standing}
use Rattle.weighing.proofs.Standing.{broken_so}

-- the number of the first line that passes is the index of the first, where
-- lines are numbered from k
numbered_from : (t : Signs → Bool) (k : ℕ) (ls : List Line) → option_map (λ g. g.0) (first (filter (λ g. t g.1) (enumerate_from k (clauses ls)))) ≡ position_from (λ l. t (clause_of l)) k ls
numbered_from t k [] = refl
numbered_from t k (l ∷ ls) = go (t (clause_of l)) (numbered_from t (k + 1) ls)
  where
    go : (b : Bool) → option_map (λ g. g.0) (first (filter (λ g. t g.1) (enumerate_from (k + 1) (clauses ls)))) ≡ position_from (λ l. t (clause_of l)) (k + 1) ls
        → option_map (λ (g : ℕ × Signs). g.0) (first (cond b ((k, clause_of l) ∷ filter (λ g. t g.1) (enumerate_from (k + 1) (clauses ls))) (filter (λ g. t g.1) (enumerate_from (k + 1) (clauses ls)))))
        ≡ cond b (Some k) (position_from (λ l. t (clause_of l)) (k + 1) ls)
    go true h = refl
    go false h = h

one_further : {A : Type 0} (t : A → Bool) (k : ℕ) (xs : List A) → position_from t (k + 1) xs ≡ option_map (λ i. i + 1) (position_from t k xs)
one_further t k [] = refl
one_further t k (x ∷ xs) = go (t x) (one_further t (k + 1) xs)
  where
    go : (b : Bool) → position_from t (k + 1 + 1) xs ≡ option_map (λ i. i + 1) (position_from t (k + 1) xs)
        → cond b (Some (k + 1)) (position_from t (k + 1 + 1) xs) ≡ option_map (λ i. i + 1) (cond b (Some k) (position_from t (k + 1) xs))
    go true h = refl
    go false h = h

-- the oldest broken line is numbered one above its index
pub oldest_walked : (m : Values) (ls : List Line) → oldest_broken m (clauses ls) ≡ option_map (λ i. i + 1) (position (λ l. broken m (clause_of l)) ls)
oldest_walked m ls =
    let t : Line → Bool = λ l. broken m (clause_of l) in
    numbered_from (broken m) 1 ls ∙ one_further t 0 ls ∙ ap (option_map (λ i. i + 1)) (sym (position_from-zero t ls))

pub any_empty : (ls : List Line) → list_any (λ l. empty (clause_of l)) ls ≡ list_any empty (clauses ls)
any_empty [] = refl
any_empty (l ∷ ls) = ap (λ (b : Bool). empty (clause_of l) || b) (any_empty ls)

-- ---- whether any line is broken

pub found_from : (t : Signs → Bool) (k : ℕ) (cs : List Signs) → is_some (option_map (λ g. g.0) (first (filter (λ g. t g.1) (enumerate_from k cs)))) ≡ list_any t cs
found_from t k [] = refl
found_from t k (c ∷ cs) = go (t c) (found_from t (k + 1) cs)
  where
    go : (b : Bool) → is_some (option_map (λ g. g.0) (first (filter (λ g. t g.1) (enumerate_from (k + 1) cs)))) ≡ list_any t cs
        → is_some (option_map (λ (g : ℕ × Signs). g.0) (first (cond b ((k, c) ∷ filter (λ g. t g.1) (enumerate_from (k + 1) cs)) (filter (λ g. t g.1) (enumerate_from (k + 1) cs))))) ≡ (b || list_any t cs)
    go true h = refl
    go false h = h

any_alike : (n word : ℕ) (cs : List Signs) → n ≤ width → list_all (within n) cs ≡ true → list_any (broken (full word)) cs ≡ breaks (truths n word) cs
any_alike n word [] h w = refl
any_alike n word (c ∷ cs) h w =
    let p = and_parts (within n c) (list_all (within n) cs) w in
    ap₂ {C = Bool} (λ x y. x || y) (broken_so n word c h p.0) (any_alike n word cs h p.1)

-- where a broken line is found the assignment breaks one, and else none
pub found_breaks : (book : Book) (word : ℕ) → is_some (oldest_broken (full word) (standing book)) ≡ breaks (truths book.n word) (standing book)
found_breaks book word = found_from (broken (full word)) 1 (standing book) ∙ any_alike book.n word (standing book) book.wide book.inside
