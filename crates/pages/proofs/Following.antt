-- Each derived line of a sheet follows from lines before it. Assumes nothing.
use Rattle.std.proofs.Common.{◌≡◌, ℕ, zero, suc, ◌+◌, ◌<◌, ◌≤◌, Bool, true, false, ◌&&◌, List, [], ◌∷◌, ◌++◌, length, get_or, take, refl, sym, ap, ap₂, ◌∙◌, arith, length-append}
use Rattle.std.specs.List.{filter, list_any}
use Rattle.std.proofs.lemmas.Bool.{false≢true}
use Rattle.std.proofs.lemmas.List.{length-map, get_or-map, get_or_append_left, get_or-append-add, take-append-le}
use Rattle.clauses.specs.Clauses.{Signs, same, included, clash_in, resolvent}
use Rattle.lines.specs.declared.line.Origin.{Origin}
use Rattle.lines.specs.declared.line.Origin.TheVariants.{Given, Resolved, Widened}
use Rattle.lines.specs.Lines.{Candidate, given, given_clause, clauses_in, line, follows}
use Rattle.pages.specs.Says.{of_kind, count_of, sheet_number, renamed}
use Rattle.pages.proofs.Filters.{filter_at}
use Rattle.pages.proofs.Placing.{number_at, kind_of}
use Rattle.clause_laws.proofs.Found.{found}

-- ---- a line by its number

line_at : (cs : List Signs) (k : ℕ) (d : Signs) → k < length cs → line (suc k) cs ≡ get_or cs k d ∷ []
line_at [] k d h = absurd (omega arith)
line_at (c ∷ cs) zero d h = refl
line_at (c ∷ cs) (suc k) d h = line_at cs k d (omega arith)

no_line_at : (cs : List Signs) (k : ℕ) → length cs ≤ k → line (suc k) cs ≡ []
no_line_at [] zero h = refl
no_line_at [] (suc k) h = refl
no_line_at (c ∷ cs) zero h = absurd (omega arith)
no_line_at (c ∷ cs) (suc k) h = no_line_at cs k (omega arith)

-- a number at which some line passes is a line's
passes : (p : Signs → Bool) (k : ℕ) (cs : List Signs) → list_any p (line (suc k) cs) ≡ true → k < length cs
passes p zero [] h = absurd (false≢true h)
passes p (suc k) [] h = absurd (false≢true h)
passes p zero (c ∷ cs) h = omega arith
passes p (suc k) (c ∷ cs) h = let r = passes p k cs h in omega arith

clause_at : (ls : List Candidate) (i : ℕ) (l : Candidate) → i < length ls → get_or (clauses_in ls) i [] ≡ (get_or ls i l).clause
clause_at ls i l h = get_or-map (λ (k : Candidate). k.clause) ls i l [] h

clauses_length : (ls : List Candidate) → length (clauses_in ls) ≡ length ls
clauses_length ls = length-map ls (λ (k : Candidate). k.clause)

module _ (pre rest : List Candidate) where
  abbrev all : List Candidate
  all = pre ++ rest

  -- the lines of the sheet before the next derived line
  abbrev pub before : List Signs
  before = clauses_in (filter (of_kind true) all) ++ clauses_in (filter (of_kind false) pre)

  pre_at : (k : ℕ) (d : Candidate) → k < length pre → get_or all k d ≡ get_or pre k d
  pre_at k d h = get_or_append_left pre rest d k h

  -- an old line, by its new number
  moved : (k : ℕ) → k < length pre → line (sheet_number all (suc k)) before ≡ line (suc k) (clauses_in pre)
  moved k h = go (given (get_or all k e).origin) refl
    where
      e : Candidate
      e = given_clause []

      within : k < length all
      within = omega (arith, length-append pre rest)

      there : line (suc k) (clauses_in pre) ≡ (get_or pre k e).clause ∷ []
      there = line_at (clauses_in pre) k [] (omega (arith, clauses_length pre)) ∙ ap (λ c. c ∷ []) (clause_at pre k e h)

      go : (b : Bool) → given (get_or all k e).origin ≡ b → line (sheet_number all (suc k)) before ≡ line (suc k) (clauses_in pre)
      go true g =
          let f = filter_at (of_kind true) all k e within (kind_of (get_or all k e) true g) in
          let m : ℕ = count_of true (take k all) in
          let low : m < length (clauses_in (filter (of_kind true) all)) = omega (arith, f.0, clauses_length (filter (of_kind true) all)) in
          let low' : m < length before = omega (arith, length-append (clauses_in (filter (of_kind true) all)) (clauses_in (filter (of_kind false) pre))) in
          let z : 0 + m ≡ m = omega arith in
          ap (λ n. line n before) (number_at all true k e within g ∙ ap suc z) ∙ line_at before m [] low'
          ∙ ap (λ c. c ∷ [])
          (get_or_append_left (clauses_in (filter (of_kind true) all)) (clauses_in (filter (of_kind false) pre)) [] m low
          ∙ clause_at (filter (of_kind true) all) m e f.0 ∙ ap (λ (l : Candidate). l.clause) (f.1 ∙ pre_at k e h)) ∙ sym there
      go false g =
          let g' : given (get_or pre k e).origin ≡ false = ap (λ (l : Candidate). given l.origin) (sym (pre_at k e h)) ∙ g in
          let f = filter_at (of_kind false) pre k e h (kind_of (get_or pre k e) false g') in
          let upto : k ≤ length pre = omega arith in
          let m : ℕ = count_of false (take k pre) in
          let c : count_of false (take k all) ≡ m = ap (count_of false) (take-append-le k pre rest upto) in
          let size = clauses_length (filter (of_kind true) all) in
          let low : m < length (clauses_in (filter (of_kind false) pre)) = omega (arith, f.0, clauses_length (filter (of_kind false) pre)) in
          let t : ℕ = length (clauses_in (filter (of_kind true) all)) in
          let low' : t + m < length before = omega (arith, length-append (clauses_in (filter (of_kind true) all)) (clauses_in (filter (of_kind false) pre))) in
          let n : sheet_number all (suc k) ≡ suc (t + m) = number_at all false k e within g ∙ (omega arith) in
          ap (λ n. line n before) n ∙ line_at before (t + m) [] low'
          ∙ ap (λ c. c ∷ [])
          (get_or-append-add (clauses_in (filter (of_kind true) all)) (clauses_in (filter (of_kind false) pre)) m []
          ∙ clause_at (filter (of_kind false) pre) m e f.0 ∙ ap (λ (l : Candidate). l.clause) f.1) ∙ sym there

  -- a number at which something passes keeps its line
  kept : (p : Signs → Bool) (i : ℕ) → list_any p (line i (clauses_in pre)) ≡ true → line (sheet_number all i) before ≡ line i (clauses_in pre)
  kept p zero h = absurd (false≢true h)
  kept p (suc k) h = moved k (let r = passes p k (clauses_in pre) h in omega (arith, clauses_length pre))

  pub follows_moved : (o : Origin) (c : Signs) → follows (clauses_in pre) o c ≡ true → follows before (renamed (sheet_number all) o) c ≡ true
  follows_moved Given c h = refl
  follows_moved (Resolved v i j) c h =
      let test : Signs → Signs → Bool = λ g d. clash_in v g d && same c (resolvent v g d) in
      let outer : Signs → Bool = λ g. list_any (test g) (line j (clauses_in pre)) in
      let g = found outer (line i (clauses_in pre)) h in
      ap₂ {C = Bool} (λ xs ys. list_any (λ g. list_any (test g) ys) xs) (kept outer i h) (kept (test g.0) j g.1) ∙ h
  follows_moved (Widened i) c h = ap (λ xs. list_any (λ g. included g c) xs) (kept (λ g. included g c) i h) ∙ h
