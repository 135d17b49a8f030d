-- What meets the given lines of a book meets all of them. Assumes nothing.
use Rattle.std.proofs.Common.{◌≡◌, ℕ, zero, suc, Bool, true, false, ◌&&◌, List, [], ◌∷◌, ◌++◌, sym, refl, ◌∙◌, ⊎_elim}
use Rattle.std.proofs.lemmas.Bool.{false≢true, and_parts, and_from, and_left, and_right, or_cases}
use Rattle.words.specs.Bits.{keep}
use Rattle.lines.specs.declared.line.Origin.{Origin}
use Rattle.lines.specs.declared.line.Origin.TheVariants.{Given, Resolved, Widened}
use Rattle.std.specs.List.{list_any, list_all}
use Rattle.clauses.specs.Values.{Values}
use Rattle.clauses.specs.Clauses.{Signs, empty, clean, within, meets, same, included, clash_in, resolvent}
use Rattle.lines.specs.Lines.{Candidate, clauses_in, given, givens_in, line, follows, follow, apart, keeps_facts}
use Rattle.std.proofs.lemmas.List.Folds.{list_all-append}
use Rattle.lines.proofs.Resolution.{empty-meets, same_meets, widening_sound, resolution_sound}

-- ---- lists of clauses

found : (p q : Signs → Bool) (k : ℕ) (cs : List Signs) → list_all q cs ≡ true → list_any p (line (suc k) cs) ≡ true → (g : Signs) × (p g ≡ true) × (q g ≡ true)
found p q zero [] a h = absurd (false≢true h)
found p q (suc k) [] a h = absurd (false≢true h)
found p q zero (c ∷ cs) a h = (c, ⊎_elim (λ x. x) (λ x. absurd (false≢true x)) (or_cases (p c) false h), (and_parts (q c) (list_all q cs) a).0)
found p q (suc k) (c ∷ cs) a h = found p q k cs (and_parts (q c) (list_all q cs) a).1 h

-- A line that is named is one of the lines, and has what they all have.
named : (p q : Signs → Bool) (k : ℕ) (cs : List Signs) → list_all q cs ≡ true → list_any p (line k cs) ≡ true → (g : Signs) × (p g ≡ true) × (q g ≡ true)
named p q zero cs a h = absurd (false≢true h)
named p q (suc k) cs a h = found p q k cs a h

-- ---- the four facts

-- one by one
pub record Kept (n : ℕ) (ls : List Candidate) : Type 0 where
  pub one_way : list_all clean (clauses_in ls) ≡ true
  pub different : apart (clauses_in ls) ≡ true
  pub below : list_all (within n) (clauses_in ls) ≡ true
  pub following : follow [] ls ≡ true

pub kept_facts : (n : ℕ) (ls : List Candidate) → keeps_facts n ls ≡ true → Kept n ls
kept_facts n ls k =
    let p = and_parts (list_all clean (clauses_in ls) && apart (clauses_in ls)) (list_all (within n) (clauses_in ls) && follow [] ls) k in
    let q = and_parts (list_all clean (clauses_in ls)) (apart (clauses_in ls)) p.0 in
    let r = and_parts (list_all (within n) (clauses_in ls)) (follow [] ls) p.1 in
    record { one_way = q.0; different = q.1; below = r.0; following = r.1 }

pub facts_kept : (n : ℕ) (ls : List Candidate) → Kept n ls → keeps_facts n ls ≡ true
facts_kept n ls k =
    and_from (list_all clean (clauses_in ls) && apart (clauses_in ls)) (list_all (within n) (clauses_in ls) && follow [] ls)
    (and_from (list_all clean (clauses_in ls)) (apart (clauses_in ls)) k.one_way k.different)
    (and_from (list_all (within n) (clauses_in ls)) (follow [] ls) k.below k.following)

-- ---- line after line

abbrev pub sound : Values → Signs → Bool
sound m c = clean c && meets m c

pub follows-met :
    (m : Values) (older : List Signs) (o : Origin) (c : Signs)
    → list_all (sound m) older ≡ true → follows older o c ≡ true → (given o ≡ true → meets m c ≡ true) → meets m c ≡ true
follows-met m older Given c a f h = h refl
follows-met m older (Resolved v i j) c a f h =
    let g = named (λ x. list_any (λ y. clash_in v x y && same c (resolvent v x y)) (line j older)) (sound m) i older a f in
    let d = named (λ y. clash_in v g.0 y && same c (resolvent v g.0 y)) (sound m) j older a g.1 in
    let p = and_parts (clean g.0) (meets m g.0) g.2 in
    let q = and_parts (clean d.0) (meets m d.0) d.2 in
    let r = and_parts (clash_in v g.0 d.0) (same c (resolvent v g.0 d.0)) d.1 in
    same_meets c (resolvent v g.0 d.0) m r.1
    ∙ resolution_sound v g.0 d.0 m p.0 q.0 r.0 p.1 q.1
follows-met m older (Widened i) c a f h =
    let g = named (λ x. included x c) (sound m) i older a f in
    widening_sound g.0 c m g.1 (and_parts (clean g.0) (meets m g.0) g.2).1

-- the given clause is met, and so are those after it
kept_parts : (b : Bool) (q : Signs → Bool) (c : Signs) (cs : List Signs) → list_all q (keep b c cs) ≡ true → (b ≡ true → q c ≡ true) × (list_all q cs ≡ true)
kept_parts true q c cs h = let p = and_parts (q c) (list_all q cs) h in ((λ _. p.0), p.1)
kept_parts false q c cs h = ((λ e. absurd (false≢true e)), h)

follow-met :
    (m : Values) (older : List Signs) (ls : List Candidate) → list_all (sound m) older ≡ true → list_all clean (clauses_in ls) ≡ true → follow older ls ≡ true
    → list_all (meets m) (givens_in ls) ≡ true → list_all (meets m) (clauses_in ls) ≡ true
follow-met m older [] a e f h = refl
follow-met m older (l ∷ ls) a e f h =
    let c = l.clause in
    let p = and_parts (clean c) (list_all clean (clauses_in ls)) e in
    let q = and_parts (follows older l.origin c) (follow (older ++ (c ∷ [])) ls) f in
    let r = kept_parts (given l.origin) (meets m) c (givens_in ls) h in
    let k = follows-met m older l.origin c a q.0 r.0 in
    let n : list_all (sound m) (older ++ (c ∷ [])) ≡ true = rw (list_all-append (sound m) older (c ∷ []), a, p.0, k) refl in
    and_from (meets m c) (list_all (meets m) (clauses_in ls)) k (follow-met m (older ++ (c ∷ [])) ls n p.1 q.1 r.1)

pub given-met : (n : ℕ) (ls : List Candidate) (m : Values) → keeps_facts n ls ≡ true → list_all (meets m) (givens_in ls) ≡ true → list_all (meets m) (clauses_in ls) ≡ true
given-met n ls m k h = let f = kept_facts n ls k in follow-met m [] ls refl f.one_way f.following h

-- ---- an empty line

empty_unmet : (cs : List Signs) (m : Values) → list_any empty cs ≡ true → list_all (meets m) cs ≡ false
empty_unmet [] m h = absurd (false≢true h)
empty_unmet (c ∷ cs) m h =
    ⊎_elim
    (λ x. and_left (meets m c) (list_all (meets m) cs) (empty-meets c m x))
    (λ x. and_right (meets m c) (list_all (meets m) cs) (empty_unmet cs m x))
    (or_cases (empty c) (list_any empty cs) h)

pub empty_refutes : (n : ℕ) (ls : List Candidate) (m : Values) → keeps_facts n ls ≡ true → list_any empty (clauses_in ls) ≡ true → list_all (meets m) (givens_in ls) ≡ false
empty_refutes n ls m k e = go (list_all (meets m) (givens_in ls)) refl
  where
    go : (b : Bool) → list_all (meets m) (givens_in ls) ≡ b → b ≡ false
    go true h = sym (given-met n ls m k h) ∙ empty_unmet (clauses_in ls) m e
    go false h = refl
