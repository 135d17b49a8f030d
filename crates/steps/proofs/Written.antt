-- Written at the end of a book, a line of a step leaves the four facts kept.
-- Assumes nothing.
use Rattle.std.proofs.Common.{◌≡◌, ℕ, zero, suc, ◌<◌, ◌≤◌, Bool, true, false, not, ◌&&◌, ◌||◌, List, [], ◌∷◌, ◌++◌, length, ℤ, pos, negsuc, nat_abs, Some, sym, refl, ap, ◌∙◌, subst, arith}
use mathlib.Core.Bool.{or-true, or-false}
use Rattle.std.specs.List.{All, list_any, list_all}
use Rattle.std.proofs.lemmas.List.{append-nil, append_assoc, map-append}
use Rattle.std.proofs.lemmas.List.Elements.{All-append}
use Rattle.std.proofs.lemmas.List.Folds.{list_any-append, list_all-append}
use Rattle.std.proofs.lemmas.Bool.{false≢true, and_parts, and_from, or_parts, or_from, not-true, not_from_false}
use Rattle.words.specs.Bits.{width, first}
use Rattle.clauses.specs.Values.{is_true, is_false, assigned}
use Rattle.clauses.specs.Literals.{value_of}
use Rattle.clauses.specs.Clauses.{Signs, clean, within, broken, same, has, included, clash_in, clashes, resolvent, bar}
use Rattle.clauses.proofs.Contrary.{false-contrary}
use Rattle.clauses.proofs.Tests.{iff}
use Rattle.clauses.proofs.Literals.{same-holds, holds_same, holds-within}
use Rattle.lines.specs.declared.line.Line.{Line}
use Rattle.lines.specs.Lines.{Candidate, candidate_of, candidates, clauses, clauses_in, line, follows, follow, apart, keeps, keeps_facts, resolved}
use Rattle.lines.proofs.Resolution.{sole_clash}
use Rattle.clause_laws.proofs.Bar.{bar-broken}
use Rattle.clause_laws.proofs.Books.{kept_facts, facts_kept}
use Rattle.clause_laws.proofs.Counting.{same_self}
use Rattle.steps.specs.Laws.{WhatIsWrittenKeepsTheFacts, LearntAndBarredAreBroken, FromTwoLines, SweptFromTwoLines}
use Rattle.steps.specs.Writing.{learnt, barred, swept}
use Rattle.steps.proofs.Candidates.{All-first, Numbered, learnt_each, barred_each, swept_each}
use Rattle.steps.proofs.Clashing.{broken-clean, bar_breaks, critical-clashes, critical-broken, resolvent-within, resolvent-clean}

-- ---- one more line

-- a line over n variables that may be written after these
pub record Sound (n : ℕ) (cs : List Signs) (l : Candidate) : Type 0 where
  pub new : has l.clause cs ≡ false
  pub one_way : clean l.clause ≡ true
  pub within_n : within n l.clause ≡ true
  pub following : follows cs l.origin l.clause ≡ true

pub same_order : (c d : Signs) → same c d ≡ same d c
same_order c d = iff (same c d) (same d c) (turn c d) (turn d c)
  where
    turn : (x y : Signs) → same x y ≡ true → same y x ≡ true
    turn x y e = holds_same y x (λ l. sym (same-holds x y e l))

pub apart_more : (cs : List Signs) (c : Signs) → apart cs ≡ true → has c cs ≡ false → apart (cs ++ (c ∷ [])) ≡ true
apart_more [] c a n = refl
apart_more (d ∷ cs) c a n =
    let p = and_parts (not (has d cs)) (apart cs) a in
    let q = or_parts (same c d) (has c cs) n in
    let last : (same d c || false) ≡ false = or_from (same d c) false (same_order d c ∙ q.0) refl in
    let none : has d (cs ++ (c ∷ [])) ≡ false = list_any-append (same d) cs (c ∷ []) ∙ or_from (has d cs) (same d c || false) (not-true (has d cs) p.0) last in
    and_from (not (has d (cs ++ (c ∷ [])))) (apart (cs ++ (c ∷ []))) (not_from_false _ none) (apart_more cs c p.1 q.1)

follow_more : (older : List Signs) (ls : List Candidate) (l : Candidate) → follow older ls ≡ true → follows (older ++ clauses_in ls) l.origin l.clause ≡ true → follow older (ls ++ (l ∷ [])) ≡ true
follow_more older [] l f h = and_from (follows older l.origin l.clause) true (subst (λ cs. follows cs l.origin l.clause ≡ true) (append-nil older) h) refl
follow_more older (k ∷ ls) l f h =
    let c = k.clause in
    let p = and_parts (follows older k.origin c) (follow (older ++ (c ∷ [])) ls) f in
    and_from (follows older k.origin c) (follow (older ++ (c ∷ [])) (ls ++ (l ∷ []))) p.0
    (follow_more (older ++ (c ∷ [])) ls l p.1 (subst (λ cs. follows cs l.origin l.clause ≡ true) (sym (append_assoc older (c ∷ []) (clauses_in ls))) h))

pub all_more : (t : Signs → Bool) (cs : List Signs) (c : Signs) → list_all t cs ≡ true → t c ≡ true → list_all t (cs ++ (c ∷ [])) ≡ true
all_more t cs c a h = list_all-append t cs (c ∷ []) ∙ and_from (list_all t cs) (t c && true) a (and_from (t c) true h refl)

pub sound_keeps : (n : ℕ) (ls : List Candidate) (l : Candidate) → keeps_facts n ls ≡ true → Sound n (clauses_in ls) l → keeps_facts n (ls ++ (l ∷ [])) ≡ true
sound_keeps n ls l k s =
    let cs = clauses_in ls in
    let c = l.clause in
    let f = kept_facts n ls k in
    let more : clauses_in (ls ++ (l ∷ [])) ≡ cs ++ (c ∷ []) = map-append (λ (k : Candidate). k.clause) ls (l ∷ []) in
    facts_kept n (ls ++ (l ∷ [])) (record {
      one_way = rw more (all_more clean cs c f.one_way s.one_way);
      different = rw more (apart_more cs c f.different s.new);
      below = rw more (all_more (within n) cs c f.below s.within_n);
      following = follow_more [] ls l f.following s.following;
    })

-- the same of the code's lines
pub line_keeps : (n : ℕ) (ls : List Line) (l : Line) → keeps n ls ≡ true → Sound n (clauses ls) (candidate_of l) → keeps n (ls ++ (l ∷ [])) ≡ true
line_keeps n ls l k s =
    subst (λ (cs : List Candidate). keeps_facts n cs ≡ true) (sym (map-append candidate_of ls (l ∷ []))) (sound_keeps n (candidates ls) (candidate_of l) k s)

-- ---- what it follows from

-- the one line of a list of one passes
passes_one : (t : Signs → Bool) (c : Signs) (cs : List Signs) → cs ≡ c ∷ [] → t c ≡ true → list_any t cs ≡ true
passes_one t c cs e h = ap (list_any t) e ∙ or-false (t c) ∙ h

resolved_follows : (cs : List Signs) (v : ℕ) (g h : ℕ × Signs) → Numbered cs g → Numbered cs h → clash_in v g.1 h.1 ≡ true
    → follows cs (resolved v g.0 h.0 (resolvent v g.1 h.1)).origin (resolvent v g.1 h.1) ≡ true
resolved_follows cs v g h x y e =
    let r = resolvent v g.1 h.1 in
    passes_one (λ c. list_any (λ d. clash_in v c d && same r (resolvent v c d)) (line h.0 cs)) g.1 (line g.0 cs) x.0
    (passes_one (λ d. clash_in v g.1 d && same r (resolvent v g.1 d)) h.1 (line h.0 cs) y.0 (and_from (clash_in v g.1 h.1) (same r r) e (same_self r)))

-- ---- the bar

-- what is true or false is one of its variables
assigned_set : (a : List Bool) (k : ℕ) → (is_true (assigned a k) || is_false (assigned a k)) ≡ true → k < length a
assigned_set [] k h = absurd (false≢true h)
assigned_set (b ∷ a) zero h = omega arith
assigned_set (b ∷ a) (suc k) h = let r = assigned_set a k h in omega arith

false_within : (a : List Bool) (l : ℤ) → is_false (value_of (assigned a) l) ≡ true → nat_abs l ≤ length a
false_within a (pos zero) h = omega arith
false_within a (pos (suc k)) h = omega (arith, assigned_set a k (rw h (or-true (is_true (assigned a k)))))
false_within a (negsuc k) h =
    let e : is_true (assigned a k) ≡ true = false-contrary (assigned a k) ∙ h in
    omega (arith, assigned_set a k (rw e refl))

bar-within : (a : List Bool) → length a ≤ width → within (length a) (bar (length a) (assigned a)) ≡ true
bar-within a few =
    let b = bar (length a) (assigned a) in
    holds-within (length a) b (λ l h. false_within a l (sym ((bar-broken a few).0 l) ∙ h))

-- ---- the three steps

module _ (n : ℕ) (cs : List Signs) (one_way : list_all clean cs ≡ true) (below : list_all (within n) cs ≡ true) where
  resolved_sound : (v : ℕ) (g h : ℕ × Signs) → Numbered cs g → Numbered cs h → clashes g.1 h.1 ≡ v ∷ [] → has (resolvent v g.1 h.1) cs ≡ false
      → Sound n cs (resolved v g.0 h.0 (resolvent v g.1 h.1))
  resolved_sound v g h x y e new =
      record {
        new = new;
        one_way = resolvent-clean v g.1 h.1 (x.1 clean one_way) (y.1 clean one_way) e;
        within_n = resolvent-within n v g.1 h.1 (x.1 (within n) below) (y.1 (within n) below);
        following = resolved_follows cs v g h x y (sole_clash g.1 h.1 v e);
      }

  pub learnt_sound : (a : List Bool) → All (Sound n cs) (learnt cs a)
  learnt_sound a =
      learnt_each (Sound n cs) cs a
      (λ g h l x y b e c new. resolved_sound (nat_abs l) g h x y (critical-clashes (assigned a) l g.1 h.1 b e c) new)

  pub swept_sound : All (Sound n cs) (swept cs)
  swept_sound = swept_each (Sound n cs) cs (λ g h v x y older e new. resolved_sound v g h x y e new)

pub barred_sound : (cs : List Signs) (a : List Bool) → length a ≤ width → All (Sound (length a) cs) (barred cs a)
barred_sound cs a few =
    let b = bar (length a) (assigned a) in
    barred_each (Sound (length a) cs) cs a
    (λ g x e new. record {
      new = new;
      one_way = broken-clean (assigned a) b (bar_breaks (length a) (assigned a));
      within_n = bar-within a few;
      following = passes_one (λ c. included c b) g.1 (line g.0 cs) x.0 ((bar-broken a few).3 g.1 e);
    })

pub swept_from_two : SweptFromTwoLines
swept_from_two cs =
    swept_each (λ l. FromTwoLines cs l.origin) cs
    (λ g h v x y older e new. (older, λ c d at_c at_d. let first : g.1 ≡ c = cc in let second : h.1 ≡ d = cc in rw (← first, ← second) e))

pub written_keeps : WhatIsWrittenKeepsTheFacts
written_keeps ls a k few i d b =
    let cs = clauses_in ls in
    let p = kept_facts (length a) ls k in
    let Q = Sound (length a) cs in
    let later = All-append Q (barred cs a) (swept cs) (barred_sound cs a few) (swept_sound (length a) cs p.one_way p.below) in
    let all = All-append Q (learnt cs a) (barred cs a ++ swept cs) (learnt_sound (length a) cs p.one_way p.below a) later in
    sound_keeps (length a) ls _ k (all i d b)

-- ---- the first of each

pub learnt_keeps : (ls : List Line) (a : List Bool) (l : Line) → keeps (length a) ls ≡ true → first (learnt (clauses ls) a) ≡ Some (candidate_of l)
    → keeps (length a) (ls ++ (l ∷ [])) ≡ true
learnt_keeps ls a l k e =
    let p = kept_facts (length a) (candidates ls) k in
    line_keeps (length a) ls l k (All-first (Sound (length a) (clauses ls)) _ _ (learnt_sound (length a) (clauses ls) p.one_way p.below a) e)

pub barred_keeps : (ls : List Line) (a : List Bool) (l : Line) → keeps (length a) ls ≡ true → length a ≤ width → first (barred (clauses ls) a) ≡ Some (candidate_of l)
    → keeps (length a) (ls ++ (l ∷ [])) ≡ true
barred_keeps ls a l k few e = line_keeps (length a) ls l k (All-first (Sound (length a) (clauses ls)) _ _ (barred_sound (clauses ls) a few) e)

pub swept_keeps : (n : ℕ) (ls : List Line) (l : Line) → keeps n ls ≡ true → first (swept (clauses ls)) ≡ Some (candidate_of l) → keeps n (ls ++ (l ∷ [])) ≡ true
swept_keeps n ls l k e =
    let p = kept_facts n (candidates ls) k in
    line_keeps n ls l k (All-first (Sound n (clauses ls)) _ _ (swept_sound n (clauses ls) p.one_way p.below) e)

-- ---- what is broken now

abbrev Broken : List Bool → Candidate → Type 0
Broken a l = broken (assigned a) l.clause ≡ true

all_learnt_broken : (cs : List Signs) (a : List Bool) → All (Broken a) (learnt cs a)
all_learnt_broken cs a = learnt_each (Broken a) cs a (λ g h l x y b e c new. critical-broken (assigned a) l g.1 h.1 b c)

all_barred_broken : (cs : List Signs) (a : List Bool) → All (Broken a) (barred cs a)
all_barred_broken cs a = barred_each (Broken a) cs a (λ g x e new. bar_breaks (length a) (assigned a))

pub written_broken : LearntAndBarredAreBroken
written_broken cs a = All-append (Broken a) (learnt cs a) (barred cs a) (all_learnt_broken cs a) (all_barred_broken cs a)

pub learnt_broken : (cs : List Signs) (a : List Bool) (l : Candidate) → first (learnt cs a) ≡ Some l → broken (assigned a) l.clause ≡ true
learnt_broken cs a l e = All-first (Broken a) (learnt cs a) l (all_learnt_broken cs a) e

pub barred_broken : (cs : List Signs) (a : List Bool) (l : Candidate) → first (barred cs a) ≡ Some l → broken (assigned a) l.clause ≡ true
barred_broken cs a l e = All-first (Broken a) (barred cs a) l (all_barred_broken cs a) e
