-- The sheet of a book is a book that keeps the four facts. Assumes nothing.
use Rattle.std.proofs.Common.{◌≡◌, ℕ, Bool, true, false, not, cond, ◌&&◌, ◌||◌, List, [], ◌∷◌, ◌++◌, map, refl, sym, ap, ap₂, ◌∙◌, subst}
use Rattle.std.specs.List.{filter, list_any, list_all}
use Rattle.std.proofs.lemmas.Bool.{false≢true, and_parts, and_from, or_parts, or_from, not-true, not_from_false}
use Rattle.std.proofs.lemmas.List.{append-nil, append_assoc, map-append}
use Rattle.std.proofs.lemmas.List.Elements.{filter-append}
use Rattle.std.proofs.lemmas.List.Folds.{list_all-append}
use Rattle.words.specs.Bits.{alike, keep}
use Rattle.clauses.specs.Clauses.{Signs, clean, within, empty, same, has}
use Rattle.clauses.proofs.Tests.{iff}
use Rattle.clauses.proofs.Literals.{same-holds, holds_same}
use Rattle.lines.specs.declared.line.Origin.{Origin}
use Rattle.lines.specs.declared.line.Origin.TheVariants.{Given, Resolved, Widened}
use Rattle.lines.specs.Lines.{Candidate, given, clauses_in, givens_in, follows, follow, apart}
use Rattle.pages.specs.Says.{of_kind, sheet_number, renamed, renumbered, part, sheet}
use Rattle.pages.specs.Laws.{ASheetIsABook}
use Rattle.pages.proofs.Following.{follows_moved}

same_order : (c d : Signs) → same c d ≡ same d c
same_order c d = iff (same c d) (same d c) (turn c d) (turn d c)
  where
    turn : (x y : Signs) → same x y ≡ true → same y x ≡ true
    turn x y e = holds_same y x (λ l. sym (same-holds x y e l))

-- ---- the parts of a list

-- the clauses of the lines of one kind
abbrev chosen : Bool → List Candidate → List Signs
chosen b ls = clauses_in (filter (of_kind b) ls)

part_clauses : (b : Bool) (f : ℕ → ℕ) (ls : List Candidate) → clauses_in (part b f ls) ≡ chosen b ls
part_clauses b f ls = go (filter (of_kind b) ls)
  where
    go : (ks : List Candidate) → clauses_in (map (renumbered f) ks) ≡ clauses_in ks
    go [] = refl
    go (k ∷ ks) = ap (λ cs. k.clause ∷ cs) (go ks)

sheet_clauses : (ls : List Candidate) → clauses_in (sheet ls) ≡ chosen true ls ++ chosen false ls
sheet_clauses ls =
    let f = sheet_number ls in
    map-append (λ (l : Candidate). l.clause) (part true f ls) (part false f ls) ∙ ap₂ {C = List Signs} (λ x y. x ++ y) (part_clauses true f ls) (part_clauses false f ls)

-- ---- tests of all and of some

all_chosen : (b : Bool) (t : Signs → Bool) (ls : List Candidate) → list_all t (clauses_in ls) ≡ true → list_all t (chosen b ls) ≡ true
all_chosen b t [] h = refl
all_chosen b t (l ∷ ls) h = let p = and_parts (t l.clause) (list_all t (clauses_in ls)) h in go (of_kind b l) p.0 (all_chosen b t ls p.1)
  where
    go : (x : Bool) → t l.clause ≡ true → list_all t (chosen b ls) ≡ true → list_all t (clauses_in (cond x (l ∷ filter (of_kind b) ls) (filter (of_kind b) ls))) ≡ true
    go true e k = and_from (t l.clause) (list_all t (chosen b ls)) e k
    go false e k = k

all_parts : (t : Signs → Bool) (ls : List Candidate) → list_all t (clauses_in ls) ≡ true → list_all t (chosen true ls ++ chosen false ls) ≡ true
all_parts t ls h =
    list_all-append t (chosen true ls) (chosen false ls) ∙ and_from (list_all t (chosen true ls)) (list_all t (chosen false ls)) (all_chosen true t ls h) (all_chosen false t ls h)

-- of which kind the first line is decides where its clause goes
abbrev split : Bool → Signs → List Signs → List Signs → List Signs
split true c xs ys = (c ∷ xs) ++ ys
split false c xs ys = xs ++ (c ∷ ys)

split_is : (l : Candidate) (ls : List Candidate) → chosen true (l ∷ ls) ++ chosen false (l ∷ ls) ≡ split (given l.origin) l.clause (chosen true ls) (chosen false ls)
split_is l ls = go (given l.origin)
  where
    go : (b : Bool) → clauses_in (cond (alike b true) (l ∷ filter (of_kind true) ls) (filter (of_kind true) ls)) ++ clauses_in (cond (alike b false) (l ∷ filter (of_kind false) ls) (filter (of_kind false) ls))
        ≡ split b l.clause (chosen true ls) (chosen false ls)
    go true = refl
    go false = refl

any_middle : (t : Signs → Bool) (c : Signs) (xs ys : List Signs) → list_any t (xs ++ (c ∷ ys)) ≡ (t c || list_any t (xs ++ ys))
any_middle t c [] ys = refl
any_middle t c (x ∷ xs) ys = ap (λ b. t x || b) (any_middle t c xs ys) ∙ swap (t x) (t c) (list_any t (xs ++ ys))
  where
    swap : (a b d : Bool) → (a || (b || d)) ≡ (b || (a || d))
    swap true true d = refl
    swap true false d = refl
    swap false true d = refl
    swap false false d = refl

any_split : (b : Bool) (t : Signs → Bool) (c : Signs) (xs ys : List Signs) → list_any t (split b c xs ys) ≡ (t c || list_any t (xs ++ ys))
any_split true t c xs ys = refl
any_split false t c xs ys = any_middle t c xs ys

any_parts : (t : Signs → Bool) (ls : List Candidate) → list_any t (chosen true ls ++ chosen false ls) ≡ list_any t (clauses_in ls)
any_parts t [] = refl
any_parts t (l ∷ ls) =
    ap (list_any t) (split_is l ls) ∙ any_split (given l.origin) t l.clause (chosen true ls) (chosen false ls) ∙ ap (λ b. t l.clause || b) (any_parts t ls)

-- ---- no two the same

apart_middle : (c : Signs) (xs ys : List Signs) → apart (xs ++ ys) ≡ true → has c (xs ++ ys) ≡ false → apart (xs ++ (c ∷ ys)) ≡ true
apart_middle c [] ys a n = and_from (not (has c ys)) (apart ys) (not_from_false _ n) a
apart_middle c (x ∷ xs) ys a n =
    let p = and_parts (not (has x (xs ++ ys))) (apart (xs ++ ys)) a in
    let q = or_parts (same c x) (has c (xs ++ ys)) n in
    let none : has x (xs ++ (c ∷ ys)) ≡ false = any_middle (same x) c xs ys ∙ or_from (same x c) (has x (xs ++ ys)) (same_order x c ∙ q.0) (not-true (has x (xs ++ ys)) p.0) in
    and_from (not (has x (xs ++ (c ∷ ys)))) (apart (xs ++ (c ∷ ys))) (not_from_false _ none) (apart_middle c xs ys p.1 q.1)

apart_split : (b : Bool) (c : Signs) (xs ys : List Signs) → apart (xs ++ ys) ≡ true → has c (xs ++ ys) ≡ false → apart (split b c xs ys) ≡ true
apart_split true c xs ys a n = apart_middle c [] (xs ++ ys) a n
apart_split false c xs ys a n = apart_middle c xs ys a n

apart_parts : (ls : List Candidate) → apart (clauses_in ls) ≡ true → apart (chosen true ls ++ chosen false ls) ≡ true
apart_parts [] h = refl
apart_parts (l ∷ ls) h =
    let p = and_parts (not (has l.clause (clauses_in ls))) (apart (clauses_in ls)) h in
    subst (λ cs. apart cs ≡ true) (sym (split_is l ls))
    (apart_split (given l.origin) l.clause (chosen true ls) (chosen false ls) (apart_parts ls p.1) (any_parts (same l.clause) ls ∙ not-true (has l.clause (clauses_in ls)) p.0))

-- ---- each follows

follow_append : (older : List Signs) (ks ls : List Candidate) → follow older (ks ++ ls) ≡ (follow older ks && follow (older ++ clauses_in ks) ls)
follow_append older [] ls = ap (λ cs. follow cs ls) (sym (append-nil older))
follow_append older (k ∷ ks) ls =
    let c = k.clause in
    let a = follows older k.origin c in
    ap (λ b. a && b) (follow_append (older ++ (c ∷ [])) ks ls ∙ ap (λ cs. follow (older ++ (c ∷ [])) ks && follow cs ls) (append_assoc older (c ∷ []) (clauses_in ks)))
    ∙ group a (follow (older ++ (c ∷ [])) ks) (follow (older ++ (c ∷ clauses_in ks)) ls)
  where
    group : (x y z : Bool) → (x && (y && z)) ≡ ((x && y) && z)
    group true y z = refl
    group false y z = refl

given_follows : (f : ℕ → ℕ) (older : List Signs) (o : Origin) (c : Signs) → given o ≡ true → follows older (renamed f o) c ≡ true
given_follows f older Given c h = refl
given_follows f older (Resolved v i j) c h = absurd (false≢true h)
given_follows f older (Widened i) c h = absurd (false≢true h)

follow_given : (f : ℕ → ℕ) (older : List Signs) (ls : List Candidate) → follow older (part true f ls) ≡ true
follow_given f older [] = refl
follow_given f older (l ∷ ls) = go (given l.origin) refl (λ os. follow_given f os ls)
  where
    go : (b : Bool) → given l.origin ≡ b → ((os : List Signs) → follow os (part true f ls) ≡ true) → follow older (map (renumbered f) (cond (alike (given l.origin) true) (l ∷ filter (of_kind true) ls) (filter (of_kind true) ls))) ≡ true
    go true e rest =
        subst (λ b. follow older (map (renumbered f) (cond (alike b true) (l ∷ filter (of_kind true) ls) (filter (of_kind true) ls))) ≡ true) (sym e)
        (and_from (follows older (renamed f l.origin) l.clause) (follow (older ++ (l.clause ∷ [])) (part true f ls)) (given_follows f older l.origin l.clause e) (rest (older ++ (l.clause ∷ []))))
    go false e rest =
        subst (λ b. follow older (map (renumbered f) (cond (alike b true) (l ∷ filter (of_kind true) ls) (filter (of_kind true) ls))) ≡ true) (sym e) (rest older)

follow_one : (all pre rest : List Candidate) (l : Candidate) → all ≡ pre ++ (l ∷ rest) → follows (clauses_in pre) l.origin l.clause ≡ true
    → follow (chosen true all ++ chosen false (pre ++ (l ∷ []))) (part false (sheet_number all) rest) ≡ true
    → follow (chosen true all ++ chosen false pre) (part false (sheet_number all) (l ∷ rest)) ≡ true
follow_one all pre rest l e h next = go (given l.origin) refl
  where
    f : ℕ → ℕ
    f = sheet_number all

    this : follows (chosen true all ++ chosen false pre) (renamed f l.origin) l.clause ≡ true
    this = subst (λ ks. follows (chosen true ks ++ chosen false pre) (renamed (sheet_number ks) l.origin) l.clause ≡ true) (sym e) (follows_moved pre (l ∷ rest) l.origin l.clause h)

    more : chosen false (pre ++ (l ∷ [])) ≡ chosen false pre ++ clauses_in (filter (of_kind false) (l ∷ []))
    more = ap clauses_in (filter-append (of_kind false) pre (l ∷ [])) ∙ map-append (λ (k : Candidate). k.clause) (filter (of_kind false) pre) (filter (of_kind false) (l ∷ []))

    go : (b : Bool) → given l.origin ≡ b
        → follow (chosen true all ++ chosen false pre) (map (renumbered f) (cond (alike (given l.origin) false) (l ∷ filter (of_kind false) rest) (filter (of_kind false) rest))) ≡ true
    go true g =
        subst (λ b. follow (chosen true all ++ chosen false pre) (map (renumbered f) (cond (alike b false) (l ∷ filter (of_kind false) rest) (filter (of_kind false) rest))) ≡ true) (sym g)
        (subst (λ cs. follow (chosen true all ++ cs) (part false f rest) ≡ true)
        (more ∙ ap (λ b. chosen false pre ++ clauses_in (cond (alike b false) (l ∷ []) [])) g ∙ append-nil (chosen false pre)) next)
    go false g =
        subst (λ b. follow (chosen true all ++ chosen false pre) (map (renumbered f) (cond (alike b false) (l ∷ filter (of_kind false) rest) (filter (of_kind false) rest))) ≡ true) (sym g)
        (and_from (follows (chosen true all ++ chosen false pre) (renamed f l.origin) l.clause) (follow ((chosen true all ++ chosen false pre) ++ (l.clause ∷ [])) (part false f rest)) this
        (subst (λ cs. follow cs (part false f rest) ≡ true)
        (ap (λ cs. chosen true all ++ cs) (more ∙ ap (λ b. chosen false pre ++ clauses_in (cond (alike b false) (l ∷ []) [])) g) ∙ sym (append_assoc (chosen true all) (chosen false pre) (l.clause ∷ []))) next))

follow_moved : (all pre rest : List Candidate) → all ≡ pre ++ rest → follow (clauses_in pre) rest ≡ true
    → follow (chosen true all ++ chosen false pre) (part false (sheet_number all) rest) ≡ true
follow_moved all pre [] e h = refl
follow_moved all pre (l ∷ rest) e h =
    let p = and_parts (follows (clauses_in pre) l.origin l.clause) (follow (clauses_in pre ++ (l.clause ∷ [])) rest) h in
    follow_one all pre rest l e p.0
    (follow_moved all (pre ++ (l ∷ [])) rest (e ∙ sym (append_assoc pre (l ∷ []) rest))
    (subst (λ cs. follow cs rest ≡ true) (sym (map-append (λ (k : Candidate). k.clause) pre (l ∷ []))) p.1))

follow_parts : (ls : List Candidate) → follow [] ls ≡ true → follow [] (sheet ls) ≡ true
follow_parts ls h =
    let f = sheet_number ls in
    follow_append [] (part true f ls) (part false f ls)
    ∙ and_from (follow [] (part true f ls)) (follow (clauses_in (part true f ls)) (part false f ls)) (follow_given f [] ls)
    (subst (λ cs. follow cs (part false f ls) ≡ true) (append-nil (chosen true ls) ∙ sym (part_clauses true f ls)) (follow_moved ls [] ls refl h))

-- ---- the given lines

given_renamed : (f : ℕ → ℕ) (o : Origin) → given (renamed f o) ≡ given o
given_renamed f Given = refl
given_renamed f (Resolved v i j) = refl
given_renamed f (Widened i) = refl

givens_append : (ks ls : List Candidate) → givens_in (ks ++ ls) ≡ givens_in ks ++ givens_in ls
givens_append [] ls = refl
givens_append (k ∷ ks) ls = ap (keep (given k.origin) k.clause) (givens_append ks ls) ∙ go (given k.origin)
  where
    go : (b : Bool) → keep b k.clause (givens_in ks ++ givens_in ls) ≡ keep b k.clause (givens_in ks) ++ givens_in ls
    go true = refl
    go false = refl

givens_given : (f : ℕ → ℕ) (ls : List Candidate) → givens_in (part true f ls) ≡ givens_in ls
givens_given f [] = refl
givens_given f (l ∷ ls) = go (given l.origin) (given_renamed f l.origin) (givens_given f ls)
  where
    go : (b : Bool) → given (renamed f l.origin) ≡ b → givens_in (part true f ls) ≡ givens_in ls → givens_in (map (renumbered f) (cond (alike b true) (l ∷ filter (of_kind true) ls) (filter (of_kind true) ls))) ≡ keep b l.clause (givens_in ls)
    go true e rest = ap (λ b. keep b l.clause (givens_in (part true f ls))) e ∙ ap (λ cs. l.clause ∷ cs) rest
    go false e rest = rest

givens_other : (f : ℕ → ℕ) (ls : List Candidate) → givens_in (part false f ls) ≡ []
givens_other f [] = refl
givens_other f (l ∷ ls) = go (given l.origin) (given_renamed f l.origin) (givens_other f ls)
  where
    go : (b : Bool) → given (renamed f l.origin) ≡ b → givens_in (part false f ls) ≡ [] → givens_in (map (renumbered f) (cond (alike b false) (l ∷ filter (of_kind false) ls) (filter (of_kind false) ls))) ≡ []
    go true e rest = rest
    go false e rest = ap (λ b. keep b l.clause (givens_in (part false f ls))) e ∙ rest

givens_parts : (ls : List Candidate) → givens_in (sheet ls) ≡ givens_in ls
givens_parts ls =
    let f = sheet_number ls in
    givens_append (part true f ls) (part false f ls) ∙ ap₂ {C = List Signs} (λ x y. x ++ y) (givens_given f ls) (givens_other f ls) ∙ append-nil (givens_in ls)

-- ---- all of it

pub sheet_book : ASheetIsABook
sheet_book n ls k =
    let cs = clauses_in ls in
    let ds = chosen true ls ++ chosen false ls in
    let p = and_parts (list_all clean cs && apart cs) (list_all (within n) cs && follow [] ls) k in
    let q = and_parts (list_all clean cs) (apart cs) p.0 in
    let r = and_parts (list_all (within n) cs) (follow [] ls) p.1 in
    let e = sheet_clauses ls in (
      subst (λ xs. ((list_all clean xs && apart xs) && (list_all (within n) xs && follow [] (sheet ls))) ≡ true) (sym e)
          (and_from (list_all clean ds && apart ds) (list_all (within n) ds && follow [] (sheet ls))
          (and_from (list_all clean ds) (apart ds) (all_parts clean ls q.0) (apart_parts ls q.1))
          (and_from (list_all (within n) ds) (follow [] (sheet ls)) (all_parts (within n) ls r.0) (follow_parts ls r.1))),
      givens_parts ls,
      ap (list_any empty) e ∙ any_parts empty ls,
    )
