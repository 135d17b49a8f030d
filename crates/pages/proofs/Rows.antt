-- What a loop has told, and one more. Assumes nothing.
use Rattle.std.proofs.Common.{◌≡◌, ℕ, ◌+◌, ◌-◌, ◌<◌, Bool, true, false, cond, List, [], ◌∷◌, ◌++◌, length, get_or, take, map, ℤ, refl, sym, ap, ◌∙◌, subst, arith}
use mathlib.Core.Bool.{beq}
use Rattle.std.specs.List.{filter, flat_map}
use Rattle.std.proofs.lemmas.List.{append-nil, map-append, length-map}
use Rattle.std.proofs.lemmas.List.Concat.{flat_map-append}
use Rattle.words.specs.Bits.{alike}
use Rattle.clauses.specs.declared.clause.Clause.{Clause}
use Rattle.clauses.specs.Words.{signs}
use Rattle.clauses.specs.Clauses.{literals}
use Rattle.lines.specs.declared.line.Line.{Line}
use Rattle.lines.specs.declared.line.Origin.{Origin}
use Rattle.lines.specs.Lines.{Candidate, candidate_of, candidates, clause_of, given}
use Rattle.writing.specs.declared.page.Page.{Page}
use Rattle.writing.specs.Items.{number, natural}
use Rattle.writing.specs.Pages.{Tells}
use Rattle.writing.proofs.Joining.{tells_more}
use Rattle.pages.specs.Says.{of_kind, count_of, count_items, clause_items, literal_items, said, entry_items, line_items, lines_items, renamed, renumbered, part, sheet_number, part_items, sheet_items}
use Rattle.pages.proofs.Counting.{count_both, chosen_next}

-- one literal more
pub literal_told : (done : List ℤ) (x : ℤ) (p q r : Page) → Tells (flat_map literal_items done) p q → Tells (literal_items x) q r → Tells (flat_map literal_items (done ++ (x ∷ []))) p r
literal_told done x p q r a b =
    subst (λ is. Tells is p r) (sym (flat_map-append literal_items done (x ∷ []))) (tells_more (flat_map literal_items done) (literal_items x) p q r a b)

pub part_append : (b : Bool) (f : ℕ → ℕ) (ls ks : List Candidate) → filter (of_kind b) ks ≡ filter (of_kind b) ls → part b f ks ≡ part b f ls
part_append b f ls ks e = ap (map (renumbered f)) e

-- one line more, of the kind or not
line_next : (b t : Bool) (f : ℕ → ℕ) (ls : List Line) (i : ℕ) (d : Line) → i < length ls → alike (given (get_or ls i d).origin) b ≡ t
    → lines_items (part b f (candidates (take (i + 1) ls))) ≡ lines_items (part b f (candidates (take i ls))) ++ lines_items (map (renumbered f) (cond t (candidate_of (get_or ls i d) ∷ []) []))
line_next b t f ls i d h e =
    let x = candidate_of (get_or ls i d) in
    let before = filter (of_kind b) (candidates (take i ls)) in
    ap (λ ks. lines_items (map (renumbered f) ks)) (chosen_next b ls i d h ∙ ap (λ t. before ++ cond t (x ∷ []) []) e)
    ∙ ap lines_items (map-append (renumbered f) before (cond t (x ∷ []) []))
    ∙ flat_map-append line_items (map (renumbered f) before) (map (renumbered f) (cond t (x ∷ []) []))

pub line_told : (b : Bool) (f : ℕ → ℕ) (ls : List Line) (i : ℕ) (d : Line) (p q r : Page) → i < length ls → alike (given (get_or ls i d).origin) b ≡ true
    → Tells (lines_items (part b f (candidates (take i ls)))) p q → Tells (line_items (renumbered f (candidate_of (get_or ls i d)))) q r → Tells (lines_items (part b f (candidates (take (i + 1) ls)))) p r
line_told b f ls i d p q r h e before now =
    let items = line_items (renumbered f (candidate_of (get_or ls i d))) in
    subst (λ is. Tells is p r) (ap (λ is. lines_items (part b f (candidates (take i ls))) ++ is) (sym (append-nil items)) ∙ sym (line_next b true f ls i d h e))
    (tells_more (lines_items (part b f (candidates (take i ls)))) items p q r before now)

pub line_passed : (b : Bool) (f : ℕ → ℕ) (ls : List Line) (i : ℕ) (d : Line) (p q : Page) → i < length ls → alike (given (get_or ls i d).origin) b ≡ false
    → Tells (lines_items (part b f (candidates (take i ls)))) p q → Tells (lines_items (part b f (candidates (take (i + 1) ls)))) p q
line_passed b f ls i d p q h e before =
    subst (λ is. Tells is p q) (sym (line_next b false f ls i d h e ∙ append-nil (lines_items (part b f (candidates (take i ls)))))) before

-- ---- one line

pub number_told : (x y : ℕ) (p q : Page) → x ≡ y → Tells (natural x ∷ []) p q → Tells (natural y ∷ []) p q
number_told x y p q e t = subst (λ n. Tells (natural n ∷ []) p q) e t

pub signed_told : (x y : ℤ) (p q : Page) → x ≡ y → Tells (number x ∷ []) p q → Tells (number y ∷ []) p q
signed_told x y p q e t = subst (λ n. Tells (number n ∷ []) p q) e t

pub count_told : (x y : ℕ) (p q : Page) → x ≡ y → Tells (count_items x) p q → Tells (count_items y) p q
count_told x y p q e t = subst (λ n. Tells (count_items n) p q) e t

-- a line that comes from there
pub origin_told : (f : ℕ → ℕ) (l : Line) (o : Origin) (p q : Page) → o ≡ l.origin → Tells (entry_items (said (renamed f o) (literals (clause_of l)))) p q → Tells (line_items (renumbered f (candidate_of l))) p q
origin_told f l o p q e t = subst (λ o. Tells (entry_items (said (renamed f o) (literals (clause_of l)))) p q) e t

-- the code's test of a line's kind
pub kind_is : (r p q t : Bool) → r ≡ p → beq r q ≡ t → alike p q ≡ t
kind_is r p q t e h = subst (λ x. alike x q ≡ t) e (go r q ∙ h)
  where
    go : (x y : Bool) → alike x y ≡ beq x y
    go true true = refl
    go true false = refl
    go false true = refl
    go false false = refl

-- the clause that the code reads of a line
pub clause_told : (c : Clause) (l : Line) (p q : Page) → c ≡ l.clause → Tells (clause_items (literals (signs c))) p q → Tells (clause_items (literals (clause_of l))) p q
clause_told c l p q e t = subst (λ d. Tells (clause_items (literals (signs d))) p q) e t

-- ---- the whole

pub sheet_told : (ls ks : List Line) (n a b : ℕ) (p q r s t u : Page) → ks ≡ ls → a ≡ count_of true (candidates ks) → b ≡ length ls - a
    → Tells (count_items n) p q
    → Tells (count_items a) q r → Tells (lines_items (part true (sheet_number (candidates ks)) (candidates ls))) r s
    → Tells (count_items b) s t → Tells (lines_items (part false (sheet_number (candidates ks)) (candidates ls))) t u
    → Tells (sheet_items n (candidates ls)) p u
sheet_told ls ks n a b p q r s t u e x y head given_head given_lines other_head other_lines =
    let cs = candidates ls in
    let f = sheet_number cs in
    let count = x ∙ ap (λ js. count_of true (candidates js)) e in
    let all = count_both cs in
    let size = length-map ls candidate_of in
    let first : a ≡ length (part true f cs) = omega (arith, length-map (filter (of_kind true) cs) (renumbered f)) in
    let second : b ≡ length (part false f cs) = omega (arith, length-map (filter (of_kind false) cs) (renumbered f)) in
    tells_more (count_items n) (part_items (part true f cs) ++ part_items (part false f cs)) p q u head
    (tells_more (part_items (part true f cs)) (part_items (part false f cs)) q s u
    (tells_more (count_items (length (part true f cs))) (lines_items (part true f cs)) q r s (count_told a (length (part true f cs)) q r first given_head)
    (subst (λ js. Tells (lines_items (part true (sheet_number (candidates js)) cs)) r s) e given_lines))
    (tells_more (count_items (length (part false f cs))) (lines_items (part false f cs)) s t u (count_told b (length (part false f cs)) s t second other_head)
    (subst (λ js. Tells (lines_items (part false (sheet_number (candidates js)) cs)) t u) e other_lines)))
