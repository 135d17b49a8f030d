-- The bytes of a sheet tell what each line says. Assumes nothing.
use Rattle.std.proofs.Common.{◌≡◌, ℕ, zero, suc, ◌+◌, ◌^◌, ◌<◌, ◌≤◌, Bool, true, false, cond, ◌&&◌, List, [], ◌∷◌, ◌++◌, length, get_or, take, drop, map, ℤ, pos, negsuc, nat_abs, refl, sym, ap, ap₂, ◌∙◌, ⊎_elim, arith}
use Rattle.std.specs.List.{AllByRecursion, All, AllPass, filter, list_any, list_all}
use Rattle.std.proofs.lemmas.Bool.{false≢true, and_parts, or_cases}
use Rattle.std.proofs.lemmas.List.{append-nil, append_assoc, map-append}
use Rattle.std.proofs.lemmas.List.Elements.{recursion_from_All, All-nil, All-cons, All-push, All-take, All-drop, All-map, All-filter, filter_passes}
use Rattle.std.proofs.lemmas.List.Folds.{list_any_at}
use Rattle.std.proofs.lemmas.List.Sums.{list_all-from_AllPass}
use Rattle.words.specs.Bits.{width, alike}
use Rattle.clauses.specs.Literals.{same_literal}
use Rattle.clauses.specs.Clauses.{Signs, holds, literals, within, same, clash_in, resolvent}
use Rattle.clauses.proofs.Literals.{literal_self, holds-literals, within-holds}
use Rattle.lines.specs.declared.line.Origin.{Origin}
use Rattle.lines.specs.declared.line.Origin.TheVariants.{Given, Resolved, Widened}
use Rattle.lines.specs.Lines.{Candidate, given, clauses_in, line, follows, follow}
use Rattle.clause_laws.proofs.Books.{kept_facts}
use Rattle.clause_laws.proofs.Found.{found}
use Rattle.writing.specs.Items.{natural, space, line_end, bytes}
use Rattle.writing.specs.Told.{numbers_items, Small}
use Rattle.writing.proofs.Apart.{numbers_told}
use Rattle.pages.specs.Says.{of_kind, count_of, given_at, sheet_number, renamed, renumbered, part, Entry, by_given, by_resolving, by_widening, said, entry, entry_items, lines_items, sheet_items}
use Rattle.pages.specs.Laws.{Countable, ASheetIsTold}
use Rattle.pages.proofs.Counting.{count_both, count_part}
use Rattle.pages.proofs.Placing.{part_length}
use Rattle.pages.proofs.Closed.{Short, closed, closed_items, closed_small, closed_told}

-- ---- a line as a row of numbers, and what comes after it

abbrev row : Entry → List (ℤ × Bool) → List (ℤ × Bool)
row (by_given xs) r = closed xs r
row (by_resolving v i j) r = (pos v, false) ∷ (pos i, false) ∷ (pos j, true) ∷ r
row (by_widening i xs) r = (pos 0, false) ∷ (pos i, false) ∷ closed xs r

abbrev rows : List Candidate → List (ℤ × Bool) → List (ℤ × Bool)
rows [] r = r
rows (l ∷ ls) r = row (entry l) (rows ls r)

row_items : (e : Entry) (r : List (ℤ × Bool)) → entry_items e ++ numbers_items r ≡ numbers_items (row e r)
row_items (by_given xs) r = closed_items xs r
row_items (by_resolving v i j) r = refl
row_items (by_widening i xs) r = ap (λ is. natural 0 ∷ space ∷ natural i ∷ space ∷ is) (closed_items xs r)

rows_items : (ls : List Candidate) (r : List (ℤ × Bool)) → lines_items ls ++ numbers_items r ≡ numbers_items (rows ls r)
rows_items [] r = refl
rows_items (l ∷ ls) r =
    append_assoc (entry_items (entry l)) (lines_items ls) (numbers_items r) ∙ ap (λ is. entry_items (entry l) ++ is) (rows_items ls r) ∙ row_items (entry l) (rows ls r)

-- of this kind, and of numbers that are told
abbrev Fit : Bool → Entry → Type 0
Fit true (by_given xs) = Short xs
Fit true (by_resolving v i j) = ⊥
Fit true (by_widening i xs) = ⊥
Fit false (by_given xs) = ⊥
Fit false (by_resolving v i j) = (0 < v) × (v < 2 ^ 63) × (i < 2 ^ 63) × (j < 2 ^ 63)
Fit false (by_widening i xs) = (i < 2 ^ 63) × Short xs

abbrev AllFit : Bool → List Candidate → Type 0
AllFit b ls = AllByRecursion (λ l. Fit b (entry l)) ls

row_small : (b : Bool) (e : Entry) (r : List (ℤ × Bool)) → Fit b e → Small r → Small (row e r)
row_small true (by_given xs) r h k = closed_small xs r h k
row_small false (by_resolving v i j) r h k = (h.1, (h.2, (h.3, k)))
row_small false (by_widening i xs) r h k = (omega arith, (h.0, closed_small xs r h.1 k))
row_small b e r h k = absurd h

rows_small : (b : Bool) (ls : List Candidate) (r : List (ℤ × Bool)) → AllFit b ls → Small r → Small (rows ls r)
rows_small b [] r h k = k
rows_small b (l ∷ ls) r h k = row_small b (entry l) (rows ls r) h.0 (rows_small b ls r h.1 k)

abbrev natural_at : ℕ → List (ℤ × Bool) → ℕ
natural_at k r = nat_abs (get_or {A = ℤ × Bool} r k (pos 0, true)).0

row_told : (b : Bool) (e d : Entry) (r s : List (ℤ × Bool)) → Fit b e → Fit b d → row e r ≡ row d s → (e ≡ d) × (r ≡ s)
row_told true (by_given xs) (by_given ys) r s h k e = let t = closed_told xs ys r s e in (ap by_given t.0, t.1)
row_told false (by_resolving v i j) (by_resolving w a c) r s h k e =
    (ap (λ x. by_resolving x i j) (ap (natural_at 0) e) ∙ ap₂ {C = Entry} (by_resolving w) (ap (natural_at 1) e) (ap (natural_at 2) e), ap (drop 3) e)
row_told false (by_resolving v i j) (by_widening a ys) r s h k e = absurd (omega (arith, h.0, ap (natural_at 0) e))
row_told false (by_widening i xs) (by_resolving w a c) r s h k e = absurd (omega (arith, k.0, ap (natural_at 0) e))
row_told false (by_widening i xs) (by_widening a ys) r s h k e =
    let t = closed_told xs ys r s (ap (drop 2) e) in
    (ap₂ {C = Entry} by_widening (ap (natural_at 1) e) t.0, t.1)
row_told true (by_given xs) d r s h k e = absurd k
row_told false c (by_given ys) r s h k e = absurd k
row_told b c d r s h k e = absurd h

rows_told : (b : Bool) (ls ks : List Candidate) (r s : List (ℤ × Bool)) → AllFit b ls → AllFit b ks → length ls ≡ length ks
    → rows ls r ≡ rows ks s → (map entry ls ≡ map entry ks) × (r ≡ s)
rows_told b [] [] r s h k n e = (refl, e)
rows_told b [] (y ∷ ks) r s h k n e = absurd (omega arith)
rows_told b (x ∷ ls) [] r s h k n e = absurd (omega arith)
rows_told b (x ∷ ls) (y ∷ ks) r s h k n e =
    let one = row_told b (entry x) (entry y) (rows ls r) (rows ks s) h.0 k.0 e in
    let more = rows_told b ls ks r s h.1 k.1 (omega arith) one.1 in
    (ap₂ {C = List Entry} (λ x xs. x ∷ xs) one.0 more.0, more.1)

-- ---- the lines of a book fit

short_literals : (n : ℕ) (c : Signs) → n ≤ width → within n c ≡ true → Short (literals c)
short_literals n c few w =
    recursion_from_All (λ x. nat_abs x < 2 ^ 63) (literals c)
    (λ k d h. let x : ℤ = get_or (literals c) k d in
    let at = within-holds n c w x (holds-literals x c ∙ list_any_at (same_literal x) (literals c) k d h (literal_self x)) in
    omega arith)

variable_below : (n v : ℕ) (c d : Signs) → n ≤ width → within n c ≡ true → clash_in v c d ≡ true → (0 < v) × (v < 2 ^ 63)
variable_below n zero c d few w h = absurd (false≢true h)
variable_below n (suc v) c d few w h = (
  omega arith,
  ⊎_elim
      (λ x. let at = within-holds n c w (pos (suc v)) (and_parts (holds (pos (suc v)) c) (holds (negsuc v) d) x).0 in omega arith)
      (λ x. let at = within-holds n c w (negsuc v) (and_parts (holds (negsuc v) c) (holds (pos (suc v)) d) x).0 in omega arith)
      (or_cases (holds (pos (suc v)) c && holds (negsuc v) d) (holds (negsuc v) c && holds (pos (suc v)) d) h),
)

line_within : (n i : ℕ) (older : List Signs) → AllPass (within n) older → list_all (within n) (line i older) ≡ true
line_within n zero older w = refl
line_within n (suc i) older w =
    list_all-from_AllPass (within n) (take 1 (drop i older)) (All-take (λ c. within n c ≡ true) 1 (drop i older) (All-drop (λ c. within n c ≡ true) i older w))

-- resolved in such a variable, if at all
abbrev Named : Origin → Type 0
Named Given = Unit {0}
Named (Resolved v i j) = (0 < v) × (v < 2 ^ 63)
Named (Widened i) = Unit {0}

origin_named : (n : ℕ) (older : List Signs) (o : Origin) (c : Signs) → n ≤ width → AllPass (within n) older → follows older o c ≡ true → Named o
origin_named n older Given c few w h = tt
origin_named n older (Resolved v i j) c few w h =
    let test : Signs → Signs → Bool = λ g d. clash_in v g d && same c (resolvent v g d) in
    let g = found (λ g. list_any (test g) (line j older)) (line i older) h in
    let d = found (test g.0) (line j older) g.1 in
    variable_below n v g.0 d.0 few (g.2 (within n) (line_within n i older w)) (and_parts (clash_in v g.0 d.0) (same c (resolvent v g.0 d.0)) d.1).0
origin_named n older (Widened i) c few w h = tt

abbrev Fits : Candidate → Type 0
Fits l = Named l.origin × Short (literals l.clause)

lines_fit : (n : ℕ) (older : List Signs) (ls : List Candidate) → n ≤ width → AllPass (within n) older → list_all (within n) (clauses_in ls) ≡ true
    → follow older ls ≡ true → All Fits ls
lines_fit n older [] few w a h = All-nil Fits
lines_fit n older (l ∷ ls) few w a h =
    let p = and_parts (within n l.clause) (list_all (within n) (clauses_in ls)) a in
    let q = and_parts (follows older l.origin l.clause) (follow (older ++ (l.clause ∷ [])) ls) h in
    All-cons Fits l ls (origin_named n older l.origin l.clause few w q.0, short_literals n l.clause few p.0)
    (lines_fit n (older ++ (l.clause ∷ [])) ls few (All-push (λ c. within n c ≡ true) older l.clause w p.0) p.1 q.1)

number_below : (ls : List Candidate) (k : ℕ) → sheet_number ls k ≤ length ls
number_below ls k = go (given_at ls k)
  where
    go : (b : Bool) → cond b (count_of true (take k ls)) (count_of true ls + count_of false (take k ls)) ≤ length ls
    go true = omega (arith, count_both ls, count_part true k ls)
    go false = omega (arith, count_both ls, count_part false k ls)

said_fit : (b : Bool) (f : ℕ → ℕ) (o : Origin) (xs : List ℤ) → ((k : ℕ) → f k < 2 ^ 63) → alike (given o) b ≡ true
    → Named o → Short xs → Fit b (said (renamed f o) xs)
said_fit true f Given xs below e h k = k
said_fit false f (Resolved v i j) xs below e h k = (h.0, h.1, below i, below j)
said_fit false f (Widened i) xs below e h k = (below i, k)
said_fit b f o xs below e h k = absurd (false≢true e)

part_fits : (b : Bool) (n : ℕ) (ls : List Candidate) → Countable n ls → AllFit b (part b (sheet_number ls) ls)
part_fits b n ls c =
    let f = sheet_number ls in
    let kept = kept_facts n ls c.kept in
    let fits = All-filter (of_kind b) Fits ls (lines_fit n [] ls c.few (All-nil (λ c. within n c ≡ true)) kept.below kept.following) in
    recursion_from_All (λ l. Fit b (entry l)) (part b f ls)
    (All-map (λ l. Fit b (entry l)) (renumbered f) (filter (of_kind b) ls)
    (λ k d h. let l = get_or (filter (of_kind b) ls) k d in
    said_fit b f l.origin (literals l.clause) (λ i. let s = c.short in let m = number_below ls i in omega arith) (filter_passes (of_kind b) ls k d h) (fits k d h).0 (fits k d h).1))

-- ---- the whole

abbrev sheet_rows : ℕ → List Candidate → List (ℤ × Bool)
sheet_rows n ls =
    let f = sheet_number ls in
    (pos n, true) ∷ (pos (length (part true f ls)), true) ∷ rows (part true f ls) ((pos (length (part false f ls)), true) ∷ rows (part false f ls) [])

rows_of : (n : ℕ) (ls : List Candidate) → sheet_items n ls ≡ numbers_items (sheet_rows n ls)
rows_of n ls =
    let g = part true (sheet_number ls) ls in
    let d = part false (sheet_number ls) ls in
    ap (λ is. natural n ∷ line_end ∷ natural (length g) ∷ line_end ∷ is)
    (ap (λ is. lines_items g ++ (natural (length d) ∷ line_end ∷ is)) (sym (append-nil (lines_items d)) ∙ rows_items d [])
    ∙ rows_items g ((pos (length d), true) ∷ rows d []))

rows_fit : (n : ℕ) (ls : List Candidate) → Countable n ls → Small (sheet_rows n ls)
rows_fit n ls c =
    let f = sheet_number ls in
    let g = part true f ls in
    let d = part false f ls in
    let all = count_both ls in
    let given = part_length ls true f in
    let derived = part_length ls false f in
    (omega arith, (omega arith, rows_small true g ((pos (length d), true) ∷ rows d []) (part_fits true n ls c) (omega arith, rows_small false d [] (part_fits false n ls c) tt)))

pub sheet_told : ASheetIsTold
sheet_told n m ls ks c d e =
    let g = part true (sheet_number ls) ls in
    let g' = part true (sheet_number ks) ks in
    let o = part false (sheet_number ls) ls in
    let o' = part false (sheet_number ks) ks in
    let same = numbers_told (sheet_rows n ls) (sheet_rows m ks) (rows_fit n ls c) (rows_fit m ks d)
    (sym (ap bytes (rows_of n ls)) ∙ e ∙ ap bytes (rows_of m ks)) in
    let given = rows_told true g g' ((pos (length o), true) ∷ rows o []) ((pos (length o'), true) ∷ rows o' []) (part_fits true n ls c) (part_fits true m ks d)
    (ap (natural_at 1) same) (ap (drop 2) same) in
    let other = rows_told false o o' [] [] (part_fits false n ls c) (part_fits false m ks d) (ap (natural_at 0) given.1) (ap (drop 1) given.1) in
    (ap (natural_at 0) same, map-append entry g o ∙ ap₂ {C = List Entry} (λ x y. x ++ y) given.0 other.0 ∙ sym (map-append entry g' o'))
