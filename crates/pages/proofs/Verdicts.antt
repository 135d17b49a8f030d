-- The literals of a report are true, and its bytes tell what it reports. Assumes nothing.
use Rattle.std.proofs.Common.{◌≡◌, ℕ, zero, suc, ◌+◌, ◌^◌, ◌<◌, ◌≤◌, Bool, true, false, List, [], ◌∷◌, length, get_or, drop, ℤ, pos, nat_abs, codes, refl, ap, ap₂, ◌∙◌, subst, arith, Ok, Err}
use Rattle.std.specs.Fmt.{signed_decimal}
use Rattle.std.specs.List.{AllByRecursion}
use Rattle.std.proofs.lemmas.Fmt.{signed_decimal_injective}
use Rattle.words.specs.Bits.{width}
use Rattle.clauses.specs.Values.{is_true, contrary, assigned, valued}
use Rattle.clauses.specs.Literals.{value_of}
use Rattle.answers.specs.declared.run.Outcome.{Outcome}
use Rattle.answers.specs.declared.run.Outcome.TheVariants.{Met, NoneMeets, Spent, Full}
use Rattle.answers.specs.declared.report.Report.TheVariants.{Ended, Refused}
use Rattle.writing.specs.Items.{bytes}
use Rattle.writing.specs.Told.{Unbroken}
use Rattle.writing.proofs.Apart.{words_told, signed_unbroken}
use Rattle.pages.specs.Reports.{Told, satisfied, refuted, undecided, told_of, told_items, refusal_items, literal, true_literals}
use Rattle.pages.specs.Laws.{LiteralsAreTrue, AReportIsTold}
use Rattle.pages.proofs.Closed.{Short, page_told}

-- ---- the literals

variable_of : (v : ℕ) (b : Bool) → nat_abs (literal v b) ≡ v
variable_of v true = refl
variable_of zero false = refl
variable_of (suc v) false = refl

literal_true : (m : ℕ) (b : Bool) (a : List Bool) → assigned a m ≡ valued b → is_true (value_of (assigned a) (literal (suc m) b)) ≡ true
literal_true m true a e = ap is_true e
literal_true m false a e = ap (λ x. is_true (contrary x)) e

literal_at : (v : ℕ) (a : List Bool) (k : ℕ) (d : ℤ) → k < length a → get_or (true_literals v a) k d ≡ literal (v + k) (get_or a k false)
literal_at v [] k d h = absurd (omega arith)
literal_at v (b ∷ a) zero d h = let e : v ≡ v + 0 = omega arith in ap (λ w. literal w b) e
literal_at v (b ∷ a) (suc k) d h =
    let e : (v + 1) + k ≡ v + suc k = omega arith in
    literal_at (v + 1) a k d (omega arith) ∙ ap (λ w. literal w (get_or a k false)) e

assigned_at : (a : List Bool) (k : ℕ) → k < length a → assigned a k ≡ valued (get_or a k false)
assigned_at [] k h = absurd (omega arith)
assigned_at (b ∷ a) zero h = refl
assigned_at (b ∷ a) (suc k) h = assigned_at a k (omega arith)

how_many : (v : ℕ) (a : List Bool) → length (true_literals v a) ≡ length a
how_many v [] = refl
how_many v (b ∷ a) = ap suc (how_many (v + 1) a)

pub literals_true : LiteralsAreTrue
literals_true a = (
  how_many 1 a,
  λ k d h.
      let e : 1 + k ≡ suc k = omega arith in
      let at = literal_at 1 a k d h ∙ ap (λ w. literal w (get_or a k false)) e in (
        ap nat_abs at ∙ variable_of (suc k) (get_or a k false) ∙ (omega arith),
        ap (λ x. is_true (value_of (assigned a) x)) at ∙ literal_true k (get_or a k false) a (assigned_at a k h),
      ),
)

-- ---- what tells them

literal_told : (v : ℕ) (b c : Bool) → literal (suc v) b ≡ literal (suc v) c → b ≡ c
literal_told v true true e = refl
literal_told v true false e = cc
literal_told v false true e = cc
literal_told v false false e = refl

literals_told : (v : ℕ) (a b : List Bool) → true_literals (suc v) a ≡ true_literals (suc v) b → a ≡ b
literals_told v [] [] e = refl
literals_told v [] (y ∷ b) e = cc
literals_told v (x ∷ a) [] e = cc
literals_told v (x ∷ a) (y ∷ b) e =
    let n : suc v + 1 ≡ suc (suc v) = omega arith in
    let rest : true_literals (suc v + 1) a ≡ true_literals (suc v + 1) b = cc in
    ap₂ {C = List Bool} (λ x xs. x ∷ xs) (literal_told v x y (cc)) (literals_told (suc v) a b (subst (λ w. true_literals w a ≡ true_literals w b) n rest))

literals_short : (v : ℕ) (a : List Bool) → v + length a < 2 ^ 63 → Short (true_literals v a)
literals_short v [] h = tt
literals_short v (b ∷ a) h = (let e = variable_of v b in omega arith, literals_short (v + 1) a (omega arith))

abbrev Fits : Told → Type 0
Fits (satisfied a) = length a ≤ width
Fits refuted = Unit {0}
Fits undecided = Unit {0}

-- The fifth byte differs in all three; the literals begin after 16.
told_told : (t u : Told) → Fits t → Fits u → bytes (told_items t) ≡ bytes (told_items u) → t ≡ u
told_told (satisfied a) (satisfied b) h k e =
    ap satisfied
    (literals_told 0 a b
    (page_told (true_literals 1 a) (true_literals 1 b) (literals_short 1 a (omega arith)) (literals_short 1 b (omega arith)) (ap (drop 16) e)))
told_told refuted refuted h k e = refl
told_told undecided undecided h k e = refl
told_told t u h k e = absurd (omega (arith, ap (λ bs. get_or bs 4 0) e))

-- after `c refused `
abbrev words : ℕ → ℕ → List (List ℕ × Bool)
words k place = (signed_decimal (pos k), false) ∷ (codes "at", false) ∷ (signed_decimal (pos place), true) ∷ []

unbroken : (k place : ℕ) → k < 2 ^ 63 → place < 2 ^ 63 → AllByRecursion (λ w. Unbroken w.0) (words k place)
unbroken k place h p = (signed_unbroken (pos k) h, ((omega arith, (omega arith, tt)), (signed_unbroken (pos place) p, tt)))

abbrev word_at : ℕ → List (List ℕ × Bool) → List ℕ
word_at k ws = (get_or {A = List ℕ × Bool} ws k ([], true)).0

refusal_told : (k place i at : ℕ) → k < 2 ^ 63 → place < 2 ^ 63 → i < 2 ^ 63 → at < 2 ^ 63
    → bytes (refusal_items k place) ≡ bytes (refusal_items i at) → (k ≡ i) × (place ≡ at)
refusal_told k place i at h p l q e =
    let w = words_told (words k place) (words i at) (unbroken k place h p) (unbroken i at l q) (ap (drop 10) e) in (
      ap nat_abs (signed_decimal_injective (pos k) (pos i) h l (ap (word_at 0) w)),
      ap nat_abs (signed_decimal_injective (pos place) (pos at) p q (ap (word_at 2) w)),
    )

fits : (o : Outcome) (a : List Bool) → length a ≤ width → Fits (told_of o a)
fits Met a h = h
fits NoneMeets a h = tt
fits Spent a h = tt
fits Full a h = tt

begun : (t : Told) → get_or (bytes (told_items t)) 0 0 ≡ 115
begun (satisfied a) = refl
begun refuted = refl
begun undecided = refl

pub report_told : AReportIsTold
report_told (Ended o) (Ended u) a b h k p q e = ap Ok (told_told (told_of o a) (told_of u b) (fits o a h) (fits u b k) e)
report_told (Ended o) (Refused k place) a b h l p q e = absurd (omega (arith, begun (told_of o a), ap (λ bs. get_or bs 0 0) e))
report_told (Refused k place) (Ended u) a b h l p q e = absurd (omega (arith, begun (told_of u b), ap (λ bs. get_or bs 0 0) e))
report_told (Refused k place) (Refused i at) a b h l p q e =
    let t = refusal_told k place i at p.0 p.1 q.0 q.1 e in
    ap Err (ap₂ {C = ℕ × ℕ} (λ x y. (x, y)) t.0 t.1)
