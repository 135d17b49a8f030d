-- What falls with each flip and with each line. Assumes nothing.
use Rattle.std.proofs.Common.{◌≡◌, ℕ, zero, suc, ◌+◌, ◌-◌, ◌*◌, ◌^◌, ◌<◌, ◌≤◌, Bool, true, false, ltb, List, [], ◌∷◌, length, Some, length-append, pow-suc, suc-mul, mul_assoc, mul-le-mul_right, le_trans, le_of_eq, sym, refl, ap, ap₂, ◌∙◌, arith}
use Rattle.std.specs.List.{list_any}
use Rattle.std.proofs.lemmas.Bool.{ltb-true, lt-ltb, le-ltb}
use Rattle.words.specs.Bits.{width}
use Rattle.clauses.specs.Clauses.{empty}
use Rattle.clauses.proofs.Literals.{all_wider}
use Rattle.lines.specs.Lines.{Candidate, clauses_in}
use Rattle.guides.specs.Rows.{Fit}
use Rattle.guides.specs.Ranks.{Rank}
use Rattle.steps.specs.Rows.{row, ranked}
use Rattle.steps.proofs.Rows.{length-row, sum-row-le}
use Rattle.histories.specs.States.{State, with_line, with_assignment, WellFormed}
use Rattle.histories.specs.Tallies.{same_ranks}
use Rattle.histories.proofs.Counting.{values, values_strict, values_short, values_ext}
use Rattle.histories.proofs.Ranks.{ranks_agree}
use Rattle.clause_laws.proofs.Books.{kept_facts}
use Rattle.histories.proofs.Books.{length-clauses_in, book_short}

-- what an assignment of the session's variables ranks
abbrev pub rank_of : Rank → State → List Bool → ℕ
rank_of rank s a = rank (ranked (clauses_in s.lines) a)

-- how many assignments rank below the present one
abbrev pub lower : Rank → State → ℕ
lower rank s = values s.n (λ a. ltb (rank_of rank s a) (rank_of rank s s.assignment))

-- how many more clauses there are, but the empty one
abbrev pub unwritten : State → ℕ
unwritten s = 3 ^ s.n - 1 - length s.lines

abbrev pub potential : Rank → State → ℕ
potential rank s = unwritten s * 2 ^ s.n + lower rank s

self : (k : ℕ) → ltb k k ≡ false
self k = le-ltb k k (omega arith)

below_sum : (f x y : ℕ) → x < y → f + x < f + y
below_sum f x y h = omega arith

pub flip_falls : (rank : Rank) (s : State) (a : List Bool) → length a ≡ s.n → rank_of rank s a < rank_of rank s s.assignment
    → potential rank (with_assignment s a) < potential rank s
flip_falls rank s a e h =
    below_sum (unwritten s * 2 ^ s.n) (lower rank (with_assignment s a)) (lower rank s)
    (values_strict s.n (λ x. ltb (rank_of rank s x) (rank_of rank s a)) (λ x. ltb (rank_of rank s x) (rank_of rank s s.assignment))
    (λ x l. lt-ltb (rank_of rank s x) (rank_of rank s s.assignment) (omega (arith, ltb-true (rank_of rank s x) (rank_of rank s a) l, h)))
    a e (self (rank_of rank s a)) (lt-ltb (rank_of rank s a) (rank_of rank s s.assignment) h))

pub lower_short : (rank : Rank) (s : State) → length s.assignment ≡ s.n → lower rank s < 2 ^ s.n
lower_short rank s e =
    values_short s.n (λ x. ltb (rank_of rank s x) (rank_of rank s s.assignment)) s.assignment e (self (rank_of rank s s.assignment))

fall_by_one : (m k x p : ℕ) → m ≡ suc k → x < p → (y : ℕ) → k * p + x < m * p + y
fall_by_one m k x p e h y = rw (e, suc-mul) (omega arith)

one_fewer : (t l k : ℕ) → k ≡ l + 1 → k < t → t - 1 - l ≡ suc (t - 1 - k)
one_fewer t l k e h = omega arith

pub write_falls : (rank : Rank) (s : State) (l : Candidate) → WellFormed (with_line s l) → list_any empty (clauses_in (with_line s l).lines) ≡ false
    → potential rank (with_line s l) < potential rank s
write_falls rank s l fine no_empty =
    fall_by_one (unwritten s) (unwritten (with_line s l)) (lower rank (with_line s l)) (2 ^ s.n)
    (one_fewer (3 ^ s.n) (length s.lines) (length (with_line s l).lines) (length-append s.lines (l ∷ [])) (book_short s.n (with_line s l).lines fine.kept no_empty))
    (lower_short rank (with_line s l) fine.total) (lower rank s)

-- ---- where a stretch begins

six : (n : ℕ) → 6 ^ n ≡ 3 ^ n * 2 ^ n
six zero = refl
six (suc n) = pow-suc 6 n ∙ rw (six n, pow-suc 3 n, pow-suc 2 n) (regroup (3 ^ n) (2 ^ n))
  where
    regroup : (x y : ℕ) → x * y * 6 ≡ (x * 3) * (y * 2)
    regroup x y =
        let e : (x * 3) * (y * 2) ≡ x * (3 * (y * 2)) = mul_assoc x 3 (y * 2) in
        let f : 3 * (y * 2) ≡ y * 6 = omega arith in
        mul_assoc x y 6 ∙ sym (e ∙ ap (λ z. x * z) f)

start_bound : (t l x p : ℕ) → l < t → x < p → (t - 1 - l) * p + x < t * p
start_bound t l x p h k =
    let d = mul-le-mul_right {m = suc (t - 1 - l)} {n = t} p (omega arith) in
    omega (arith, suc-mul (t - 1 - l) p, d)

pub start_low : (rank : Rank) (s : State) → WellFormed s → list_any empty (clauses_in s.lines) ≡ false → potential rank s < 6 ^ s.n
start_low rank s fine no_empty =
    rw (six s.n) (start_bound (3 ^ s.n) (length s.lines) (lower rank s) (2 ^ s.n) (book_short s.n s.lines fine.kept no_empty) (lower_short rank s fine.total))

-- ---- ranks that are the same on every row

-- the rows that a session can come to are rows
row_fits : (s : State) → WellFormed s → length s.lines ≤ 65536 → (a : List Bool) → Fit (row (clauses_in s.lines) a)
row_fits s fine few a = (
  length-row (clauses_in s.lines) a,
  le_trans (sum-row-le (clauses_in s.lines) a (all_wider s.n width fine.narrow (clauses_in s.lines) (kept_facts s.n s.lines fine.kept).below))
      (le_trans (le_of_eq (length-clauses_in s.lines)) few),
)

pub potential_agrees : (held rank : Rank) (s : State) → same_ranks (Some held) rank ≡ true → WellFormed s → length s.lines ≤ 65536 → potential held s ≡ potential rank s
potential_agrees held rank s same fine few =
    ap (λ x. unwritten s * 2 ^ s.n + x)
    (values_ext s.n (λ a. ltb (rank_of held s a) (rank_of held s s.assignment)) (λ a. ltb (rank_of rank s a) (rank_of rank s s.assignment))
    (λ a. ap₂ {C = Bool} ltb (agrees a) (agrees s.assignment)))
  where
    agrees : (a : List Bool) → rank_of held s a ≡ rank_of rank s a
    agrees a = ranks_agree held rank same (row (clauses_in s.lines) a) (row_fits s fine few a)
