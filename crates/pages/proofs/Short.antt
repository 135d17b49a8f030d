-- No report has more than 274 bytes. Assumes nothing.
use Rattle.std.proofs.Common.{ℕ, zero, suc, ◌+◌, ◌*◌, ◌/◌, ◌%◌, ◌≤◌, ◌==◌, Bool, true, false, List, [], ◌∷◌, ◌++◌, length, decimal, ap, arith, length-append}
use Rattle.std.specs.List.{flat_map}
use Rattle.std.specs.Fmt.{digits, digits_onto, digit_glyph, signed_decimal}
use lib.Signed.{mag}
use Rattle.std.proofs.lemmas.Fmt.{length_signed_le}
use Rattle.std.proofs.lemmas.Bool.{cond_both}
use Rattle.answers.specs.declared.run.Outcome.TheVariants.{Met, NoneMeets, Spent, Full}
use Rattle.answers.specs.declared.report.Report.{Report}
use Rattle.answers.specs.declared.report.Report.TheVariants.{Ended, Refused}
use Rattle.writing.specs.Items.{bytes}
use Rattle.writing.proofs.Joining.{bytes_append}
use Rattle.pages.specs.Says.{literal_items, count_items}
use Rattle.pages.specs.Reports.{literal, true_literals, satisfied, told_items, most_report, report_bytes}

small_literal : (v : ℕ) (b : Bool) → v ≤ 64 → mag (literal v b) ≤ 64
small_literal v true h = h
small_literal zero false h = h
small_literal (suc v) false h = omega arith

literal_short : (v : ℕ) (b : Bool) → v ≤ 64 → length (signed_decimal (literal v b)) ≤ 3
literal_short v b h = let m = small_literal v b h in length_signed_le 2 (literal v b) (omega arith) (omega arith)

literals_short : (v : ℕ) (a : List Bool) → v + length a ≤ 65 → length (bytes (flat_map literal_items (true_literals v a))) ≤ 4 * length a
literals_short v [] h = omega arith
literals_short v (b ∷ a) h =
    let x = signed_decimal (literal v b) in
    let rest = bytes (flat_map literal_items (true_literals (v + 1) a)) in
    let l = literal_short v b (omega arith) in
    let r = literals_short (v + 1) a (omega arith) in
    omega (arith, length-append x (32 ∷ rest))

satisfied_short : (a : List Bool) → length a ≤ 64 → length (bytes (told_items (satisfied a))) ≤ most_report
unfolding digits
satisfied_short a h =
    let xs = flat_map literal_items (true_literals 1 a) in
    let l = literals_short 1 a (omega arith) in
    omega (arith, ap length (bytes_append xs (count_items 0)), length-append (bytes xs) (bytes (count_items 0)))

-- the library's digits are 64 at most
digits_few : (k n : ℕ) (acc : List ℕ) → length (digits_onto k 10 false n acc) ≤ k + length acc
digits_few zero n acc = omega arith
digits_few (suc k) n acc =
    cond_both (n / 10 == 0) _ _ (λ ds. length ds ≤ suc k + length acc) (λ e. omega arith) (λ e. let h = digits_few k (n / 10) (digit_glyph false (n % 10) ∷ acc) in omega arith)

decimal_few : (n : ℕ) → length (decimal n) ≤ 64
unfolding digits
decimal_few n = digits_few 64 n []

pub report_short : (r : Report) (a : List Bool) → length a ≤ 64 → length (report_bytes r a) ≤ most_report
report_short (Ended Met) a h = satisfied_short a h
report_short (Ended NoneMeets) a h = omega arith
report_short (Ended Spent) a h = omega arith
report_short (Ended Full) a h = omega arith
report_short (Refused k place) a h =
    let x = decimal_few k in
    let y = decimal_few place in
    omega (arith, length-append (decimal k) (32 ∷ 97 ∷ 116 ∷ 32 ∷ (decimal place ++ (10 ∷ []))), length-append (decimal place) (10 ∷ []))
