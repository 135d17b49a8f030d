-- The look, and a flip. Assumes nothing.
use Rattle.std.proofs.Common.{◌≡◌, ℕ, suc, ◌-◌, ◌^◌, ◌<◌, ◌≤◌, Bool, true, false, cond, eqb, List, map, Some, None, refl, sym, ◌∙◌, subst, arith}
use lib.Bits.{bit_xor}
use Rattle.std.specs.List.{list_any}
use Rattle.std.proofs.Math.Pow.{pow-lt}
use Rattle.std.proofs.lemmas.Nat.{xor_lt}
use Rattle.std.proofs.lemmas.Bool.Decides.{nat_tests}
use Rattle.words.specs.Bits.{width, BitsWhere}
use Rattle.words.proofs.Bits.{same_bits, bit_power}
use Rattle.clauses.specs.Clauses.{Signs, empty}
use Rattle.lines.specs.declared.line.Line.{Line}
use Rattle.lines.specs.Lines.{candidate_of}
use Rattle.lines.specs.Lines as lines
use Rattle.lines.specs.ReadingOff.{breaks}
use Rattle.search.specs.Moves.{look_at}
use Rattle.answers.specs.declared.run.Outcome.TheVariants.{Met, NoneMeets}
use Rattle.histories.specs.Runs.{verdict}
use Rattle.session.specs.Sessions.{verdict_of}

-- ---- the look

seen : (p q : Bool) (cs : List Signs) (a : List Bool) → list_any empty cs ≡ p → breaks a cs ≡ q → cond p (Some NoneMeets) (cond q None (Some Met)) ≡ verdict_of (look_at cs a)
seen true q cs a e f = rw e refl
seen false true cs a e f = rw (e, f) refl
seen false false cs a e f = rw (e, f) refl

pub verdict_seen : (n : ℕ) (ls : List Line) (a : List Bool) → verdict (record { n = n; lines = map candidate_of ls; assignment = a }) ≡ verdict_of (look_at (lines.clauses ls) a)
verdict_seen n ls a = seen (list_any empty (lines.clauses ls)) (breaks a (lines.clauses ls)) (lines.clauses ls) a refl refl

-- ---- a flip leaves no bit above n

pub flip_below : (n v word one : ℕ) → n ≤ width → 0 < v → v ≤ n → word < 2 ^ n → one < 2 ^ width → BitsWhere (λ k. eqb (suc k) v) one → bit_xor word one < 2 ^ n
flip_below n v word one wide some named low small at =
    let power : one ≡ 2 ^ (v - 1) = same_bits one (2 ^ (v - 1)) small (pow-lt {i = v - 1} {j = width} (omega arith)) (λ k h. at k h ∙ same_place k ∙ sym (bit_power k (v - 1))) in
    xor_lt n word one low (subst (λ (x : ℕ). x < 2 ^ n) (sym power) (pow-lt {i = v - 1} {j = n} (omega arith)))
  where
    same_place : (k : ℕ) → eqb (suc k) v ≡ eqb k (v - 1)
    same_place k = grind (arith, nat_tests)
