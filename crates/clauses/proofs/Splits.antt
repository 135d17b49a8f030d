-- The first literal of a clause by rising variable, and the others. Assumes nothing.
use Rattle.std.proofs.Common.{◌≡◌, ℕ, zero, suc, ◌+◌, Bool, true, false, cond, ◌||◌, List, [], ◌∷◌, ℤ, pos, negsuc, neg_ℤ, Some, None, Option, sym, refl, ap, ◌∙◌, subst, arith}
use lib.Bits.{bit_or}
use Rattle.std.proofs.lemmas.Bool.{false≢true, true≢false}
use Rattle.words.specs.Bits.{width, later, listed, keep, numbers, variables, first}
use Rattle.words.proofs.Bits.{bit-or}
use Rattle.words.proofs.Variables.{variables_where}
use Rattle.clauses.specs.declared.clause.Clause.{Clause}
use Rattle.clauses.specs.Clauses.{Sign, sign, Signs, holds_plus, holds_minus, sign_at, holds, literals_from, literals, changed, no_plus, no_minus, without}
use Rattle.clauses.specs.Splitting.{Splits}
use Rattle.clauses.specs.Words.{signs}
use Rattle.clauses.proofs.Words.{sign_of, signs-listed}

-- the first variable of a clause, where its first place stands for i
abbrev first_from : ℕ → Signs → Option ℕ
first_from i [] = None
first_from i (s ∷ c) = cond (holds_plus s || holds_minus s) (Some i) (first_from (suc i) c)

first-keep : (p : Bool) (v : ℕ) (vs : List ℕ) → first (keep p v vs) ≡ cond p (Some v) (first vs)
first-keep true v vs = refl
first-keep false v vs = refl

first-listed : (w i : ℕ) (f : ℕ → Sign) → first (numbers i w (λ k. holds_plus (f k) || holds_minus (f k))) ≡ first_from i (listed w f)
first-listed zero i f = refl
first-listed (suc w) i f =
    first-keep (holds_plus (f 0) || holds_minus (f 0)) i _
    ∙ ap (cond (holds_plus (f 0) || holds_minus (f 0)) (Some i)) (first-listed w (suc i) (later f))

first-words : (c : Clause) → first (variables (bit_or c.pos c.neg)) ≡ first_from 1 (signs c)
first-words c =
    ap first (variables_where (λ k. holds_plus (sign_of c k) || holds_minus (sign_of c k)) _ (λ k _. bit-or k c.pos c.neg))
    ∙ first-listed width 1 (sign_of c) ∙ ap (first_from 1) (sym (signs-listed c))

-- the literal at place j of a clause that starts at place i comes first
record Front (i : ℕ) (c : Signs) (j : ℕ) : Type 0 where
  pub plus : holds_plus (sign_at c j) ≡ true → literals_from i c ≡ pos (suc (i + j)) ∷ literals_from i (changed j no_plus c)
  pub minus : holds_plus (sign_at c j) ≡ false → literals_from i c ≡ negsuc (i + j) ∷ literals_from i (changed j no_minus c)

front : (i : ℕ) (c : Signs) (v : ℕ) → first_from (suc i) c ≡ Some v → (j : ℕ) × (v ≡ suc (i + j)) × Front i c j
front i [] v e = let z : ◌≡◌ {A = ℕ} 0 1 = cc in absurd (omega arith)
front i (sign true q ∷ c) v e =
    let same : suc i ≡ v = cc in
    let here : i ≡ i + 0 = omega arith in
    (0, omega arith, record { plus = λ _. ap (λ (k : ℕ). pos (suc k) ∷ keep q (negsuc i) (literals_from (suc i) c)) here; minus = λ h. absurd (true≢false h) })
front i (sign false true ∷ c) v e =
    let same : suc i ≡ v = cc in
    let here : i ≡ i + 0 = omega arith in
    (0, omega arith, record { plus = λ h. absurd (false≢true h); minus = λ _. ap (λ (k : ℕ). negsuc k ∷ literals_from (suc i) c) here })
front i (sign false false ∷ c) v e =
    let r = front (suc i) c v e in
    let next : suc i + r.0 ≡ i + suc r.0 = omega arith in (
      suc r.0,
      r.1 ∙ ap suc next,
      record {
        plus = λ h. r.2.plus h ∙ ap (λ (k : ℕ). pos (suc k) ∷ literals_from (suc i) (changed r.0 no_plus c)) next;
        minus = λ h. r.2.minus h ∙ ap (λ (k : ℕ). negsuc k ∷ literals_from (suc i) (changed r.0 no_minus c)) next;
      },
    )

no_front : (i k : ℕ) (c : Signs) → first_from i c ≡ None → literals_from k c ≡ []
no_front i k [] e = refl
no_front i k (sign true q ∷ c) e = let z : ◌≡◌ {A = ℕ} 0 1 = cc in absurd (omega arith)
no_front i k (sign false true ∷ c) e = let z : ◌≡◌ {A = ℕ} 0 1 = cc in absurd (omega arith)
no_front i k (sign false false ∷ c) e = no_front (suc i) (suc k) c e

split_plus : (c : Signs) (v : ℕ) → first_from 1 c ≡ Some v → holds (pos v) c ≡ true → literals c ≡ pos v ∷ literals (without (pos v) c)
split_plus c v e h =
    let r = front 0 c v e in
    let start : 0 + r.0 ≡ r.0 = omega arith in
    let at : v ≡ suc r.0 = r.1 ∙ ap suc start in
    subst (λ (x : ℕ). holds (pos x) c ≡ true → literals c ≡ pos x ∷ literals (without (pos x) c)) (sym at) (λ k. r.2.plus k ∙ ap (λ (j : ℕ). pos (suc j) ∷ literals (changed r.0 no_plus c)) start) h

split_minus : (c : Signs) (v : ℕ) → first_from 1 c ≡ Some v → holds (pos v) c ≡ false → literals c ≡ neg_ℤ (pos v) ∷ literals (without (neg_ℤ (pos v)) c)
split_minus c v e h =
    let r = front 0 c v e in
    let start : 0 + r.0 ≡ r.0 = omega arith in
    let at : v ≡ suc r.0 = r.1 ∙ ap suc start in
    subst (λ (x : ℕ). holds (pos x) c ≡ false → literals c ≡ neg_ℤ (pos x) ∷ literals (without (neg_ℤ (pos x)) c)) (sym at) (λ k. r.2.minus k ∙ ap (λ (j : ℕ). negsuc j ∷ literals (changed r.0 no_minus c)) start) h

-- the same, of words and of literals as calls give them back
pub split_none : (c : Clause) (r : Option (ℤ × Clause)) → None ≡ first (variables (bit_or c.pos c.neg)) → r ≡ None → Splits (literals (signs c)) r
split_none c r e is = rw is (no_front 1 0 (signs c) (sym (first-words c) ∙ sym e))

pub split_some : (c r : Clause) (v : ℕ) (k : ℤ) (b : Bool) → Some v ≡ first (variables (bit_or c.pos c.neg)) → b ≡ holds (pos v) (signs c)
    → k ≡ cond b (pos v) (neg_ℤ (pos v)) → signs r ≡ without k (signs c) → literals (signs c) ≡ k ∷ literals (signs r)
split_some c r v k b e h is rest = go b h is ∙ ap (λ (s : Signs). k ∷ literals s) (sym rest)
  where
    go : (b : Bool) → b ≡ holds (pos v) (signs c) → k ≡ cond b (pos v) (neg_ℤ (pos v)) → literals (signs c) ≡ k ∷ literals (without k (signs c))
    go true h is = rw is (split_plus (signs c) v (sym (first-words c) ∙ sym e) (sym h))
    go false h is = rw is (split_minus (signs c) v (sym (first-words c) ∙ sym e) (sym h))
