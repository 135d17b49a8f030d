-- Reading an assignment off a book, one variable after the other, in the bits
-- of a word. Assumes nothing.
use Rattle.std.proofs.Common.{◌≡◌, ℕ, zero, suc, ◌+◌, ◌-◌, ◌^◌, ◌<◌, ◌≤◌, Bool, true, false, cond, not, ◌&&◌, ◌||◌, ◌⊎◌, eqb, ltb, List, [], ◌∷◌, ◌++◌, Option, is_some, refl, sym, ap, ap₂, ◌∙◌, subst, ⊎_elim, arith}
use mathlib.Core.Bool.{not-not, or-true, or-false}
use lib.Bits.{bit_or, or_lt}
use Rattle.std.specs.List.{list_any}
use Rattle.std.proofs.Math.Path.{fun_ext}
use Rattle.std.proofs.Math.Pow.{pow-lt}
use Rattle.std.proofs.lemmas.Bool.{lt-ltb, le-ltb, cases_lt, eq-eqb, ne_eqb}
use Rattle.std.proofs.lemmas.Bool.Decides.{nat_tests}
use Rattle.std.proofs.lemmas.Nat.Bits.{bit_at_above}
use Rattle.words.specs.Bits.{width, bit, BitsWhere, later, listed}
use Rattle.words.proofs.Bits.{bit-or, bit_power, bit-zero, same_bits}
use Rattle.words.proofs.Variables.{listed_same}
use Rattle.clauses.specs.declared.value.Value.TheVariants.{Unset}
use Rattle.clauses.specs.Values.{valued, assigned, partly, truths}
use Rattle.clauses.specs.Clauses.{Signs, broken}
use Rattle.lines.specs.ReadingOff.{breaks, read_on, read_off}
use Rattle.steps.specs.Writing.{oldest_broken}
use Rattle.weighing.specs.declared.book.Book.{Book}
use Rattle.weighing.specs.Books.{standing}
use Rattle.search.proofs.Walks.{found_from}

-- ---- the valuation of the first variables

-- an assignment by its list, place by place
assigned-listed : (n k : ℕ) (f : ℕ → Bool) → assigned (listed n f) k ≡ cond (ltb k n) (valued (f k)) Unset
assigned-listed zero k f = rw (le-ltb k 0 (omega arith)) refl
assigned-listed (suc n) zero f = rw (lt-ltb 0 (suc n) (omega arith)) refl
assigned-listed (suc n) (suc k) f =
    let e : ltb k n ≡ ltb (suc k) (suc n) = grind (arith, nat_tests) in
    assigned-listed n k (later f) ∙ ap (λ b. cond b (valued (f (suc k))) Unset) e

-- with just the first i variables set, a word is their assignment
first_set : (i set word : ℕ) → i ≤ width → BitsWhere (λ k. ltb k i) set → (k : ℕ) → partly set word k ≡ assigned (truths i word) k
unfolding truths
first_set i set word h at k = ap (λ b. cond b (valued (bit k word)) Unset) (go (cases_lt k width)) ∙ sym (assigned-listed i k (λ j. bit j word))
  where
    go : (k < width) ⊎ (width ≤ k) → (ltb k width && bit k set) ≡ ltb k i
    go c = ⊎_elim (λ l. rw (lt-ltb k width l) (at k l)) (λ l. rw (le-ltb k width l) (sym (le-ltb k i (omega arith)))) c

-- a broken line is found where their assignment breaks one
found_first : (i set word : ℕ) (cs : List Signs) → i ≤ width → BitsWhere (λ k. ltb k i) set → is_some (oldest_broken (partly set word) cs) ≡ breaks (truths i word) cs
found_first i set word cs h at =
    found_from (broken (partly set word)) 1 cs
    ∙ ap (λ m. list_any (broken m) cs) (fun_ext (first_set i set word h at))

-- ---- one more variable

-- the list of one more place ends with what f gives there
listed-more : (n : ℕ) (f : ℕ → Bool) → listed (suc n) f ≡ listed n f ++ (f n ∷ [])
listed-more zero f = refl
listed-more (suc n) f = ap (λ xs. f 0 ∷ xs) (listed-more n (later f))

-- a word below 2 ^ i has no bit from place i on
bit_above : (k i a : ℕ) → a < 2 ^ i → i ≤ k → bit k a ≡ false
unfolding bit
bit_above k i a small h = rw (bit_at_above a i k small h) refl

-- the next truth value is the next bit, set where that is true
truths-more : (i word : ℕ) (t : Bool) → word < 2 ^ i → truths (suc i) (cond t (bit_or word (2 ^ i)) word) ≡ truths i word ++ (t ∷ [])
unfolding truths
truths-more i word true small =
    listed-more i (λ k. bit k (bit_or word (2 ^ i)))
    ∙ ap₂ (λ xs b. xs ++ (b ∷ []))
    (listed_same i _ _ (λ k h. bit-or k word (2 ^ i) ∙ ap (λ b. bit k word || b) (bit_power k i ∙ ne_eqb k i (λ e. omega arith)) ∙ or-false (bit k word)))
    (bit-or i word (2 ^ i) ∙ ap (λ b. bit i word || b) (bit_power i i ∙ eq-eqb i i refl) ∙ or-true (bit i word))
truths-more i word false small = listed-more i (λ k. bit k word) ∙ ap (λ b. listed i (λ k. bit k word) ++ (b ∷ [])) (bit_above i i word small (omega arith))

-- the word stays below the next power
small-more : (i word : ℕ) (t : Bool) → word < 2 ^ i → cond t (bit_or word (2 ^ i)) word < 2 ^ suc i
small-more i word true small = let p : 2 ^ i < 2 ^ suc i = pow-lt (omega arith) in or_lt (suc i) word (2 ^ i) (omega arith) p
small-more i word false small = let p : 2 ^ i < 2 ^ suc i = pow-lt (omega arith) in omega arith

-- the set has the first variables, and then one more
set-more : (i set : ℕ) → BitsWhere (λ k. ltb k i) set → BitsWhere (λ k. ltb k (suc i)) (bit_or set (2 ^ i))
set-more i set at = λ k h.
    let e : (ltb k i || eqb k i) ≡ ltb k (suc i) = grind (arith, nat_tests) in
    bit-or k set (2 ^ i) ∙ ap₂ ◌||◌ (at k h) (bit_power k i) ∙ e

-- ---- reading off

-- what is known once the first i of n variables are read off
pub record Read (n i : ℕ) (cs : List Signs) (set word : ℕ) : Type 0 where
  pub upto : i ≤ n
  pub firsts : BitsWhere (λ k. ltb k i) set
  pub small : word < 2 ^ i
  pub rest : read_on (n - i) cs (truths i word) ≡ read_off n cs

-- the next variable, at place i, is true where that breaks no line
further : (n i set word : ℕ) (cs : List Signs) (o : Option ℕ) (t : Bool) → n ≤ width → i < n → Read n i cs set word
    → o ≡ oldest_broken (partly (bit_or set (2 ^ i)) (bit_or word (2 ^ i))) cs → is_some o ≡ not t
    → Read n (suc i) cs (bit_or set (2 ^ i)) (cond t (bit_or word (2 ^ i)) word)
further n i set word cs o t wide h r e f =
    let a = truths i word in
    let k : n - i ≡ suc (n - suc i) = omega arith in
    let tried : is_some (oldest_broken _ cs) ≡ breaks (a ++ (true ∷ [])) cs = found_first (suc i) (bit_or set (2 ^ i)) (bit_or word (2 ^ i)) cs (omega arith) (set-more i set r.firsts) ∙ ap (λ b. breaks b cs) (truths-more i word true r.small) in
    let passed : t ≡ not (breaks (a ++ (true ∷ [])) cs) = sym (not-not t) ∙ ap not (sym f ∙ ap is_some e ∙ tried) in
    record {
      upto = omega arith;
      firsts = set-more i set r.firsts;
      small = small-more i word t r.small;
      rest = ap (read_on (n - suc i) cs) (truths-more i word t r.small ∙ ap (λ b. a ++ (b ∷ [])) passed) ∙ sym (ap (λ m. read_on m cs a) k) ∙ r.rest;
    }

-- before the first variable
pub read_none : (n : ℕ) (cs : List Signs) → Read n 0 cs 0 0
unfolding truths
read_none n cs =
    let e : n - 0 ≡ n = omega arith in
    record {
      upto = omega arith;
      firsts = λ k _. bit-zero k ∙ sym (le-ltb k 0 (omega arith));
      small = omega arith;
      rest = ap (λ m. read_on m cs []) e;
    }

-- variable v stands at place v - 1
place : (k v : ℕ) → 0 < v → eqb (suc k) v ≡ eqb k (v - 1)
place k v h = grind (arith, nat_tests)

-- the same of variable v and its word, as the code has them
pub read_next : (book : Book) (v one : ℕ) {set word : ℕ} {o : Option ℕ} (t : Bool) → Read book.n (v - 1) (standing book) set word
    → 0 < v → v ≤ book.n → one < 2 ^ width → BitsWhere (λ k. eqb (suc k) v) one → o ≡ oldest_broken (partly (bit_or set one) (bit_or word one)) (standing book) → is_some o ≡ not t
    → Read book.n (v + 1 - 1) (standing book) (bit_or set one) (cond t (bit_or word one) word)
read_next book v one {set} {word} {o} t r some le fits at e f =
    let n = book.n in
    let wide = book.wide in
    let i = v - 1 in
    let next : suc i ≡ v + 1 - 1 = omega arith in
    let same : one ≡ 2 ^ i = same_bits one (2 ^ i) fits (pow-lt {i = i} {j = width} (omega arith)) (λ k h. at k h ∙ place k v some ∙ sym (bit_power k i)) in
    let e' = subst (λ u. o ≡ oldest_broken (partly (bit_or set u) (bit_or word u)) (standing book)) same e in
    subst (λ u. Read n u (standing book) (bit_or set one) (cond t (bit_or word one) word)) next
    (subst (λ u. Read n (suc i) (standing book) (bit_or set u) (cond t (bit_or word u) word)) (sym same) (further n i set word (standing book) o t wide (omega arith) r e' f))

-- after the last variable
pub read_all : {n i set word : ℕ} {cs : List Signs} → Read n i cs set word → n ≤ i → (truths n word ≡ read_off n cs) × (word < 2 ^ n)
read_all {n} {i} {set} {word} {cs} r h =
    let e : i ≡ n = omega (arith, r.upto) in
    let k : n - i ≡ 0 = omega arith in
    (ap (λ u. truths u word) (sym e) ∙ sym (ap (λ m. read_on m cs (truths i word)) k) ∙ r.rest, subst (λ u. word < 2 ^ u) e r.small)
