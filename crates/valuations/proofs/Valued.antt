-- What the words of a valuation say. Assumes nothing.
use Rattle.std.proofs.Common.{◌≡◌, ℕ, zero, suc, ◌-◌, ◌^◌, ◌<◌, ◌≤◌, Bool, true, false, cond, not, ◌&&◌, ℤ, pos, negsuc, sym, refl, ap, ◌∙◌, ⊎_elim, w32, to_z, of_z, SFits}
use Rattle.std.proofs.lemmas.Bool.{cases_lt, lt-ltb}
use lib.Bits.{bit_and}
use Rattle.std.proofs.lemmas.Int.{to_z-of_z}
use Rattle.words.specs.Bits.{width, bit, BitsWhere}
use Rattle.words.proofs.Bits.{bit_past, bit_not, bit-and, bit-without}
use Rattle.clauses.specs.declared.value.Value.{Value}
use Rattle.clauses.specs.declared.value.Value.TheVariants.{True, False, Unset}
use Rattle.clauses.specs.Values.{Values, is_true, is_false, contrary, valued, full, partly}
use Rattle.clauses.specs.Literals.{value_of}
use Rattle.clauses.specs.Clauses.{holds}
use Rattle.clauses.specs.Words.{signs}
use Rattle.clauses.proofs.Contrary.{true-contrary, false-contrary}
use Rattle.clauses.proofs.Words.{holds_plus-bit, holds_minus-bit}

pub full_falses : (k word : ℕ) → k < width → word < 2 ^ width → bit k (2 ^ width - 1 - word) ≡ is_false (full word k)
full_falses k word h small = rw (lt-ltb k width h) (bit_not k word h small ∙ go (bit k word))
  where
    go : (b : Bool) → not b ≡ is_false (valued b)
    go true = refl
    go false = refl

pub partial_trues : (k set word : ℕ) → k < width → bit k (bit_and set word) ≡ is_true (partly set word k)
partial_trues k set word h = rw (lt-ltb k width h) (bit-and k set word ∙ go (bit k set) (bit k word))
  where
    go : (s b : Bool) → (s && b) ≡ is_true (cond s (valued b) Unset)
    go true true = refl
    go true false = refl
    go false b = refl

pub partial_falses : (k set word : ℕ) → k < width → word < 2 ^ width → bit k (bit_and set (2 ^ width - 1 - word)) ≡ is_false (partly set word k)
partial_falses k set word h small = rw (lt-ltb k width h) (bit-without k set word h small ∙ go (bit k set) (bit k word))
  where
    go : (s b : Bool) → (s && not b) ≡ is_false (cond s (valued b) Unset)
    go true true = refl
    go true false = refl
    go false b = refl

-- a value by its two tests
by_tests : (x : Value) → x ≡ cond (is_true x) True (cond (is_false x) False Unset)
by_tests True = refl
by_tests False = refl
by_tests Unset = refl

-- the literals that pass, where the first word has the variables that do and
-- the second those whose contraries do
module _ (m : Values) (beyond : (k : ℕ) → width ≤ k → m k ≡ Unset) (yes no : Value → Bool)
    (turned : (x : Value) → no x ≡ yes (contrary x)) (unset : yes Unset ≡ false) where
  bit-here : (test : Value → Bool) → test Unset ≡ false → (word k : ℕ) → word < 2 ^ width → BitsWhere (λ j. test (m j)) word → bit k word ≡ test (m k)
  bit-here test none word k small at =
      ⊎_elim (at k) (λ h. bit_past k word small h ∙ sym (ap test (beyond k h) ∙ none)) (cases_lt k width)

  passing : (a b : ℕ) → a < 2 ^ width → b < 2 ^ width → BitsWhere (λ k. yes (m k)) a → BitsWhere (λ k. no (m k)) b
      → (l : ℤ) → holds l (signs (record { pos = a; neg = b })) ≡ yes (value_of m l)
  passing a b la lb at bt (pos zero) = sym unset
  passing a b la lb at bt (pos (suc k)) = holds_plus-bit (record { pos = a; neg = b }) k la ∙ bit-here yes unset a k la at
  passing a b la lb at bt (negsuc k) =
      holds_minus-bit (record { pos = a; neg = b }) k lb ∙ bit-here no (turned Unset ∙ unset) b k lb bt ∙ turned (m k)

-- where t has the variables that are true and f those that are false
pub value_words : (m : Values) (t f : ℕ) (l : ℤ) → SFits w32 l → BitsWhere (λ k. is_true (m k)) t → BitsWhere (λ k. is_false (m k)) f → t < 2 ^ width → f < 2 ^ width
    → ((k : ℕ) → width ≤ k → m k ≡ Unset)
    → value_of m l ≡ cond (holds (to_z w32 (of_z w32 l)) (signs (record { pos = t; neg = f }))) True (cond (holds (to_z w32 (of_z w32 l)) (signs (record { pos = f; neg = t }))) False Unset)
value_words m t f l fits at bt ts fs beyond =
    rw (to_z-of_z w32 l fits, passing m beyond is_true is_false true-contrary refl t f ts fs at bt l, passing m beyond is_false is_true false-contrary refl f t fs ts bt at l)
    (by_tests (value_of m l))
