-- What the two valuations say of variables, and which variables a word has. Assumes
-- nothing.
use Rattle.std.proofs.Common.{◌≡◌, ℕ, zero, suc, ◌+◌, ◌<◌, ◌≤◌, Bool, true, false, ltb, eqb, ◌&&◌, ◌||◌, List, ℤ, pos, negsuc, sym, refl, ap, ◌∙◌, ◌-◌, ◌⊎◌, inl, inr, ⊎_elim, arith}
use Rattle.std.specs.List.{list_any}
use Rattle.std.proofs.lemmas.Bool.{cases_lt}
use Rattle.std.proofs.lemmas.Bool.Decides.{nat_tests}
use Rattle.words.proofs.Variables.{variables_where}
use Rattle.words.specs.Bits.{width, bit, later, keep, numbers, one_to, in_word}
use Rattle.clauses.specs.declared.value.Value.TheVariants.{Unset}
use Rattle.clauses.specs.Values.{full}
use Rattle.clauses.specs.Literals.{names, value_of}
use Rattle.clause_laws.specs.Laws.{OnlyLiteralsHaveValues, APartialSaysItsSet, AWordHasWhatIsListed}

unnamed : (word : ℕ) (l : ℤ) → names width l ≡ false → value_of (full word) l ≡ Unset
unnamed word (pos zero) h = refl
unnamed word (pos (suc k)) h =
    let past : ltb k width ≡ false = grind (arith, nat_tests) in
    rw past refl
unnamed word (negsuc k) h =
    let past : ltb k width ≡ false = grind (arith, nat_tests) in
    rw past refl

pub only_literals : OnlyLiteralsHaveValues
only_literals = (λ m. refl, unnamed)

-- a variable of a word is one of 64, and its bit is set
has-bit : (k word : ℕ) → in_word (suc k) word ≡ (ltb k width && bit k word)
has-bit k word =
    let one : one_to width (suc k) ≡ ltb k width = grind (arith, nat_tests) in
    let back : suc k - 1 ≡ k = omega arith in
    rw (one, back) refl

pub partial_says : APartialSaysItsSet
partial_says set word zero = (λ _. refl, λ _. refl)
partial_says set word (suc k) = (
  λ h. let there : (ltb k width && bit k set) ≡ true = sym (has-bit k set) ∙ h in
      let below : ltb k width ≡ true = grind arith in
      rw (there, below) refl,
  λ h. let gone : (ltb k width && bit k set) ≡ false = sym (has-bit k set) ∙ h in
      rw gone refl,
)

-- ---- the variables that are listed

listed-keep : (x : ℕ) (p : Bool) (y : ℕ) (ys : List ℕ)
    → list_any (eqb x) (keep p y ys) ≡ ((p && eqb x y) || list_any (eqb x) ys)
listed-keep x true y ys = refl
listed-keep x false y ys = refl

module _ (x : ℕ) where
  -- not among the places before its own or after it
  unlisted : (v w : ℕ) (f : ℕ → Bool) → (x < v) ⊎ (v + w ≤ x) → list_any (eqb x) (numbers v w f) ≡ false
  unlisted v zero f out = refl
  unlisted v (suc w) f out =
      let more : (x < suc v) ⊎ (suc v + w ≤ x) = ⊎_elim (λ h. inl (omega arith)) (λ h. inr (omega arith)) out in
      let other : eqb x v ≡ false = ⊎_elim (λ h. grind (arith, nat_tests)) (λ h. grind (arith, nat_tests)) out in
      let b = unlisted (suc v) w (later f) more in
      listed-keep x (f 0) v _ ∙ grind arith

  -- and at its own, where f says so
  listed-at : (v w : ℕ) (f : ℕ → Bool) (k : ℕ) → x ≡ k + v → k < w → list_any (eqb x) (numbers v w f) ≡ f k
  listed-at v zero f k e h = absurd (omega arith)
  listed-at v (suc w) f zero e h =
      let b = unlisted (suc v) w (later f) (inl (omega arith)) in
      let t : eqb x v ≡ true = grind (arith, nat_tests) in
      listed-keep x (f 0) v _ ∙ grind arith
  listed-at v (suc w) f (suc k) e h =
      let b = listed-at (suc v) w (later f) k (omega arith) (omega arith) in
      let t : eqb x v ≡ false = grind (arith, nat_tests) in
      listed-keep x (f 0) v _ ∙ grind arith

pub word_has : AWordHasWhatIsListed
word_has word v = has v ∙ ap (list_any (eqb v)) (sym (variables_where f word (λ k _. refl)))
  where
    f : ℕ → Bool
    f k = bit k word

    has : (v : ℕ) → in_word v word ≡ list_any (eqb v) (numbers 1 width f)
    has zero = sym (unlisted 0 1 width f (inl (omega arith)))
    has (suc k) =
        let next : suc k ≡ k + 1 = omega arith in
        ⊎_elim
        (λ h. let below : ltb k width ≡ true = grind (arith, nat_tests) in
        has-bit k word ∙ rw below (sym (listed-at (suc k) 1 width f k next h)))
        (λ h. let past : ltb k width ≡ false = grind (arith, nat_tests) in
        has-bit k word ∙ rw past (sym (unlisted (suc k) 1 width f (inr (omega arith)))))
        (cases_lt k width)
