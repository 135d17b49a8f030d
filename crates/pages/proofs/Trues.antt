-- The literals that are true, one after another. Assumes nothing.
use Rattle.std.proofs.Common.{◌≡◌, ℕ, zero, suc, ◌+◌, ◌^◌, ◌<◌, ◌≤◌, Bool, List, [], ◌∷◌, ◌++◌, length, ℤ, refl, sym, ap, ap₂, ◌∙◌, subst, arith}
use Rattle.std.specs.List.{flat_map}
use Rattle.words.specs.Bits.{width, bit, later, listed, in_word}
use Rattle.words.proofs.Bits.{in_word-bit}
use Rattle.clauses.specs.Values.{truths}
use Rattle.clauses.proofs.Listed.{length_truths}
use Rattle.writing.specs.declared.page.Page.{Page}
use Rattle.writing.specs.Pages.{Tells}
use Rattle.writing.proofs.Joining.{tells_none}
use Rattle.pages.specs.Says.{literal_items}
use Rattle.pages.specs.Reports.{literal, true_literals}
use Rattle.pages.proofs.Rows.{literal_told}

listed_more : {A : Type 0} (n : ℕ) (f : ℕ → A) → listed (suc n) f ≡ listed n f ++ (f n ∷ [])
listed_more zero f = refl
listed_more (suc n) f = ap (λ xs. f 0 ∷ xs) (listed_more n (later f))

truths_more : (n word : ℕ) → truths (suc n) word ≡ truths n word ++ (bit n word ∷ [])
unfolding truths
truths_more n word = listed_more n (λ k. bit k word)

true_more : (v : ℕ) (a : List Bool) (b : Bool) → true_literals v (a ++ (b ∷ [])) ≡ true_literals v a ++ (literal (v + length a) b ∷ [])
true_more v [] b = let e : v ≡ v + 0 = omega arith in ap (λ w. literal w b ∷ []) e
true_more v (c ∷ a) b =
    let e : (v + 1) + length a ≡ v + suc (length a) = omega arith in
    ap (λ xs. literal v c ∷ xs) (true_more (v + 1) a b ∙ ap (λ w. true_literals (v + 1) a ++ (literal w b ∷ [])) e)

true_next : (k v word : ℕ) (b : Bool) → v ≡ k + 1 → v ≤ width → word < 2 ^ width → b ≡ in_word v word
    → true_literals 1 (truths k word) ++ (literal v b ∷ []) ≡ true_literals 1 (truths (k + 1) word)
true_next k v word b same wide small is =
    let e : suc k ≡ v = omega arith in
    let e' : k + 1 ≡ suc k = omega arith in
    let size = length_truths k word in
    let place : 1 + length (truths k word) ≡ v = omega arith in
    let bit_is : bit k word ≡ b = sym (in_word-bit k word small) ∙ ap (λ w. in_word w word) e ∙ sym is in
    sym (ap (λ n. true_literals 1 (truths n word)) e' ∙ ap (true_literals 1) (truths_more k word) ∙ true_more 1 (truths k word) (bit k word)
    ∙ ap₂ {C = List ℤ} (λ w c. true_literals 1 (truths k word) ++ (literal w c ∷ [])) place bit_is)

-- none yet
pub no_true : (word : ℕ) (p : Page) → Tells (flat_map literal_items (true_literals 1 (truths 0 word))) p p
unfolding truths
no_true word p = tells_none p

-- one more
pub true_told : (k v word : ℕ) (b : Bool) (z : ℤ) (p q r : Page) → v ≡ k + 1 → v ≤ width → word < 2 ^ width → b ≡ in_word v word → z ≡ literal v b
    → Tells (flat_map literal_items (true_literals 1 (truths k word))) p q → Tells (literal_items z) q r → Tells (flat_map literal_items (true_literals 1 (truths (k + 1) word))) p r
true_told k v word b z p q r same wide small is lit before now =
    subst (λ xs. Tells (flat_map literal_items xs) p r)
    (ap (λ x. true_literals 1 (truths k word) ++ (x ∷ [])) lit ∙ true_next k v word b same wide small is)
    (literal_told (true_literals 1 (truths k word)) z p q r before now)
