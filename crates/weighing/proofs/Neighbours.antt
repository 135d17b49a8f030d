-- Flipping a variable in a word and in an assignment. Assumes nothing.
use Rattle.std.proofs.Common.{◌≡◌, ℕ, zero, suc, ◌<◌, ◌≤◌, Bool, true, false, cond, not, ◌&&◌, ◌||◌, eqb, List, ◌∷◌, refl, ap, ap₂, ◌∙◌, arith}
use lib.Bits.{bit_xor}
use Rattle.std.proofs.lemmas.Bool.Decides.{nat_tests}
use Rattle.words.specs.Bits.{width, bit, BitsWhere, later, listed}
use Rattle.words.proofs.Bits.{bit-xor}
use Rattle.words.proofs.Variables.{listed_same}
use Rattle.clauses.specs.Values.{truths}
use Rattle.steps.specs.Flips.{flipped}

-- g is f but at the place of variable v
abbrev OtherAt : ℕ → (ℕ → Bool) → (ℕ → Bool) → ℕ → Type 0
OtherAt v f g k = g k ≡ cond (eqb (suc k) v) (not (f k)) (f k)

not_there : (b x : Bool) → b ≡ false → cond b (not x) x ≡ x
not_there b x e = rw e refl

further : (k v : ℕ) → eqb (suc (suc k)) (suc (suc v)) ≡ eqb (suc k) (suc v)
further k v = grind (arith, nat_tests)

flipped-listed : (n v : ℕ) (f g : ℕ → Bool) → ((k : ℕ) → k < n → OtherAt v f g k) → listed n g ≡ flipped v (listed n f)
flipped-listed n zero f g h = listed_same n g f (λ k l. h k l ∙ not_there (eqb (suc k) 0) (f k) (grind (arith, nat_tests)))
flipped-listed zero (suc v) f g h = refl
flipped-listed (suc n) (suc zero) f g h = ap₂ {C = List Bool} (λ x xs. x ∷ xs) (h 0 (omega arith)) (listed_same n (later g) (later f) (λ k l. h (suc k) (omega arith) ∙ not_there (eqb (suc (suc k)) 1) (f (suc k)) (grind (arith, nat_tests))))
flipped-listed (suc n) (suc (suc v)) f g h = ap₂ {C = List Bool} (λ x xs. x ∷ xs) (h 0 (omega arith) ∙ not_there (eqb 1 (suc (suc v))) (f 0) (grind (arith, nat_tests)))
    (flipped-listed n (suc v) (later f) (later g) (λ k l. h (suc k) (omega arith) ∙ ap (λ b. cond b (not (f (suc k))) (f (suc k))) (further k v)))

xor_other : (x y : Bool) → ((x && not y) || (not x && y)) ≡ cond y (not x) x
xor_other true true = refl
xor_other true false = refl
xor_other false true = refl
xor_other false false = refl

-- the word with variable v the other way is the neighbour
pub flipped_word : (n v word one : ℕ) → n ≤ width → BitsWhere (λ k. eqb (suc k) v) one → truths n (bit_xor word one) ≡ flipped v (truths n word)
unfolding truths
flipped_word n v word one h b =
    flipped-listed n v (λ k. bit k word) (λ k. bit k (bit_xor word one))
    (λ k l. bit-xor k word one ∙ xor_other (bit k word) (bit k one) ∙ ap (λ y. cond y (not (bit k word)) (bit k word)) (b k (omega arith)))
