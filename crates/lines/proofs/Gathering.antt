-- The set of some literals, taken one by one. Assumes nothing.
use Rattle.std.proofs.Common.{◌≡◌, ℕ, zero, suc, ◌+◌, take, ◌<◌, ◌≤◌, Bool, true, false, cond, ◌||◌, List, [], ◌∷◌, length, get_or, ℤ, pos, negsuc, sym, refl, ap, ◌∙◌, ap₂, arith}
use mathlib.Core.Bool.{or-false}
use Rattle.std.proofs.lemmas.List.Folds.{list_any_more}
use Rattle.std.proofs.lemmas.Bool.Decides.{nat_tests}
use Rattle.words.specs.Bits.{width}
use Rattle.words.proofs.Bits.{bit-zero}
use Rattle.clauses.specs.declared.clause.Clause.{Clause}
use Rattle.clauses.specs.Literals.{names, same_literal, among}
use Rattle.clauses.specs.Clauses.{Sign, sign, Signs, holds_plus, holds_minus, sign_at, holds, either, union}
use Rattle.clauses.specs.Sets.{SetOf}
use Rattle.clauses.specs.Words.{signs}
use Rattle.clauses.proofs.Words.{Unit, holds_plus-bit, holds_minus-bit}

pub none_held : SetOf [] (signs (record { pos = 0; neg = 0 }))
none_held (pos zero) = refl
none_held (pos (suc k)) = holds_plus-bit (record { pos = 0; neg = 0 }) k (omega arith) ∙ bit-zero k
none_held (negsuc k) = holds_minus-bit (record { pos = 0; neg = 0 }) k (omega arith) ∙ bit-zero k

either-plus : (s t : Sign) → holds_plus (either s t) ≡ (holds_plus s || holds_plus t)
either-plus (sign p q) (sign r u) = refl

either-minus : (s t : Sign) → holds_minus (either s t) ≡ (holds_minus s || holds_minus t)
either-minus (sign p q) (sign r u) = refl

sign_eta : (s : Sign) → s ≡ either s (sign false false)
sign_eta (sign p q) = ap₂ sign (sym (or-false p)) (sym (or-false q))

sign-union : (c d : Signs) (k : ℕ) → sign_at (union c d) k ≡ either (sign_at c k) (sign_at d k)
sign-union [] d k = blank_left (sign_at d k)
  where
    blank_left : (s : Sign) → s ≡ either (sign false false) s
    blank_left (sign p q) = refl
sign-union (s ∷ c) [] k = sign_eta (sign_at (s ∷ c) k)
sign-union (s ∷ c) (t ∷ d) zero = refl
sign-union (s ∷ c) (t ∷ d) (suc k) = sign-union c d k

pub holds-union : (c d : Signs) (l : ℤ) → holds l (union c d) ≡ (holds l c || holds l d)
holds-union c d (pos zero) = refl
holds-union c d (pos (suc k)) = ap holds_plus (sign-union c d k) ∙ either-plus (sign_at c k) (sign_at d k)
holds-union c d (negsuc k) = ap holds_minus (sign-union c d k) ∙ either-minus (sign_at c k) (sign_at d k)

named : (n : ℕ) (x : ℤ) → n ≤ width → names n x ≡ true → names width x ≡ true
named n x h e = grind (arith, nat_tests)

pub one_more : (n : ℕ) (xs : List ℤ) (i : ℕ) (d : ℤ) (c u r : Clause) → i < length xs → n ≤ width → names n (get_or xs i d) ≡ true → SetOf (take i xs) (signs c)
    → Unit (get_or xs i d) u → signs r ≡ union (signs c) (signs u) → SetOf (take (i + 1) xs) (signs r)
one_more n xs i d c u r h small e old new both l =
    let x = get_or xs i d in
    ap (holds l) both ∙ holds-union (signs c) (signs u) l
    ∙ ap₂ ◌||◌ (old l) (new l ∙ ap (λ (b : Bool). among l (cond b (x ∷ []) [])) (named n x small e) ∙ or-false (same_literal l x))
    ∙ sym (list_any_more (same_literal l) xs i d h)
