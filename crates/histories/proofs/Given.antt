-- A clause given as signed numbers, as the line that it is or becomes. Assumes
-- nothing.
use Rattle.std.proofs.Common.{◌≡◌, ℕ, zero, suc, ◌<◌, ◌≤◌, Bool, true, false, cond, not, List, [], ◌∷◌, ℤ, pos, negsuc, nat_abs, Some, None, Option, sym, refl, ap, ◌∙◌, arith}
use Rattle.std.proofs.lemmas.Bool.{false≢true, cases_lt, or_left, or_right, or_from, false_from_ne_true}
use Rattle.words.specs.Bits.{width}
use Rattle.clauses.specs.Values.{Values}
use Rattle.clauses.specs.Literals.{names, among, met, tautology}
use Rattle.clauses.specs.Sets.{set_of, SetOf}
use Rattle.clauses.specs.Clauses.{sign, Signs, holds_plus, holds_minus, meets, same, has}
use Rattle.clauses.proofs.Listed.{sign-listed, blank_past}
use Rattle.lines.specs.Lines.{number_from, number_of, given_clause}
use Rattle.lines.proofs.Numbers.{all_among, names_below, given-meets, given-clean, given-within}
use Rattle.steps.proofs.Written.{Sound, same_order}
use Rattle.histories.specs.Readings.{Named}
use Rattle.std.proofs.Common.{⊎_elim}

-- a literal that names no variable of the word is not among them
far : (n : ℕ) (xs : List ℤ) (l : ℤ) → Named n xs → n < nat_abs l → among l xs ≡ false
far n xs l h o = false_from_ne_true (among l xs) (λ e. let b = names_below n l (all_among (names n) xs l h e) in omega arith)

pub set_holds : (n : ℕ) (xs : List ℤ) → Named n xs → n ≤ width → SetOf xs (set_of xs)
unfolding set_of
set_holds n xs h few (pos zero) = sym (false_from_ne_true (among (pos zero) xs) (λ e. false≢true (all_among (names n) xs (pos zero) h e)))
set_holds n xs h few (pos (suc k)) =
    ⊎_elim
    (λ o. ap holds_plus (sign-listed width (λ j. sign (among (pos (suc j)) xs) (among (negsuc j) xs)) k o))
    (λ o. ap holds_plus (blank_past width (λ j. sign (among (pos (suc j)) xs) (among (negsuc j) xs)) k o) ∙ sym (far n xs (pos (suc k)) h (omega arith)))
    (cases_lt k width)
set_holds n xs h few (negsuc k) =
    ⊎_elim
    (λ o. ap holds_minus (sign-listed width (λ j. sign (among (pos (suc j)) xs) (among (negsuc j) xs)) k o))
    (λ o. ap holds_minus (blank_past width (λ j. sign (among (pos (suc j)) xs) (among (negsuc j) xs)) k o) ∙ sym (far n xs (negsuc k) h (omega arith)))
    (cases_lt k width)

pub set_meets : (n : ℕ) (xs : List ℤ) → Named n xs → n ≤ width → (m : Values) → meets m (set_of xs) ≡ met m xs
set_meets n xs h few m = given-meets n xs (set_of xs) h (set_holds n xs h few) m

-- it may be written as a given line, if it is new and no tautology
pub given_sound : (n : ℕ) (xs : List ℤ) (cs : List Signs) → Named n xs → n ≤ width → tautology xs ≡ false → has (set_of xs) cs ≡ false → Sound n cs (given_clause (set_of xs))
given_sound n xs cs h few t new = record {
  new = new;
  one_way = given-clean n xs (set_of xs) h (set_holds n xs h few) ∙ ap not t;
  within_n = given-within n xs (set_of xs) h (set_holds n xs h few);
  following = refl;
}

-- ---- where it stands

-- it stands there, or nowhere
abbrev pub Stood : Signs → List Signs → Option ℕ → Type 0
Stood c cs None = has c cs ≡ false
Stood c cs (Some k) = has c cs ≡ true

stood_from : (k : ℕ) (c : Signs) (cs : List Signs) → Stood c cs (number_from k c cs)
stood_from k c [] = refl
stood_from k c (d ∷ cs) = go (same d c) refl (number_from (suc k) c cs) (stood_from (suc k) c cs)
  where
    go : (b : Bool) → same d c ≡ b → (o : Option ℕ) → Stood c cs o → Stood c (d ∷ cs) (cond b (Some k) o)
    go true e o h = or_left (same c d) (has c cs) (same_order c d ∙ e)
    go false e None h = or_from (same c d) (has c cs) (same_order c d ∙ e) h
    go false e (Some j) h = or_right (same c d) (has c cs) h

pub stood : (c : Signs) (cs : List Signs) → Stood c cs (number_of c cs)
stood c cs = stood_from 1 c cs
