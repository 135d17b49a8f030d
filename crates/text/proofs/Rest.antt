-- The lent places behind the literals that are held. Assumes nothing.
use Rattle.std.proofs.Common.{◌≡◌, ℕ, ◌+◌, ◌-◌, ◌≤◌, ◌∷◌, List, [], length, drop, ℤ, Ok, sym, refl, ap, ◌∙◌, arith, length-append}
use Rattle.std.proofs.lemmas.List.{length-take-le, drop-drop}
use Rattle.table.specs.declared.filled.Filled.{Filled}
use Rattle.table.specs.Held.{held, beyond, places_of, Pushed}
use Rattle.text.specs.declared.reader.Reader.{Reader}
use Rattle.text.specs.declared.reader.State.{State}
use Rattle.text.specs.declared.reader.State.TheVariants.{BeforeProblem, BetweenClauses, InsideClause, Done}
use Rattle.text.specs.Unread.{begun, whole, given, Begins}

-- as many are held as the container says
count_held : (f : Filled ℤ) → length (held f) ≡ f.len
count_held f = length-take-le f.len f.places.now f.fits

-- where none are held but those of a clause that is being read, none are given
none_whole : (s : State) (ls : List ℤ) → ls ≡ begun s ls → whole s ls ≡ []
none_whole (BeforeProblem e) ls h = h
none_whole (BetweenClauses left) ls h = h
none_whole (InsideClause left) ls h = refl
none_whole Done ls h = h

pub none_given : (r : Reader) → Begins r → given r ≡ []
none_given r h = none_whole r.state (held r.literals) h

abbrev RestOf : Filled ℤ → Filled ℤ → Type 0
RestOf was is = beyond is ≡ drop (length (held is)) (places_of was)

-- one more literal changes one place
pub push_keeps : (was is : Filled ℤ) (x : ℤ) (i : ℕ) → Pushed was x is (Ok i) → RestOf was is
push_keeps was is x i (_, _, h, b, _) =
    let more : was.len + 1 ≡ length (held is) =
    omega (arith, ap length h, length-append (held was) (x ∷ []), count_held was) in
    b ∙ drop-drop 1 was.len (places_of was) ∙ ap (λ k. drop k (places_of was)) more

-- and so do several
pub rest_stays : (first was is : Filled ℤ) → RestOf first was → RestOf was is
    → length (held was) ≤ length (held is) → RestOf first is
rest_stays first was is before after grown =
    let j = length (held is) - length (held was) in
    let here : length (held is) ≡ was.len + j = omega (arith, count_held was) in
    let there : length (held was) + j ≡ length (held is) = omega arith in
    after ∙ ap (λ k. drop k (places_of was)) here ∙ sym (drop-drop j was.len (places_of was))
    ∙ ap (drop j) before ∙ drop-drop j (length (held was)) (places_of first)
    ∙ ap (λ k. drop k (places_of first)) there
