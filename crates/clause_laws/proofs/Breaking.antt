-- What breaks empty clauses, and clauses that are the same. Assumes nothing.
use Rattle.std.proofs.Common.{◌≡◌, Bool, true, false, ◌&&◌, [], ◌∷◌, sym, refl, ap₂}
use Rattle.std.proofs.lemmas.Bool.{false≢true, and_parts}
use Rattle.words.specs.Bits.{later}
use Rattle.clauses.specs.declared.value.Value.TheVariants.{Unset}
use Rattle.clauses.specs.Values.{Values, assigned}
use Rattle.clauses.specs.Clauses.{Sign, sign, Signs, absent, empty, false_at, broken, same_sign, same}
use Rattle.lines.proofs.Resolution.{same-signs}

-- all unset breaks just the empty clause
pub unset_breaks : (c : Signs) → broken (assigned []) c ≡ empty c
unset_breaks [] = refl
unset_breaks (s ∷ c) = ap₂ {C = Bool} (λ x y. x && y) (unset s) (unset_breaks c)
  where
    unset : (t : Sign) → false_at t Unset ≡ absent t
    unset (sign true q) = refl
    unset (sign false true) = refl
    unset (sign false false) = refl

empty-broken : (m : Values) (c : Signs) → empty c ≡ true → broken m c ≡ true
empty-broken m [] h = refl
empty-broken m (sign true q ∷ c) h = absurd (false≢true h)
empty-broken m (sign false true ∷ c) h = absurd (false≢true h)
empty-broken m (sign false false ∷ c) h = empty-broken (later m) c h

pub same-broken : (m : Values) (c d : Signs) → same c d ≡ true → broken m c ≡ broken m d
same-broken m [] d h = sym (empty-broken m d h)
same-broken m (s ∷ c) [] h = empty-broken m (s ∷ c) h
same-broken m (s ∷ c) (t ∷ d) h =
    let p = and_parts (same_sign s t) (same c d) h in
    ap₂ {C = Bool} (λ x y. false_at x (m 0) && y) (same-signs s t p.0) (same-broken (later m) c d p.1)
