-- The value of -v is the contrary of that of v. Assumes nothing.
use Rattle.std.proofs.Common.{◌≡◌, refl}
use Rattle.clauses.specs.declared.value.Value.{Value}
use Rattle.clauses.specs.declared.value.Value.TheVariants.{True, False, Unset}
use Rattle.clauses.specs.Values.{is_true, is_false, contrary}

pub true-contrary : (x : Value) → is_false x ≡ is_true (contrary x)
true-contrary True = refl
true-contrary False = refl
true-contrary Unset = refl

pub false-contrary : (x : Value) → is_true x ≡ is_false (contrary x)
false-contrary True = refl
false-contrary False = refl
false-contrary Unset = refl
