-- What a word is, and tokens of the kinds of their words. Assumes nothing.
use Rattle.std.specs.Prelude.{◌≡◌, ℕ, Bool, true, false, List, ℤ, Some, None, codes, Option}
use Rattle.std.specs.Str.{bytes_eq}
use Rattle.std.proofs.Props.{props}
use Rattle.tokens.specs.declared.stream.Token.{Token}
use Rattle.tokens.specs.declared.stream.Token.TheVariants.{Number, Problem, Format, Comment, Other}
use Rattle.tokens.specs.Numbers.{number_word}

-- what a word is: its number, if it is a number word, and whether it is p or cnf
abbrev pub Tells : List ℕ → Option ℤ → Bool → Bool → Type 0
Tells w number p cnf = (number_word w ≡ number) × (bytes_eq w (codes "p") ≡ p) × (bytes_eq w (codes "cnf") ≡ cnf)

-- a token is of the kind that its word is
abbrev pub Kind : Token → Type 0
Kind (Number w x) = Tells w.now (Some x) false false
Kind (Problem w) = Tells w.now None true false
Kind (Format w) = Tells w.now None false true
Kind (Comment w) = Unit {0}
Kind (Other w) = Tells w.now None false false

-- and in one way only
pub Kind-prop : (t : Token) → IsProp (Kind t)
Kind-prop (Number w x) = Prim.hlevel props
Kind-prop (Problem w) = Prim.hlevel props
Kind-prop (Format w) = Prim.hlevel props
Kind-prop (Comment w) = Prim.hlevel props
Kind-prop (Other w) = Prim.hlevel props
