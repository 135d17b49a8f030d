use Rattle.std.proofs.Common.{◌≡◌, ◌^◌, ◌<◌, drop}
use Rattle.tokens.specs.Numbers.{all_digits, value_after}
use Rattle.tokens.proofs.numbers.plain.Given as goal

-- what is left of the word decides, and gives the number
abbrev pub invariant-loop-b : goal.invariant-loop-b
invariant-loop-b l =
    (l.n < 10 ^ l.b-index) × (all_digits (drop l.b-index l.word) ≡ all_digits l.word)
    × (value_after l.n (drop l.b-index l.word) ≡ value_after 0 l.word)
