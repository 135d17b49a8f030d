use Rattle.std.proofs.Common.{◌≡◌, ◌++◌, map, drop, option_map}
use Rattle.protocol.specs.Reading.{integers_of}
use Rattle.protocol.proofs.reading.numbers.integers.Given as goal

abbrev pub invariant-loop-word : goal.invariant-loop-word
invariant-loop-word l =
    integers_of (map (λ w. w.now) l.words)
    ≡ option_map (λ zs. l.numbers.items ++ zs)
    (integers_of (map (λ w. w.now) (drop l.word-index l.words)))
