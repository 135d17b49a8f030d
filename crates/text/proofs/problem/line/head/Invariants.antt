use Rattle.std.proofs.Common.{◌≡◌, length}
use Rattle.text.specs.declared.problem.Expected.TheVariants.{ProblemWord}
use Rattle.text.specs.Problem.{sizes}
use Rattle.tokens.specs.Scanning.{coming}
use Rattle.tokens.specs.Words.{pieces}
use Rattle.text.proofs.problem.line.head.Given as goal

-- what is to come gives the answer
abbrev pub invariant-loop-piece : goal.invariant-loop-piece
invariant-loop-piece l =
    (goal.iterator-loop-piece).can_next l.piece-iterator
    × (sizes 64 (length l.text) l.expected (coming l.piece-iterator) ≡ sizes 64 (length l.text) ProblemWord (pieces l.text))
