use Rattle.std.proofs.Common.{◌≡◌, ◌≤◌, length}
use Rattle.limits.specs.Limits.{most_bytes}
use Rattle.text.specs.Unread.{unread, Begins, Grown, KeepsRest}
use Rattle.tokens.specs.Scanning.{coming}
use Rattle.text.proofs.reader.Reader.next_clause.Given as goal

-- no clause has ended yet
abbrev pub invariant-loop-piece : goal.invariant-loop-piece
invariant-loop-piece l =
    (l.ahead ≡ l.self.tokens) × (unread l.self ≡ unread l.initial.self)
    × (length l.ahead.text.now ≤ most_bytes) × Begins l.self
    × KeepsRest l.initial.self l.self × Grown l.initial.self l.self

abbrev pub decreases-loop-piece : goal.decreases-loop-piece
decreases-loop-piece l = length (coming l.ahead)
