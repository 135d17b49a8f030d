use Rattle.std.proofs.Common.{refl}
use Rattle.replay.proofs.laws.ranks_hold.Goals as goal

pub returns : goal.returns
returns c = record { worked = record { longest = refl; fewest = refl; constant = refl; reversed = refl } }
