-- Each law is put together from the lemmas on the lines to write. Assumes nothing.
use Rattle.steps.proofs.Closing.{nothing_closed}
use Rattle.steps.proofs.Written.{written_keeps, written_broken, swept_from_two}
use Rattle.steps.proofs.laws.lines_are_sound.Goals as goal

pub returns : goal.returns
returns c = record { keeps = written_keeps; broken = written_broken; swept = swept_from_two; closed = nothing_closed }
