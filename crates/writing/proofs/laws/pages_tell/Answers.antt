use Rattle.writing.proofs.Apart.{words_told, numbers_told}
use Rattle.writing.proofs.laws.pages_tell.Goals as goal

pub returns : goal.returns
returns c = record { words = words_told; numbers = numbers_told }
