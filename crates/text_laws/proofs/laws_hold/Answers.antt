use Rattle.text_laws.proofs.NoFurther.{looks_no_further}
use Rattle.text_laws.proofs.Numerals.{number_words}
use Rattle.text_laws.proofs.Sound.{sound_texts}
use Rattle.text_laws.proofs.WrittenRead.{written_read, written_head}
use Rattle.text_laws.proofs.laws_hold.Goals as goal

pub returns : goal.returns
returns c =
    record { numbers = number_words; sound = sound_texts; read = written_read; head = written_head; further = looks_no_further }
