use Rattle.text_laws.proofs.Told.{every_byte_is_told, pieces_follow}
use Rattle.text_laws.proofs.Commented.{comments_are_lines}
use Rattle.text_laws.proofs.pieces_hold.Goals as goal

pub returns : goal.returns
returns c =
    record {
      told = every_byte_is_told;
      follow = pieces_follow;
      comments = comments_are_lines;
    }
