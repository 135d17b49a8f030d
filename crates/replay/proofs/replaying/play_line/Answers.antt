use Rattle.std.proofs.Common.{ap, sym, ◌∙◌}
use Rattle.protocol.specs.Reading.{command_in}
use Rattle.replay.proofs.Lists.{stayed}
use Rattle.replay.proofs.replaying.play_line.Goals as goal

pub returns-in-Ok-Some : goal.returns-in-Ok-Some
returns-in-Ok-Some c = record {
  answered = stayed c.args.made c.args.session.now _ _ _ c.answer-played.result _
      (ap command_in (sym c.in-Ok-Some.field-0-is) ∙ c.in-Ok-Some.ensures.value)
      c.answer-played.ensures.plays c.answer-played.ensures.keeps c.answer-played.ensures.kept c.unwrap_or.ensures;
}
