use Rattle.solve.specs.Answers.{output}
use Rattle.std.proofs.Common.{replicate, ap, ◌∙◌}
use Rattle.solve.proofs.Input.{answered}
use Rattle.solve.proofs.Told.{taken_back}
use Rattle.solve.proofs.streams.converse.Goals as goal

pub returns-in-Ok-write_all-clause-answered : goal.returns-in-Ok-write_all-clause-answered
returns-in-Ok-write_all-clause-answered g c =
    let text = c.as_slice.result.now in
    let told = taken_back (output text) (replicate 274 0) c.answer-length.new.buffer c.answer-length.result c.answer-length.ensures.value in
    answered (g.R.Read.remaining c.args.reader) _ _ c.in-Ok.text.items _ c.in-Ok.ensures.text
    (told ∙ ap output c.as_slice.ensures.value) c.in-Ok-write_all.ensures.bytes
