use Rattle.replay.proofs.Input.{read_limited}
use Rattle.replay.proofs.replaying.read_text.Goals as goal

pub returns : goal.returns
returns g c = record {
  text = read_limited g.R.Read.remaining c.take.result c.args.reader c.new-text.result.items c.read_to_end.new.buf.items c.take.ensures.limit c.take.ensures.inner c.new-text.ensures.items
      c.in_ok-read_to_end.ensures.bytes;
}
