use Rattle.replay.proofs.Input.{replayed_text}
use Rattle.replay.proofs.replaying.replay.Goals as goal

pub returns : goal.returns
returns g c = record {
  replays = replayed_text c.play_text.result (g.R.Read.remaining c.args.reader) _ _ c.in_ok-text.text.items _ c.in_ok-text.ensures.text
      c.as_slice.ensures.value c.play_text.ensures.replays;
}
