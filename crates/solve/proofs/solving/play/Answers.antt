use Rattle.std.proofs.Common.{◌≡◌, refl, sym, ap, ◌∙◌}
use Rattle.limits.specs.Limits.{program_places, program_steps}
use Rattle.guides.specs.Ranks.{longest_first}
use Rattle.histories.specs.States.{unopened}
use Rattle.histories.specs.Calls.{opens, opened, loads, loaded, runs, ran}
use Rattle.session.specs.Sessions.{state, places}
use Rattle.session.proofs.Calls.{retold}
use Rattle.solve.proofs.Playing.{ran_so, solved_so}
use Rattle.solve.proofs.solving.play.Goals as goal

pub returns : goal.returns
returns c =
    let text = c.args.text.now in
    let n = c.in_ok-variables.variables in
    let new = c.args.session.now in
    let a = c.open.new.self in
    let b = c.load.new.self in
    let d = c.run.new.self in
    let count : places new ≡ program_places = c.requires.places in
    let count_a : places a ≡ program_places = c.open.ensures.keeps.count ∙ count in
    let count_b : places b ≡ program_places = c.load.ensures.keeps.count ∙ count_a in
    let e = retold _ program_places _ unopened (state a) (opens n 0) _ _ count c.requires.unopened (ap opened c.in_ok-open.was) c.open.ensures.guaranteed.does_so in
    let f = retold _ program_places _ (state a) (state b) (loads text) _ _ count_a refl (ap loaded c.in_ok-load.was) c.load.ensures.guaranteed.does_so in
    let g = retold _ program_places _ (state b) (state d) (runs longest_first program_steps) _ _ count_b refl (ap ran c.in_ok-ran.was) c.run.ensures.guaranteed.does_so in
    let h = sym c.head.ensures.value ∙ c.in_ok-variables.was in
    record {
      value = sym (solved_so text n c.in_ok-variables.field-0-1 c.if-text-gt-PROGRAM_BYTES.false h ∙ ran_so text n (state a) (state b) (state d) _ _ _ e f g);
    }
