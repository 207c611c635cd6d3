use Rattle.std.proofs.Common.{◌-◌, ◌≡◌, ◌∙◌, ap, arith, refl, subst}
use Rattle.pdp_replay.specs.Past.{Past, past_from}
use Rattle.pdp_replay.specs.Timeline.{Timeline}
use Rattle.pdp_replay.specs.Ask.MovesListed.{moves_in_turns}
use Rattle.pdp_replay.proofs.engine.Engine.moves.Goals as goal

pub returns-clause-value : goal.returns-clause-value
returns-clause-value c =
    let e = c.self.inside in
    let p : Past = past_from e.base_setup e.run.machine.state.world.bus.tape e.delays e.patches e.script in
    let value = c.in_ok-value.value in
    let turn = c.args.turn in
    let first = turn - c.args.count in
    let within = c.in_ok-check.ensures.within in
    let all : turn - first ≡ c.args.count = omega (arith, within) in
    rw c.of.ensures.value (
    subst (λ (t : Timeline). value.items ≡ moves_in_turns t.past first c.args.count) c.self.view_is
    (c.in_ok-value.ensures.moves p (record { same = refl; run = c.self.invariant.run; units = refl; drives = refl })
    ∙ ap (moves_in_turns p first) all))
