use Rattle.std.proofs.Common.{◌-◌, ◌≡◌, refl, subst}
use Rattle.pdp_replay.specs.Past.{Past, past_from}
use Rattle.pdp_replay.specs.Timeline.{Timeline}
use Rattle.pdp_replay.specs.Ask.Accesses.{accesses_end, details_in_turns}
use Rattle.pdp_replay.proofs.engine.Engine.accesses.Goals as goal

pub returns-clause-value : goal.returns-clause-value
returns-clause-value c =
    let e = c.self.inside in
    let p : Past = past_from e.base_setup e.run.machine.state.world.bus.tape e.delays e.patches e.script in
    let value = c.in_ok-value.value in
    let first = c.args.turn - c.args.count in
    rw c.of.ensures.value (
    subst (λ (t : Timeline). value.details.items ≡ details_in_turns t.past first (value.reached - first)) c.self.view_is
    (c.in_ok-value.ensures.details p (record { same = refl; run = c.self.invariant.run; units = refl; drives = refl })))

pub returns-clause-reached : goal.returns-clause-reached
returns-clause-reached c =
    let e = c.self.inside in
    let p : Past = past_from e.base_setup e.run.machine.state.world.bus.tape e.delays e.patches e.script in
    let value = c.in_ok-value.value in
    let first = c.args.turn - c.args.count in
    rw c.of.ensures.value (
    subst (λ (t : Timeline). value.reached ≡ accesses_end t.past first c.args.turn) c.self.view_is
    (c.in_ok-value.ensures.reached p (record { same = refl; run = c.self.invariant.run; units = refl; drives = refl })))
