use Rattle.std.proofs.Common.{ap}
use Rattle.pdp_operand.specs.Phases.World.{World}
use Rattle.pdp_replay.specs.Past.{Past, past_from}
use Rattle.pdp_replay.specs.Past.Setup.{setup_from}
use Rattle.pdp_replay.proofs.past.EditedDelays.{engine_delayed}
use Rattle.pdp_replay.proofs.engine.Engine.restore_delays.Goals as goal

pub invariant_of-self : goal.invariant_of-self
invariant_of-self c =
    let old = c.self.inside in
    let run = c.set_delays.new.self in
    let delays = c.args.delays in
    let p : Past = past_from old.base_setup old.run.machine.state.world.bus.tape old.delays old.patches old.script in
    let q : Past = past_from old.base_setup run.machine.state.world.bus.tape delays old.patches old.script in
    let set = c.set_delays.ensures in
    engine_delayed p q delays old.highest old.run run c.self.invariant
    (ap (λ (w : World). setup_from old.base_setup w.bus.tape delays old.patches) set.world) set.forgotten set.ladder set.world
