use Rattle.std.proofs.Common.{ap}
use Rattle.pdp_operand.specs.Phases.World.{World}
use Rattle.pdp_replay.specs.Past.{Past, past_from}
use Rattle.pdp_replay.specs.Past.Setup.{setup_from}
use Rattle.pdp_replay.proofs.past.EditedDelays.{engine_with_tape}
use Rattle.pdp_replay.proofs.engine.Engine.restore_tape.Goals as goal

pub invariant_of-self : goal.invariant_of-self
invariant_of-self c =
    let old = c.self.inside in
    let run = c.set_tape.new.self in
    let p : Past = past_from old.base_setup old.run.machine.state.world.bus.tape old.delays old.patches old.script in
    let q : Past = past_from old.base_setup run.machine.state.world.bus.tape old.delays old.patches old.script in
    let set = c.set_tape.ensures in
    engine_with_tape p q c.args.tape.items old.highest old.run run c.self.invariant
    (ap (λ (w : World). setup_from old.base_setup w.bus.tape old.delays old.patches) set.world) set.forgotten set.ladder set.world
