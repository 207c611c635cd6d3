use Rattle.std.proofs.Common.{ap, subst, sym}
use Rattle.pdp_operand.specs.Phases.World.{World}
use Rattle.pdp_script.specs.Refusal.{for_memory}
use Rattle.pdp_replay.specs.Past.{Past, past_from}
use Rattle.pdp_replay.specs.Past.Setup.{setup_from}
use Rattle.pdp_replay.proofs.past.EditedEngines.{engine_edited}
use Rattle.pdp_replay.proofs.past.EditedStates.{SameAfter, SameBefore, same_after_insertion, same_before_insertion}
use Rattle.pdp_replay.proofs.engine.Engine.insert.Goals as goal

pub invariant_of-self-2 : goal.invariant_of-self-2
invariant_of-self-2 c =
    let old = c.self.inside in
    let run = c.lower.new.self in
    let script = c.insert.new.self in
    let turn = c.args.turn in
    let p : Past = past_from old.base_setup old.run.machine.state.world.bus.tape old.delays old.patches old.script in
    let q : Past = past_from old.base_setup run.machine.state.world.bus.tape old.delays old.patches script in
    let lower = c.lower.ensures in
    let same : SameBefore turn old.script script =
    subst (SameBefore turn old.script) (sym c.insert.ensures.after) (same_before_insertion turn c.args.event (for_memory c.insert.result) old.script) in
    let later : SameAfter turn old.script script =
    subst (SameAfter turn old.script) (sym c.insert.ensures.after) (same_after_insertion turn c.args.event (for_memory c.insert.result) old.script) in
    engine_edited p q turn turn old.highest old.run run c.self.invariant
    (ap (λ (w : World). setup_from old.base_setup w.bus.tape old.delays old.patches) (sym lower.world)) same later lower.formers lower.known lower.stride
    (lower.run p c.self.invariant.run)
