use Rattle.std.proofs.Common.{subst}
use Rattle.pdp_replay.specs.Run.Checkpoints.{ShowsTexts}
use Rattle.pdp_replay.specs.Past.{Past, past_from}
use Rattle.pdp_replay.specs.Timeline.{Timeline}
use Rattle.pdp_replay.proofs.run.KeptTexts.{texts_shown}
use Rattle.pdp_replay.proofs.engine.Engine.machine.Goals as goal

pub returns-clause-shown : goal.returns-clause-shown
returns-clause-shown c =
    let engine = c.self.inside in
    let p : Past = past_from engine.base_setup engine.run.machine.state.world.bus.tape engine.delays engine.patches engine.script in
    subst (λ (t : Timeline). ShowsTexts t.past t.known engine.run.machine) c.self.view_is
    (texts_shown p engine.run.known engine.run.machine c.self.invariant.run.kept.texts)
