use Rattle.std.proofs.Common.{ap}
use Rattle.pdp_replay.specs.Timeline.{Timeline}
use Rattle.pdp_session.proofs.TakenEdits.{event_exchanged}
use Rattle.pdp_session.proofs.history.before.exchange_event.Goals as goal

pub returns-in-Ok-clause-exchanged : goal.returns-in-Ok-clause-exchanged
returns-in-Ok-clause-exchanged c =
    event_exchanged c.args.event c.event_before-after.result c.args.engine.now.past c.restore_event.new.self.past c.requires.0
    c.event_before-after.ensures.script c.event_before-after.ensures.before (ap (λ (t : Timeline). t.past) c.in-Ok.ensures.after)
