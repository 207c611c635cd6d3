use Rattle.std.proofs.Common.{ap}
use Rattle.pdp_replay.specs.Timeline.{Timeline}
use Rattle.pdp_session.proofs.TakenEdits.{word_exchanged}
use Rattle.pdp_session.proofs.history.before.exchange_word.Goals as goal

pub returns-in-Ok-clause-exchanged : goal.returns-in-Ok-clause-exchanged
returns-in-Ok-clause-exchanged c =
    word_exchanged c.args.word c.word_before-after.result c.args.engine.now.past c.restore_word.new.self.past c.requires
    c.word_before-after.ensures.once c.word_before-after.ensures.before (ap (λ (t : Timeline). t.past) c.in-Ok.ensures.after)
