use Rattle.std.proofs.Common.{◌∙◌, ap}
use Rattle.pdp_replay.specs.Past.Restored.{word_before}
use Rattle.pdp_session.proofs.TakenEdits.{patch_takes}
use Rattle.pdp_session.proofs.history.before.before_past_edit.Goals as goal

pub returns-in-Word : goal.returns-in-Word
returns-in-Word c = λ new due.
    let past = c.args.engine.now.past in
    patch_takes c.in-Word.patch c.word_before.result past new (c.word_before.ensures.before ∙ ap (λ at. word_before at past.setup.patches) c.word_of.ensures)
    (rw c.in-Word.is at due)
