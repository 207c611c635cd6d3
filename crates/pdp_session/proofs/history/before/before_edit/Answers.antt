use Rattle.std.proofs.Common.{◌∙◌, ap}
use Rattle.pdp_replay.specs.Past.Restored.{word_before}
use Rattle.pdp_session.proofs.TakenEdits.{delay_takes, reversion_takes, tape_takes}
use Rattle.pdp_session.proofs.history.before.before_edit.Goals as goal

pub returns-in-RevertCore : goal.returns-in-RevertCore
returns-in-RevertCore c = λ new due.
    let past = c.args.engine.now.past in
    reversion_takes c.in-RevertCore.address c.word_before.result past new c.word_before.ensures.once
    (c.word_before.ensures.before ∙ ap (λ at. word_before at past.setup.patches) c.core_word.ensures) (rw c.in-RevertCore.is at due)

pub returns-in_ok-from_slice-in-SetTape : goal.returns-in_ok-from_slice-in-SetTape
returns-in_ok-from_slice-in-SetTape c = λ new due.
    tape_takes c.in-SetTape.field-0.items c.in_ok-from_slice-in-SetTape.field-0 c.args.engine.now.past new
    (c.in_ok-from_slice-in-SetTape.ensures.items ∙ c.tape.ensures) (rw c.in-SetTape.is at due)

pub returns-in-SetDelay : goal.returns-in-SetDelay
returns-in-SetDelay c = λ new due.
    delay_takes c.in-SetDelay.device c.in-SetDelay.delay c.setup.result.delays c.args.engine.now.past new (ap (λ numbers. numbers.delays) c.setup.ensures)
    (rw c.in-SetDelay.is at due)
