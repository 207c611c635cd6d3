use Rattle.pdp_session.proofs.TakenEdits.{number_takes}
use Rattle.pdp_session.proofs.history.before.before_script_edit.Goals as goal

pub returns : goal.returns
returns c =
    number_takes c.args.edit c.event_before.result c.number_edited.result c.args.engine.now.past c.event_before.ensures.script c.number_edited.ensures
    c.event_before.ensures.before
