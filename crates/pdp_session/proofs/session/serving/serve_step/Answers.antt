use Rattle.std.proofs.Common.{ap}
use Rattle.pdp_session.specs.History.{pasts}
use Rattle.pdp_session.proofs.ServedLines.{served_step}
use Rattle.pdp_session.proofs.session.serving.serve_step.Goals as goal

pub returns : goal.returns
returns g c = λ language.
    served_step language c.args.step (pasts c.args.history.now) _ c.step-reply.result _ _ _ _ c.step-reply.ensures.reply c.step-reply.ensures.after
    (ap (λ t. t.past) c.engine.ensures) c.send_reply.ensures
