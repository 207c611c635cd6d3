use Rattle.std.proofs.Common.{ap}
use Rattle.pdp_session.specs.History.{pasts}
use Rattle.pdp_session.proofs.ServedLines.{served_command}
use Rattle.pdp_session.proofs.session.serving.serve_command.Goals as goal

pub returns : goal.returns
returns g c =
    served_command _ c.args.command (pasts c.args.history.now) _ c.run-reply.result _ _ _ _ c.run-reply.ensures.reply c.run-reply.ensures.after
    (ap (λ t. t.past) c.engine.ensures) c.send_reply.ensures
