use Rattle.pdp_session.specs.History.{pasts}
use Rattle.pdp_session.proofs.ServedLines.{made_search}
use Rattle.pdp_session.proofs.session.serving.serve_search.Goals as goal

pub returns : goal.returns
returns g c = λ language.
    made_search language c.args.search (pasts c.args.history.now) _ c.find-found.result _ _ _ c.find-found.ensures.finding c.find-found.ensures.pasts c.send_found.ensures
