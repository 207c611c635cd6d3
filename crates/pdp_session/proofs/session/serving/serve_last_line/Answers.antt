use Rattle.std.proofs.Common.{◌≡◌, ◌<◌, [], length, append-nil, rules}
use Rattle.pdp_session.specs.History.{pasts}
use Rattle.pdp_session.proofs.Pieces.{sent_nothing}
use Rattle.pdp_session.proofs.Reaching.{all_answered}
use Rattle.pdp_session.proofs.Served.{last_finishes}
use Rattle.pdp_session.proofs.session.serving.serve_last_line.Goals as goal

pub returns-then-is_empty : goal.returns-then-is_empty
returns-then-is_empty g c = λ past done out r.
    let none : length c.args.held.now.items ≡ 0 = search rules in
    record {
      more = [];
      sent = sent_nothing (g.W.Drain.output c.args.writer.now);
      answers = rw (append-nil out) (all_answered _ past done out c.args.held.now.items (pasts c.args.history.now) none r);
    }

pub returns : goal.returns
returns g c = λ past done out r.
    let some : 0 < length c.args.held.now.items = search rules in
    let serves = rw c.as_slice.ensures.value at c.serve_line.ensures in
    last_finishes _ past done out c.args.held.now.items (pasts c.args.history.now) _ _ _ _ some r serves
