use Rattle.std.proofs.Common.{◌≡◌, [], false, rules}
use Rattle.pdp_session.specs.History.{pasts}
use Rattle.pdp_session.proofs.Pieces.{sent_nothing}
use Rattle.pdp_session.specs.Lines.{is_line_feed}
use Rattle.pdp_session.proofs.Reaching.{byte_reached}
use Rattle.pdp_session.proofs.Served.{line_moves}
use Rattle.pdp_session.proofs.session.serving.take_byte.Goals as goal

pub returns-then-byte-ne10 : goal.returns-then-byte-ne10
returns-then-byte-ne10 g c = λ past done out r.
    let goes_on : is_line_feed c.args.byte ≡ false = search rules in
    record {
      more = [];
      sent = sent_nothing (g.W.Drain.output c.args.writer.now);
      reached = rw c.hold.ensures (byte_reached _ past done out c.args.held.now.items (pasts c.args.history.now) c.args.byte goes_on r);
    }

pub returns : goal.returns
returns g c = λ past done out r.
    let serves = rw (c.without_return-line.ensures, c.as_slice.ensures.value) at c.serve_line-sent.ensures in
    rw (c.if-byte-ne10.false, c.clear.ensures) (line_moves _ past done out c.args.held.now.items (pasts c.args.history.now) _ _ _ _ r serves)
