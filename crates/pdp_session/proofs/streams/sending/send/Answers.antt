use Rattle.std.proofs.Common.{◌≡◌, ◌++◌, take, sym, ap, ◌∙◌, append_assoc, take-append-drop, rules}
use Rattle.pdp_session.proofs.Pieces.{sent_then}
use Rattle.pdp_session.proofs.streams.sending.send.Goals as goal

pub loop-rest-preserved : goal.loop-rest-preserved
loop-rest-preserved g c =
    let before = c.loop-rest.invariant in
    let rest = c.loop-rest.rest.now in
    let n = c.in_ok-taken.taken in
    let cut : rest ≡ take n rest ++ c.split_at.result.1.now = sym (take-append-drop n rest) ∙ ap (λ back. take n rest ++ back) (sym c.split_at.ensures.back) in
    record {
      front = before.front ++ take n rest;
      split = before.split ∙ ap (λ back. before.front ++ back) cut ∙ sym (append_assoc before.front (take n rest) c.split_at.result.1.now);
      sent = sent_then before.front (take n rest) _ _ _ before.sent (record { writes = c.in_ok-taken.ensures.bytes; sound = search rules });
    }
