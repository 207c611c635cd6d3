use Rattle.std.proofs.Common.{◌≡◌, ◌++◌, [], length, take, refl, sym, ◌∙◌, append_assoc, rules}
use Rattle.std.proofs.lemmas.Result.{err_from_is_err_and}
use Rattle.pdp_session.proofs.ByteLines.{bytes_parted, shown_head, bytes_cut_at_head, bytes_cut_within, bytes_go_on, bytes_end}
use Rattle.pdp_session.proofs.reply.bytes.send_bytes.Goals as goal

pub returns-in_err-send : goal.returns-in_err-send
returns-in_err-send g c =
    let cut = rw (c.as_slice.ensures.value, c.bytes_head.ensures) at c.in_err-send.ensures in
    let (failed, is, same) = err_from_is_err_and c.from_residual.result c.from_residual.ensures.1 in
    rw is (bytes_cut_at_head c.args.name.now c.args.bytes.now _ _ cut)

pub loop-rest-init : goal.loop-rest-init
loop-rest-init g c =
    let head = rw (c.as_slice.ensures.value, c.bytes_head.ensures) at c.in_ok-send.ensures in
    record {
      front = [];
      split = refl;
      writes = shown_head c.args.name.now c.args.bytes.now _ _ head;
    }

pub returns-in_err-send-2 : goal.returns-in_err-send-2
returns-in_err-send-2 g c =
    let before = c.loop-rest.invariant in
    let rest = c.loop-rest.rest.now in
    let n = c.min.result in
    let parted = bytes_parted c.args.bytes.now before.front rest c.split_at.result.1.now n before.split c.split_at.ensures.back in
    let cut = rw (c.as_slice-in-loop-rest.ensures.value, c.bytes_text.ensures, c.split_at.ensures.front) at c.in_err-send-2.ensures in
    let (failed, is, same) = err_from_is_err_and c.from_residual-in_err-send-2.result c.from_residual-in_err-send-2.ensures.1 in
    rw is
    (bytes_cut_within c.args.name.now c.args.bytes.now before.front (take n rest) c.split_at.result.1.now _ _ _ parted before.writes cut)

pub loop-rest-preserved : goal.loop-rest-preserved
loop-rest-preserved g c =
    let before = c.loop-rest.invariant in
    let rest = c.loop-rest.rest.now in
    let n = c.min.result in
    let parted = bytes_parted c.args.bytes.now before.front rest c.split_at.result.1.now n before.split c.split_at.ensures.back in
    let sent = rw (c.as_slice-in-loop-rest.ensures.value, c.bytes_text.ensures, c.split_at.ensures.front) at c.in_ok-send-2.ensures in
    record {
      front = before.front ++ take n rest;
      split = parted ∙ sym (append_assoc before.front (take n rest) c.split_at.result.1.now);
      writes = bytes_go_on c.args.name.now c.args.bytes.now before.front (take n rest) _ _ _ before.writes sent;
    }

pub returns : goal.returns
returns g c =
    let before = c.loop-rest.invariant in
    let none : length c.loop-rest.rest.now ≡ 0 = search rules in
    bytes_end c.args.name.now c.args.bytes.now before.front c.loop-rest.rest.now _ _ _ c.send-2.result before.split none before.writes c.send-2.ensures
