use Rattle.std.proofs.Common.{◌≤◌, length, arith}
use Rattle.std.proofs.lemmas.Result.{err_from_is_err_and}
use Rattle.pdp_session.specs.Transfers.{transfer_line, transfers_head}
use Rattle.pdp_session.proofs.ListedLines.{lines_are_whole, lines_cut_at_head, lines_cut_at_item, lines_go_on}
use Rattle.pdp_session.proofs.reply.transfers.send_transfers.Goals as goal

pub returns-in_err-send : goal.returns-in_err-send
returns-in_err-send g c =
    let cut = rw (c.as_slice.ensures.value, c.transfers_head.ensures, c.len-count.ensures) at c.in_err-send.ensures in
    let (failed, is, same) = err_from_is_err_and c.from_residual.result c.from_residual.ensures.1 in
    rw is (lines_cut_at_head (transfers_head (length c.args.completions.now) c.args.more) transfer_line c.args.completions.now _ _ cut)

pub returns-in_err-send_transfer : goal.returns-in_err-send_transfer
returns-in_err-send_transfer g c =
    let (failed, is, same) = err_from_is_err_and c.from_residual-in_err-send_transfer.result c.from_residual-in_err-send_transfer.ensures.1 in
    rw is
    (lines_cut_at_item (transfers_head (length c.args.completions.now) c.args.more) transfer_line c.args.completions.now c.loop-index.index _ _ _
    c.loop-index.invariant c.in_err-send_transfer.ensures)

pub loop-index-preserved : goal.loop-index-preserved
loop-index-preserved g c =
    lines_go_on (transfers_head (length c.args.completions.now) c.args.more) transfer_line c.args.completions.now c.loop-index.index _ _ _
    c.loop-index.invariant c.in_ok-send_transfer.ensures

pub returns : goal.returns
returns g c =
    let all : length c.args.completions.now ≤ c.loop-index.index = omega (arith, c.len-count.ensures) in
    lines_are_whole (transfers_head (length c.args.completions.now) c.args.more) transfer_line c.args.completions.now c.loop-index.index _ _ all
    c.loop-index.invariant
