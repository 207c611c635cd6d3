use Rattle.std.proofs.Common.{◌≤◌, length, arith}
use Rattle.std.proofs.lemmas.Result.{err_from_is_err_and}
use Rattle.pdp_session.specs.Accesses.{accesses_head, detail_line}
use Rattle.pdp_session.proofs.ListedLines.{accesses_are_whole, accesses_cut_at_detail, accesses_cut_at_head, lines_go_on}
use Rattle.pdp_session.proofs.reply.accesses.send_accesses.Goals as goal

pub returns-in_err-send : goal.returns-in_err-send
returns-in_err-send g c =
    let cut = rw (c.as_slice.ensures.value, c.accesses_head.ensures, c.len-count.ensures) at c.in_err-send.ensures in
    let (failed, is, same) = err_from_is_err_and c.from_residual.result c.from_residual.ensures.1 in
    rw is (accesses_cut_at_head c.args.details.now c.args.more _ _ cut)

pub returns-in_err-send_detail : goal.returns-in_err-send_detail
returns-in_err-send_detail g c =
    let (failed, is, same) = err_from_is_err_and c.from_residual-in_err-send_detail.result c.from_residual-in_err-send_detail.ensures.1 in
    rw is
    (accesses_cut_at_detail c.args.details.now c.args.more c.loop-index.index _ _ _ c.loop-index.invariant c.in_err-send_detail.ensures)

pub loop-index-preserved : goal.loop-index-preserved
loop-index-preserved g c =
    lines_go_on (accesses_head (length c.args.details.now) c.args.more) detail_line c.args.details.now c.loop-index.index _ _ _ c.loop-index.invariant c.in_ok-send_detail.ensures

pub returns : goal.returns
returns g c =
    let all : length c.args.details.now ≤ c.loop-index.index = omega (arith, c.len-count.ensures) in
    accesses_are_whole c.args.details.now c.args.more c.loop-index.index _ _ all c.loop-index.invariant
