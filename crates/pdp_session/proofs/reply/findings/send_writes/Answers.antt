use Rattle.std.proofs.Common.{◌≤◌, length, arith}
use Rattle.std.proofs.lemmas.Result.{err_from_is_err_and}
use Rattle.pdp_session.specs.Search.{write_line, writes_head}
use Rattle.pdp_session.proofs.ListedLines.{lines_go_on, writes_are_whole, writes_cut_at_head, writes_cut_at_write}
use Rattle.pdp_session.proofs.reply.findings.send_writes.Goals as goal

pub returns-in_err-send : goal.returns-in_err-send
returns-in_err-send g c =
    let cut = rw (c.as_slice.ensures.value, c.writes_head.ensures, c.len-count.ensures) at c.in_err-send.ensures in
    let (failed, is, same) = err_from_is_err_and c.from_residual.result c.from_residual.ensures.1 in
    rw is (writes_cut_at_head c.args.writes.now c.args.more _ _ cut)

pub returns-in_err-send_write : goal.returns-in_err-send_write
returns-in_err-send_write g c =
    let (failed, is, same) = err_from_is_err_and c.from_residual-in_err-send_write.result c.from_residual-in_err-send_write.ensures.1 in
    rw is
    (writes_cut_at_write c.args.writes.now c.args.more c.loop-index.index _ _ _ c.loop-index.invariant c.in_err-send_write.ensures)

pub loop-index-preserved : goal.loop-index-preserved
loop-index-preserved g c =
    lines_go_on (writes_head (length c.args.writes.now) c.args.more) write_line c.args.writes.now c.loop-index.index _ _ _ c.loop-index.invariant c.in_ok-send_write.ensures

pub returns : goal.returns
returns g c =
    let all : length c.args.writes.now ≤ c.loop-index.index = omega (arith, c.len-count.ensures) in
    writes_are_whole c.args.writes.now c.args.more c.loop-index.index _ _ all c.loop-index.invariant
