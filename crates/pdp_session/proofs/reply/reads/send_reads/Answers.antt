use Rattle.std.proofs.Common.{◌≤◌, length, arith}
use Rattle.std.proofs.lemmas.Result.{err_from_is_err_and}
use Rattle.pdp_session.specs.Search.{read_line, reads_head}
use Rattle.pdp_session.proofs.ListedLines.{lines_go_on, reads_are_whole, reads_cut_at_head, reads_cut_at_read}
use Rattle.pdp_session.proofs.reply.reads.send_reads.Goals as goal

pub returns-in_err-send : goal.returns-in_err-send
returns-in_err-send g c =
    let cut = rw (c.as_slice.ensures.value, c.reads_head.ensures, c.len-count.ensures) at c.in_err-send.ensures in
    let (failed, is, same) = err_from_is_err_and c.from_residual.result c.from_residual.ensures.1 in
    rw is (reads_cut_at_head c.args.reads.now c.args.more _ _ cut)

pub returns-in_err-send_read : goal.returns-in_err-send_read
returns-in_err-send_read g c =
    let (failed, is, same) = err_from_is_err_and c.from_residual-in_err-send_read.result c.from_residual-in_err-send_read.ensures.1 in
    rw is
    (reads_cut_at_read c.args.reads.now c.args.more c.loop-index.index _ _ _ c.loop-index.invariant c.in_err-send_read.ensures)

pub loop-index-preserved : goal.loop-index-preserved
loop-index-preserved g c =
    lines_go_on (reads_head (length c.args.reads.now) c.args.more) read_line c.args.reads.now c.loop-index.index _ _ _ c.loop-index.invariant c.in_ok-send_read.ensures

pub returns : goal.returns
returns g c =
    let all : length c.args.reads.now ≤ c.loop-index.index = omega (arith, c.len-count.ensures) in
    reads_are_whole c.args.reads.now c.args.more c.loop-index.index _ _ all c.loop-index.invariant
