use Rattle.std.proofs.Common.{◌≤◌, length, codes, arith}
use Rattle.std.proofs.lemmas.Result.{err_from_is_err_and}
use Rattle.pdp_session.specs.Search.{count_shown}
use Rattle.pdp_session.proofs.CountLines.{counts_cut_at_count, counts_cut_at_name, counts_end}
use Rattle.pdp_session.proofs.ListedLines.{lines_go_on}
use Rattle.pdp_session.proofs.reply.counts.send_counts.Goals as goal

pub returns-in_err-send : goal.returns-in_err-send
returns-in_err-send g c =
    let (failed, is, same) = err_from_is_err_and c.from_residual.result c.from_residual.ensures.1 in
    rw is (counts_cut_at_name c.args.counts.now _ _ c.in_err-send.ensures)

pub returns-in_err-send_count : goal.returns-in_err-send_count
returns-in_err-send_count g c =
    let (failed, is, same) = err_from_is_err_and c.from_residual-in_err-send_count.result c.from_residual-in_err-send_count.ensures.1 in
    rw is (counts_cut_at_count c.args.counts.now c.loop-index.index _ _ _ c.loop-index.invariant c.in_err-send_count.ensures)

pub loop-index-preserved : goal.loop-index-preserved
loop-index-preserved g c =
    lines_go_on (codes "counts") count_shown c.args.counts.now c.loop-index.index _ _ _ c.loop-index.invariant c.in_ok-send_count.ensures

pub returns : goal.returns
returns g c =
    let all : length c.args.counts.now ≤ c.loop-index.index = omega (arith, c.len-index-end.ensures) in
    counts_end c.args.counts.now c.loop-index.index _ _ _ c.send-2.result all c.loop-index.invariant c.send-2.ensures
