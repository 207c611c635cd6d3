use Rattle.std.proofs.Common.{◌≤◌, length, codes, arith}
use Rattle.std.proofs.lemmas.Result.{err_from_is_err_and}
use Rattle.pdp_session.specs.MoveLines.{move_line}
use Rattle.pdp_session.proofs.ListedLines.{list_cut_at_count, list_cut_at_item, list_goes_on, list_is_whole}
use Rattle.pdp_session.proofs.reply.moves.send_moves.Goals as goal

pub returns-in_err-send : goal.returns-in_err-send
returns-in_err-send g c =
    let cut = rw (c.as_slice.ensures.value, c.count_text.ensures, c.len-count.ensures) at c.in_err-send.ensures in
    let (failed, is, same) = err_from_is_err_and c.from_residual.result c.from_residual.ensures.1 in
    rw is (list_cut_at_count (codes "moves") move_line c.args.details.now _ _ cut)

pub returns-in_err-send_move : goal.returns-in_err-send_move
returns-in_err-send_move g c =
    let (failed, is, same) = err_from_is_err_and c.from_residual-in_err-send_move.result c.from_residual-in_err-send_move.ensures.1 in
    rw is
    (list_cut_at_item (codes "moves") move_line c.args.details.now c.loop-index.index _ _ _ c.loop-index.invariant c.in_err-send_move.ensures)

pub loop-index-preserved : goal.loop-index-preserved
loop-index-preserved g c =
    list_goes_on (codes "moves") move_line c.args.details.now c.loop-index.index _ _ _ c.loop-index.invariant c.in_ok-send_move.ensures

pub returns : goal.returns
returns g c =
    let all : length c.args.details.now ≤ c.loop-index.index = omega (arith, c.len-count.ensures) in
    list_is_whole (codes "moves") move_line c.args.details.now c.loop-index.index _ _ all c.loop-index.invariant
