use Rattle.std.proofs.Common.{◌≤◌, ap, arith, length}
use Rattle.std.proofs.lemmas.Result.{err_from_is_err_and}
use Rattle.pdp_session.specs.Reply.{found_line}
use Rattle.pdp_session.proofs.FoundLines.{found_are_whole, found_cut_at_head, found_cut_at_word, found_head}
use Rattle.pdp_session.proofs.ListedLines.{lines_go_on}
use Rattle.pdp_session.proofs.reply.states.send_found_words.Goals as goal

pub returns-in_err-send : goal.returns-in_err-send
returns-in_err-send g c =
    let cut = rw (c.as_slice.ensures.value, c.listed_head.ensures, c.search_name.ensures.name, c.items-numbers.ensures) at c.in_err-send.ensures in
    let (failed, is, same) = err_from_is_err_and c.from_residual.result c.from_residual.ensures.1 in
    rw is (found_cut_at_head c.args.place c.args.found.now _ _ cut)

pub returns-in_err-send_number : goal.returns-in_err-send_number
returns-in_err-send_number g c =
    let cut = rw c.items-numbers.ensures at c.in_err-send_number.ensures in
    let (failed, is, same) = err_from_is_err_and c.from_residual-in_err-send_number.result c.from_residual-in_err-send_number.ensures.1 in
    rw is (found_cut_at_word c.args.place c.args.found.now c.loop-index.index _ _ _ c.loop-index.invariant cut)

pub loop-index-preserved : goal.loop-index-preserved
loop-index-preserved g c =
    let sent = rw c.items-numbers.ensures at c.in_ok-send_number.ensures in
    lines_go_on (found_head c.args.place c.args.found.now) (found_line c.args.place) c.args.found.now.numbers c.loop-index.index _ _ _ c.loop-index.invariant sent

pub returns : goal.returns
returns g c =
    let size = ap length c.items-numbers.ensures in
    let all : length c.args.found.now.numbers ≤ c.loop-index.index = omega (arith, size, c.loop-index-test.false) in
    found_are_whole c.args.place c.args.found.now c.loop-index.index _ _ all c.loop-index.invariant
