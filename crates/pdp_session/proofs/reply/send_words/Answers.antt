use Rattle.std.proofs.Common.{◌<◌, ◌≤◌, length, arith}
use Rattle.std.proofs.lemmas.Result.{err_from_is_err_and}
use Rattle.pdp_session.proofs.WordLines.{words_cut_at_name, words_cut_at_word, words_goes_on, words_ends}
use Rattle.pdp_session.proofs.reply.send_words.Goals as goal

pub returns-in_err-send : goal.returns-in_err-send
returns-in_err-send g c =
    let cut = rw c.as_bytes.ensures.value at c.in_err-send.ensures in
    let (failed, is, same) = err_from_is_err_and c.from_residual.result c.from_residual.ensures.1 in
    rw is (words_cut_at_name c.args.name.now c.args.words.now _ _ cut)

pub returns-in_err-send-2 : goal.returns-in_err-send-2
returns-in_err-send-2 g c =
    let within : c.loop-word.word-index < length c.args.words.now = omega arith in
    let cut = rw (c.as_slice.ensures.value, c.word_text.ensures) at c.in_err-send-2.ensures in
    let (failed, is, same) = err_from_is_err_and c.from_residual-in_err-send-2.result c.from_residual-in_err-send-2.ensures.1 in
    rw is
    (words_cut_at_word c.args.name.now c.args.words.now c.loop-word.word-index _ _ _ within c.loop-word.invariant cut)

pub loop-word-preserved : goal.loop-word-preserved
loop-word-preserved g c =
    let within : c.loop-word.word-index < length c.args.words.now = omega arith in
    let sent = rw (c.as_slice.ensures.value, c.word_text.ensures) at c.in_ok-send-2.ensures in
    words_goes_on c.args.name.now c.args.words.now c.loop-word.word-index _ _ _ within c.loop-word.invariant sent

pub returns : goal.returns
returns g c =
    let all : length c.args.words.now ≤ c.loop-word.word-index = omega arith in
    words_ends c.args.name.now c.args.words.now c.loop-word.word-index _ _ _ c.send-2.result all c.loop-word.invariant c.send-2.ensures
