use Rattle.std.proofs.Common.{◌<◌, length, arith, rules}
use Rattle.std.specs.List.{position_or_len}
use Rattle.pdp_session.specs.Grammar.Words.{is_blank}
use Rattle.pdp_session.proofs.WordLists.{first_word_has_bytes}
use Rattle.pdp_session.proofs.grammar.words.next_word.Goals as goal

pub returns-clause-shorter : goal.returns-clause-shorter
returns-clause-shorter c =
    let text = c.skip_blanks-text.result.now in
    let some : 0 < length text = search rules in
    let word : 0 < position_or_len is_blank text = first_word_has_bytes text c.skip_blanks-text.ensures.first some in
    omega (arith, word, c.word_length.ensures, c.split_at.ensures.back_len, c.skip_blanks-text.ensures.length)
