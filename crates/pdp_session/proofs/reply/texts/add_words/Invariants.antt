use Rattle.std.proofs.Common.{◌≡◌, ◌+◌, ◌*◌, ◌++◌, length, take}
use Rattle.pdp_session.specs.Reply.{word_texts}
use Rattle.pdp_session.proofs.reply.texts.add_words.Given as goal

abbrev pub invariant-loop-word : goal.invariant-loop-word
invariant-loop-word l = record {
  shown : l.text.items ≡ l.fn.text.items ++ word_texts (take l.word-index l.words);
  room : length l.text.items ≡ length l.fn.text.items + 7 * l.word-index;
}
