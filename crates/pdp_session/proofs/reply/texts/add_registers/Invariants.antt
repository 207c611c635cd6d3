use Rattle.std.proofs.Common.{◌≡◌, ◌+◌, ◌*◌, ◌++◌, ◌≤◌, length, take}
use Rattle.pdp_unibus.specs.Handbook.Shown.{shown_names}
use Rattle.pdp_session.specs.Reply.{named_word_texts}
use Rattle.pdp_session.proofs.reply.texts.add_registers.Given as goal

abbrev pub invariant-loop-index : goal.invariant-loop-index
invariant-loop-index l = record {
  shown : l.text.items ≡ l.fn.text.items ++ named_word_texts (take l.index shown_names) (take l.index l.word-items);
  room : length l.text.items ≤ length l.fn.text.items + 12 * l.index;
}
