use Rattle.std.proofs.Common.{◌≡◌, ◌*◌, ◌≤◌, length, take}
use Rattle.pdp_session.specs.Reply.{byte_texts}
use Rattle.pdp_session.proofs.reply.bytes.bytes_text.Given as goal

abbrev pub invariant-loop-byte : goal.invariant-loop-byte
invariant-loop-byte l = record {
  shown : l.text.items ≡ byte_texts (take l.byte-index l.bytes);
  room : length l.text.items ≤ 4 * l.byte-index;
}
