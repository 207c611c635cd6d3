use Rattle.std.proofs.Common.{◌<◌, ◌∙◌, length, arith}
use Rattle.pdp_session.proofs.ByteLines.{no_byte_texts, one_more_text}
use Rattle.pdp_session.proofs.reply.bytes.bytes_text.Goals as goal

pub loop-byte-init : goal.loop-byte-init
loop-byte-init c = record {
  shown = c.new-text.ensures ∙ no_byte_texts;
  room = rw c.new-text.ensures (omega arith);
}

pub loop-byte-preserved : goal.loop-byte-preserved
loop-byte-preserved c =
    let within : c.loop-byte.byte-index < length c.args.bytes.now = omega arith in
    record {
      shown = c.add_byte.ensures.byte_text ∙ one_more_text c.args.bytes.now c.loop-byte.text.items c.loop-byte.byte-index within c.loop-byte.invariant.shown;
      room = omega (arith, c.add_byte.ensures.length, c.loop-byte.invariant.room);
    }
