use Rattle.std.proofs.Common.{arith, rules}
use Rattle.pdp_session.proofs.ImageWords.{image_is_read}
use Rattle.pdp_session.proofs.image.read_image.Goals as goal

pub returns : goal.returns
returns c =
    image_is_read c.args.bytes.now c.read_u16_into.new.dst c.in_ok-words.words.items c.in_ok-words.words.len
    (omega arith) (search rules) (search rules) (search rules) c.read_u16_into.ensures
