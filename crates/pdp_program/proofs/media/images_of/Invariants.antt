use Rattle.std.proofs.Common.{◌≡◌, map, Ok}
use Rattle.pdp_session.specs.Image.{image_read}
use Rattle.pdp_program.proofs.media.images_of.Given as goal

abbrev pub invariant-loop-bytes : goal.invariant-loop-bytes
invariant-loop-bytes l = map image_read (map (λ bytes. bytes.items) l.yielded) ≡ map Ok (map (λ words. words.items) l.drives.items)
