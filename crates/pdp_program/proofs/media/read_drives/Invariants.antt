use Rattle.std.proofs.Common.{◌≡◌, map, option_map, string_bytes}
use Rattle.pdp_program.specs.Media.{EachIsFileOf, most_of_disk}
use Rattle.pdp_program.proofs.media.read_drives.Given as goal

abbrev pub invariant-loop-name : goal.invariant-loop-name
invariant-loop-name g l =
    EachIsFileOf (g.F.Files.contents l.fn.files) most_of_disk (map (λ name. option_map string_bytes name) l.yielded) (map (λ bytes. bytes.items) l.drives.items)
    × (g.F.Files.contents l.files ≡ g.F.Files.contents l.fn.files)
