-- Processor modes: DEC PDP-11/40 Processor Handbook (1972), Memory management.
use Rattle.std.specs.Prelude.{ℕ, ◌==◌, if◌then◌else◌}
use Rattle.pdp_kt11.specs.declared.mode.Mode.{Mode}
use Rattle.pdp_kt11.specs.declared.mode.Mode.TheVariants.{Kernel, Bad1, Bad2, User}

-- the two bits of a mode in the program status word: 00 kernel, 11 user [2.3] [2.4]
abbrev pub mode_bits : Mode → ℕ
mode_bits Kernel = 0
mode_bits Bad1 = 1
mode_bits Bad2 = 2
mode_bits User = 3

-- the mode of two bits
unfoldable pub mode_of : ℕ → Mode
mode_of bits =
    if bits == 0 then Kernel
    else if bits == 1 then Bad1
    else if bits == 2 then Bad2
    else User
