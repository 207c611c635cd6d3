-- Bits by their numbers in the handbook: bit 0 is the lowest
-- (DEC PDP-11/40 Processor Handbook (1972), Processor status word).
use Rattle.std.specs.Prelude.{ℕ, ◌/◌, ◌%◌, ◌^◌, ◌==◌, Bool, if◌then◌else◌}

-- a flag as the bit that shows it
abbrev pub bit_of : Bool → ℕ
bit_of flag = if flag then 1 else 0

-- so many bits of a word, from the lowest of them up: `field 14 2 word` is bits 15-14
abbrev pub field : ℕ → ℕ → ℕ → ℕ
field lowest width word = word / 2 ^ lowest % 2 ^ width

-- whether a word has the bit of this number
abbrev pub has_bit : ℕ → ℕ → Bool
has_bit place word = field place 1 word == 1
