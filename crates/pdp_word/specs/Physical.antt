-- Physical addresses, those of the bus: DEC PDP-11/40 Processor Handbook (1972), Memory
-- management.
use Rattle.std.specs.Prelude.{ℕ}

-- the physical addresses (bytes), of 18 bits
abbrev pub physical_addresses : ℕ
physical_addresses = 0o1000000

-- the physical words
abbrev pub physical_words : ℕ
physical_words = 0o400000

-- the first physical address of a register: those below it are of core
abbrev pub first_register : ℕ
first_register = 0o760000
