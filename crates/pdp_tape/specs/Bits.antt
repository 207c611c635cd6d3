-- The bits of PRS: PDP-11 Peripherals Handbook, PC11.
use Rattle.std.specs.Prelude.{ℕ}

-- bit 15: a read found no byte
abbrev pub prs_error : ℕ
prs_error = 0o100000

-- bit 11: a byte is being read
abbrev pub prs_busy : ℕ
prs_busy = 0o4000

-- bit 7: a byte has come
abbrev pub prs_done : ℕ
prs_done = 0o200

-- bit 6: its interrupts are enabled
abbrev pub prs_enable : ℕ
prs_enable = 0o100

-- bit 0: begin to read a byte
abbrev pub prs_go : ℕ
prs_go = 0o1
