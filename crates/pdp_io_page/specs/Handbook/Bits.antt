-- The bits of the program status word: DEC PDP-11/40 Processor Handbook (1972), Processor status
-- word.
use Rattle.std.specs.Prelude.{ℕ}

-- the lowest of bits 15-14, the mode
abbrev pub ps_mode : ℕ
ps_mode = 0o40000

-- the lowest of bits 13-12, the previous mode
abbrev pub ps_previous : ℕ
ps_previous = 0o10000

-- the lowest of bits 7-5, the priority
abbrev pub ps_priority : ℕ
ps_priority = 0o40

-- bit 4, T: each instruction traps
abbrev pub ps_trace : ℕ
ps_trace = 0o20

-- bit 3, N
abbrev pub ps_n : ℕ
ps_n = 0o10

-- bit 2, Z
abbrev pub ps_z : ℕ
ps_z = 0o4

-- bit 1, V
abbrev pub ps_v : ℕ
ps_v = 0o2

-- bit 0, C
abbrev pub ps_c : ℕ
ps_c = 0o1
