-- The bits of the RK11's registers: PDP-11 Peripherals Handbook, RK11.
use Rattle.std.specs.Prelude.{ℕ}

-- RKDS, bit 11: the drive is an RK05
abbrev pub rkds_rk05 : ℕ
rkds_rk05 = 0o4000

-- RKDS, bit 8: its sector counter is right
abbrev pub rkds_sector_counter : ℕ
rkds_sector_counter = 0o400

-- RKDS, bit 7: it is ready
abbrev pub rkds_ready : ℕ
rkds_ready = 0o200

-- RKDS, bit 6: its heads can read, write and seek
abbrev pub rkds_heads_ready : ℕ
rkds_heads_ready = 0o100

-- RKDS, bit 5: it is locked against writing
abbrev pub rkds_write_locked : ℕ
rkds_write_locked = 0o40

-- RKER, bit 14: the transfer went past the last sector of the drive
abbrev pub rker_overrun : ℕ
rker_overrun = 0o40000

-- RKER, bit 13: a write to a drive that is locked
abbrev pub rker_write_locked : ℕ
rker_write_locked = 0o20000

-- RKER, bit 10: the bus address was outside core
abbrev pub rker_no_memory : ℕ
rker_no_memory = 0o2000

-- RKER, bit 7: the drive isn't there
abbrev pub rker_no_drive : ℕ
rker_no_drive = 0o200

-- RKER, bit 6: the disk address names no cylinder
abbrev pub rker_no_cylinder : ℕ
rker_no_cylinder = 0o100

-- RKER, bit 5: the disk address names no sector of a track
abbrev pub rker_no_sector : ℕ
rker_no_sector = 0o40

-- RKCS, bit 15: a bit of RKER is set
abbrev pub rkcs_error : ℕ
rkcs_error = 0o100000

-- RKCS, bit 14: a bit of RKER other than bit 0 is set
abbrev pub rkcs_hard_error : ℕ
rkcs_hard_error = 0o40000

-- RKCS, bit 13: a seek or a drive reset is done
abbrev pub rkcs_search_complete : ℕ
rkcs_search_complete = 0o20000

-- RKCS, bit 11: the bus address isn't incremented
abbrev pub rkcs_no_increment : ℕ
rkcs_no_increment = 0o4000

-- RKCS, bit 6: its interrupts are enabled
abbrev pub rkcs_enable : ℕ
rkcs_enable = 0o100

-- RKCS, the lowest of bits 5-4, which are bits 17-16 of the bus address
abbrev pub rkcs_address : ℕ
rkcs_address = 0o20

-- RKCS, the lowest of bits 3-1, the function
abbrev pub rkcs_function : ℕ
rkcs_function = 0o2

-- RKCS, bit 0: the function begins
abbrev pub rkcs_go : ℕ
rkcs_go = 0o1

-- RKDA, the lowest of bits 15-13, the drive
abbrev pub rkda_drive : ℕ
rkda_drive = 0o20000

-- RKDA, the lowest of bits 12-5, the cylinder
abbrev pub rkda_cylinder : ℕ
rkda_cylinder = 0o40

-- RKDA, bit 4: the surface
abbrev pub rkda_surface : ℕ
rkda_surface = 0o20
