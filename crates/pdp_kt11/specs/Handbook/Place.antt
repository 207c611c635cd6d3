-- Physical addresses: DEC PDP-11/40 Processor Handbook (1972), Memory management.
use Rattle.std.specs.Prelude.{ℕ, ◌+◌, nat_lt, if◌then◌else◌}
use Rattle.pdp_kt11.specs.Handbook.Bits.{io_page, io_page_higher}

-- the physical address of a virtual one while mapping is off:
-- 160000-177777 is the I/O page 760000-777777, the rest is itself [6.5]
unfoldable pub unmapped_address : ℕ → ℕ
unmapped_address address = (if nat_lt address io_page then address else address + io_page_higher)
