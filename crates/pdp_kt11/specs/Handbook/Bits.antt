-- The bits of the registers of memory management, and the sizes of its pages: DEC PDP-11/40
-- Processor Handbook (1972), Memory management.
use Rattle.std.specs.Prelude.{ℕ}

-- SR0, bit 15: an access to a page that isn't resident was aborted
abbrev pub sr0_non_resident : ℕ
sr0_non_resident = 0o100000

-- SR0, bit 14: an access outside the length of its page was aborted
abbrev pub sr0_length : ℕ
sr0_length = 0o40000

-- SR0, bit 13: a write to a read-only page was aborted
abbrev pub sr0_read_only : ℕ
sr0_read_only = 0o20000

-- SR0, the lowest of bits 6-5, the mode of the access that was aborted
abbrev pub sr0_mode : ℕ
sr0_mode = 0o40

-- SR0, the lowest of bits 3-1, its page
abbrev pub sr0_page : ℕ
sr0_page = 0o2

-- SR0, bit 0: mapping is on
abbrev pub sr0_enable : ℕ
sr0_enable = 0o1

-- PDR, the lowest of bits 14-8, the length field
abbrev pub pdr_length : ℕ
pdr_length = 0o400

-- PDR, bit 6, W: a write went through the page
abbrev pub pdr_written : ℕ
pdr_written = 0o100

-- PDR, bit 3: the page grows downward
abbrev pub pdr_downward : ℕ
pdr_downward = 0o10

-- PDR, the lowest of bits 2-1, the access control field
abbrev pub pdr_access : ℕ
pdr_access = 0o2

-- the virtual addresses (bytes) of a page
abbrev pub page_bytes : ℕ
page_bytes = 0o20000

-- the bytes of a block
abbrev pub block_bytes : ℕ
block_bytes = 0o100

-- the words of a block
abbrev pub block_words : ℕ
block_words = 0o40

-- the blocks of a page
abbrev pub blocks_of_page : ℕ
blocks_of_page = 0o200

-- the first virtual address of the I/O page while mapping is off
abbrev pub io_page : ℕ
io_page = 0o160000

-- how much higher the I/O page is on the bus than in virtual addresses
abbrev pub io_page_higher : ℕ
io_page_higher = 0o600000
