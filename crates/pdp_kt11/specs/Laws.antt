-- What the laws of memory management say: each name is the law's sentence. DEC PDP-11/40 Processor
-- Handbook (1972), Memory management. That the first abort alone is told, that bits 15-13 of SR0
-- which were written hold SR0 and SR2, that RESET leaves W, the registers as of power-up, and that
-- bits which no rule names read 0, are [P].
use Rattle.std.specs.Prelude.{◌≡◌, ◌≢◌, ◌⊎◌, ℕ, ◌+◌, ◌-◌, ◌*◌, ◌/◌, ◌%◌, ◌<◌, ◌==◌, Bool, true}
use Rattle.std.specs.Prelude.{false, not, ◌&&◌, ◌||◌, List, [], ◌∷◌, length, Option, Some, None}
use Rattle.std.specs.Prelude.{Result, Ok, Err, is_ok}
use Rattle.pdp_kt11.specs.Handbook.Bits.{blocks_of_page, page_bytes, sr0_enable, sr0_length}
use Rattle.pdp_kt11.specs.Handbook.Bits.{sr0_mode}
use Rattle.pdp_kt11.specs.Handbook.Bits.{sr0_non_resident}
use Rattle.pdp_kt11.specs.Handbook.Bits.{sr0_page, sr0_read_only}
use Rattle.pdp_kt11.specs.Handbook.Kt.{kt_fetched, kt_reset, kt_value, kt_written, page_at}
use Rattle.pdp_kt11.specs.Handbook.Kt.{kt_at_power_up}
use Rattle.pdp_kt11.specs.Handbook.Mode.{mode_bits}
use Rattle.pdp_kt11.specs.Handbook.Apr.{page_number, space_of}
use Rattle.pdp_kt11.specs.Handbook.Place.{unmapped_address}
use Rattle.pdp_kt11.specs.Handbook.Status.{mapping_status_word, tells_abort}
use Rattle.pdp_kt11.specs.Handbook.Translation.{page_of, translate}
use Rattle.pdp_kt11.specs.declared.registers.MappingRegisters.{MappingRegisters}
use Rattle.pdp_kt11.specs.declared.mode.Mode.{Mode}
use Rattle.pdp_kt11.specs.declared.apr.AccessControl.TheVariants as control
use Rattle.pdp_kt11.specs.declared.apr.Expansion.{Expansion}
use Rattle.pdp_kt11.specs.declared.apr.Expansion.TheVariants.{Upward, Downward}
use Rattle.pdp_kt11.specs.declared.apr.Apr.{Apr}
use Rattle.pdp_kt11.specs.declared.apr.PageNumber.{PageNumber}
use Rattle.pdp_kt11.specs.declared.apr.Space.{Space}
use Rattle.pdp_kt11.specs.declared.apr.Space.TheVariants as space
use Rattle.pdp_kt11.specs.declared.place.Abort.{Abort}
use Rattle.pdp_kt11.specs.declared.place.Abort.TheVariants.{Resident, Length, ReadOnly}
use Rattle.pdp_kt11.specs.declared.place.Access.{Access}
use Rattle.pdp_kt11.specs.declared.place.Access.TheVariants.{Read, Write}
use Rattle.pdp_kt11.specs.declared.register.KtRegister.{KtRegister}
use Rattle.pdp_kt11.specs.declared.register.KtRegister.TheVariants.{Status0, Status1, Status2}
use Rattle.pdp_kt11.specs.declared.register.KtRegister.TheVariants.{Descriptor, Address}

-- where an access goes, if it isn't aborted, and the registers after it
abbrev pub place_of : Mode → ℕ → Access → MappingRegisters → Result ℕ Abort
place_of mode address access kt = (translate mode address access kt).address

abbrev pub after_access : Mode → ℕ → Access → MappingRegisters → MappingRegisters
after_access mode address access kt = (translate mode address access kt).after

-- while mapping is off an access goes where it goes without memory management, and leaves the
-- registers
abbrev pub MappingOffIsTheOldRule : Type 0
MappingOffIsTheOldRule = (mode : Mode) (address : ℕ) (access : Access) (kt : MappingRegisters)
    → kt.status.enabled ≡ false
    → (place_of mode address access kt ≡ Ok (unmapped_address address)) ×
    (after_access mode address access kt ≡ kt)

-- the page that an access goes through while mapping is on, if its mode has pages
abbrev pub page_through : Option Space → ℕ → MappingRegisters → Option Apr
page_through None address kt = None
page_through (Some space) address kt = Some (page_at space (page_of address) kt)

abbrev pub page_used : Mode → ℕ → MappingRegisters → Option Apr
page_used mode address kt = page_through (space_of mode) address kt

-- an access is aborted, and leaves all registers but SR0
pub record AbortsInStatusAlone (mode : Mode) (address : ℕ) (access : Access)
    (kt : MappingRegisters) : Type 0 where
  pub aborts : (abort : Abort) × (place_of mode address access kt ≡ Err abort)
  pub leaves : after_access mode address access kt ≡ record kt {
    status =
        (after_access mode address access kt).status;
  }

-- a write through a read-only page is aborted: it goes nowhere
abbrev pub ReadOnlyPagesAreNeverWritten : Type 0
ReadOnlyPagesAreNeverWritten = (mode : Mode) (address : ℕ) (kt : MappingRegisters) (page : Apr)
    → kt.status.enabled ≡ true
    → page_used mode address kt ≡ Some page → page.access ≡ control.ReadOnly
    → AbortsInStatusAlone mode address Write kt

-- whatever access is aborted, it leaves all registers but SR0
abbrev pub AbortsLeaveThePages : Type 0
AbortsLeaveThePages = (mode : Mode) (address : ℕ) (access : Access) (kt : MappingRegisters)
    (abort : Abort)
    → place_of mode address access kt ≡ Err abort
    → after_access mode address access kt ≡ record kt {
      status = (after_access mode address access
          kt).status;
    }

-- the flag of an abort in SR0
abbrev pub abort_flag : Abort → ℕ
abort_flag Resident = sr0_non_resident
abort_flag Length = sr0_length
abort_flag ReadOnly = sr0_read_only

-- if SR0 records no abort yet, the first one is told by its flag alone, the bits of its mode and
-- the number of its page; mapping stays on
abbrev pub TheFirstAbortIsTold : Type 0
TheFirstAbortIsTold = (mode : Mode) (address : ℕ) (access : Access) (kt : MappingRegisters)
    (abort : Abort)
    → address < 0o200000 → tells_abort kt.status ≡ false → place_of mode address access kt
    ≡ Err abort
    → mapping_status_word (after_access mode address access kt).status
    ≡ abort_flag abort + mode_bits mode * sr0_mode + address / page_bytes * sr0_page + sr0_enable

-- if it tells of one already, or one of its bits 15-13 was written, no access changes it
abbrev pub LaterAbortsAreNotTold : Type 0
LaterAbortsAreNotTold = (mode : Mode) (address : ℕ) (access : Access) (kt : MappingRegisters)
    → tells_abort kt.status ≡ true
    → (after_access mode address access kt).status ≡ kt.status

-- an access that passes leaves SR0
abbrev pub PassesLeaveStatus : Type 0
PassesLeaveStatus = (mode : Mode) (address : ℕ) (access : Access) (kt : MappingRegisters) (p : ℕ)
    → place_of mode address access kt ≡ Ok p → (after_access mode address access kt).status
    ≡ kt.status

-- SR2 follows the fetches if SR0 records no abort, and no other register changes; if it tells of
-- one, or one of its bits 15-13 was written, a fetch changes no register
abbrev pub FetchesAreFollowedUntilAnAbort : Type 0
FetchesAreFollowedUntilAnAbort = (address : ℕ) (kt : MappingRegisters)
    → (tells_abort kt.status ≡ false → kt_fetched address kt ≡ record kt { last_fetch = address })
    × (tells_abort kt.status ≡ true → kt_fetched address kt ≡ kt)

-- physical blocks of 100 bytes: a page that grows upward has those from its frame on, up to its
-- length; one that grows downward those from its length on, up to the last of the 200
abbrev pub first_grown : Expansion → Apr → ℕ
first_grown Upward page = page.frame
first_grown Downward page = page.frame + page.length

abbrev pub last_grown : Expansion → Apr → ℕ
last_grown Upward page = page.frame + page.length
last_grown Downward page = page.frame + (blocks_of_page - 1)

abbrev pub first_block : Apr → ℕ
first_block page = first_grown page.expansion page

abbrev pub last_block : Apr → ℕ
last_block page = last_grown page.expansion page

-- the physical addresses of the page don't pass 18 bits
abbrev pub FitsIn18Bits : Apr → Type 0
FitsIn18Bits page = last_block page < 0o10000

-- one page ends before the other begins
abbrev pub AreDisjoint : Apr → Apr → Type 0
AreDisjoint page other = (last_block page < first_block other) ⊎ (last_block other
    < first_block page)

-- two accesses through pages whose addresses don't pass 18 bits, and that are disjoint, never go to
-- the same word
abbrev pub DisjointPagesNeverMeet : Type 0
DisjointPagesNeverMeet = (kt : MappingRegisters) (mode another : Mode) (a b : ℕ)
    (first second : Access) (page other : Apr) (p q : ℕ)
    → kt.status.enabled ≡ true → page_used mode a kt ≡ Some page → page_used another b kt
    ≡ Some other
    → FitsIn18Bits page → FitsIn18Bits other → AreDisjoint page other
    → place_of mode a first kt ≡ Ok p → place_of another b second kt ≡ Ok q
    → p / 2 ≢ q / 2

-- a use of the registers: an access by them, a word written to one, the fetch of an instruction, or
-- RESET
pub data KtUse : Type 0 where
  Accessing : Mode → ℕ → Access → KtUse
  Writing : KtRegister → ℕ → KtUse
  Fetching : ℕ → KtUse
  Resetting : KtUse

abbrev pub kt_after_use : KtUse → MappingRegisters → MappingRegisters
kt_after_use (Accessing mode address access) kt = after_access mode address access kt
kt_after_use (Writing register word) kt = kt_written register word kt
kt_after_use (Fetching address) kt = kt_fetched address kt
kt_after_use Resetting kt = kt_reset kt

-- the registers after uses, in their order
abbrev pub kt_after_uses : List KtUse → MappingRegisters → MappingRegisters
kt_after_uses [] kt = kt
kt_after_uses (use_of ∷ uses) kt = kt_after_uses uses (kt_after_use use_of kt)

-- whether two pages of these spaces and numbers are one
abbrev pub is_same_space : Space → Space → Bool
is_same_space space.Kernel space.Kernel = true
is_same_space space.User space.User = true
is_same_space _ _ = false

abbrev pub is_same_page : Space → PageNumber → Space → PageNumber → Bool
is_same_page space number other another = is_same_space space other && page_number number ==
    page_number another

-- whether an address is of this page, by a mode whose pages are in that space, if it has any
abbrev pub is_address_in : Space → PageNumber → Option Space → ℕ → Bool
is_address_in space number None address = false
is_address_in space number (Some other) address = is_same_page space number other (page_of address)

-- whether an access writes through this page: mapping is on, it isn't aborted, and its address is
-- of the page
abbrev pub writes_through : Space → PageNumber → Mode → ℕ → Access → MappingRegisters → Bool
writes_through space number mode address Read kt = false
writes_through space number mode address Write kt =
    kt.status.enabled && is_ok (place_of mode address Write kt) && is_address_in space number
    (space_of mode) address

-- W of a page after a use, if it was this before: a write through the page sets it, a write of one
-- of its two registers clears it
abbrev pub told_after : Space → PageNumber → KtUse → MappingRegisters → Bool → Bool
told_after space number (Accessing mode address access) kt before = writes_through space number mode
    address access kt || before
told_after space number (Writing (Descriptor other another) word) kt before = not
    (is_same_page space number other another) && before
told_after space number (Writing (Address other another) word) kt before = not
    (is_same_page space number other another) && before
told_after space number _ kt before = before

-- W of a page as its uses tell it
abbrev pub told_by : Space → PageNumber → List KtUse → MappingRegisters → Bool → Bool
told_by space number [] kt before = before
told_by space number (use_of ∷ uses) kt before =
    told_by space number uses (kt_after_use use_of kt) (told_after space number use_of kt before)

-- each space has its eight pages, as the machine has
pub record HasEightPages (kt : MappingRegisters) : Type 0 where
  pub kernel : length kt.kernel ≡ 8
  pub user : length kt.user ≡ 8

-- W of each page is what the uses tell, from what it was before them
abbrev pub WrittenBitsTellTheTruth : Type 0
WrittenBitsTellTheTruth = (space : Space) (number : PageNumber) (uses : List KtUse)
    (kt : MappingRegisters) → HasEightPages kt
    → (page_at space number (kt_after_uses uses kt)).written ≡ told_by space number uses kt
    (page_at space number kt).written

-- and no use takes a page away
abbrev pub UsesKeepEightPages : Type 0
UsesKeepEightPages = (uses : List KtUse) (kt : MappingRegisters) → HasEightPages kt → HasEightPages
    (kt_after_uses uses kt)

-- as of power-up each space has its eight pages, and W of each is clear
abbrev pub PowerGivesEightPages : Type 0
PowerGivesEightPages = HasEightPages kt_at_power_up

abbrev pub PowerClearsWrittenBits : Type 0
PowerClearsWrittenBits = (space : Space) (number : PageNumber) → (page_at space number
    kt_at_power_up).written ≡ false

-- a page whose frame is one of bits 11-0, and whose length is one of bits 14-8
pub record HasBitsInRange (page : Apr) : Type 0 where
  pub frame : page.frame < 0o10000
  pub length : page.length < 0o200

-- each page is such, as the machine's are
abbrev pub PagesAreInRange : MappingRegisters → Type 0
PagesAreInRange kt = (space : Space) (number : PageNumber) → HasBitsInRange
    (page_at space number kt)

-- so they are as of power-up, and each use keeps them so
abbrev pub PowerGivesPagesInRange : Type 0
PowerGivesPagesInRange = PagesAreInRange kt_at_power_up

abbrev pub UsesKeepPagesInRange : Type 0
UsesKeepPagesInRange = (uses : List KtUse) (kt : MappingRegisters) → HasEightPages kt
    → PagesAreInRange kt → PagesAreInRange (kt_after_uses uses kt)

-- the bits of a word that a rule names: of SR0 15-13, 6-5 and 3-0, of a descriptor 14-8, 6 and 3-1,
-- of an address 11-0
abbrev pub named_bits : KtRegister → ℕ → ℕ
named_bits Status0 word = word / 0o20000 % 8 * 0o20000 + word / 0o40 % 4 * 0o40 + word % 0o20
named_bits Status1 word = 0
named_bits Status2 word = word
named_bits (Descriptor space number) word = word / 0o400 % 0o200 * 0o400 + word / 0o100 % 2 * 0o100
    + word % 0o20 / 2 * 2
named_bits (Address space number) word = word % 0o10000

-- a read gives those alone: the others are 0
abbrev pub OtherBitsReadZero : Type 0
OtherBitsReadZero = (register : KtRegister) (kt : MappingRegisters) → PagesAreInRange kt
    → kt_value register kt ≡ named_bits register (kt_value register kt)

-- a descriptor reads back bits 14-8 and 3-1 of the word that was written to it, and W clear
abbrev pub WrittenDescriptorReadsBack : Type 0
WrittenDescriptorReadsBack = (space : Space) (number : PageNumber) (word : ℕ)
    (kt : MappingRegisters) → HasEightPages kt
    → kt_value (Descriptor space number) (kt_written (Descriptor space number) word kt)
    ≡ word / 0o400 % 0o200 * 0o400 + word % 0o20 / 2 * 2

-- a page address register reads back bits 11-0
abbrev pub WrittenAddressReadsBack : Type 0
WrittenAddressReadsBack = (space : Space) (number : PageNumber) (word : ℕ) (kt : MappingRegisters)
    → HasEightPages kt
    → kt_value (Address space number) (kt_written (Address space number) word kt) ≡ word % 0o10000

-- SR0 reads back bits 15-13 and 0, and bits 6-5 and 3-1 as before
abbrev pub WrittenStatus0ReadsBack : Type 0
WrittenStatus0ReadsBack = (word : ℕ) (kt : MappingRegisters)
    → kt_value Status0 (kt_written Status0 word kt)
    ≡ word / 0o20000 % 8 * 0o20000 + kt_value Status0 kt / 0o40 % 4 * 0o40 + kt_value Status0 kt %
    0o20 / 2 * 2 + word % 2
