-- The mapping rule: DEC PDP-11/40 Processor Handbook (1972), Memory management. That modes 01 and
-- 10 and access 10 abort as non-resident, and the order of the tests, are [P].
use Rattle.std.specs.Prelude.{ℕ, ◌+◌, ◌*◌, ◌/◌, ◌%◌, Bool, true, false, nat_le, Option, Some, None}
use Rattle.std.specs.Prelude.{Result, Ok, Err, if◌then◌else◌}
use Rattle.pdp_kt11.specs.Handbook.Bits.{block_bytes, blocks_of_page, page_bytes}
use Rattle.pdp_word.specs.Physical.{physical_addresses}
use Rattle.pdp_kt11.specs.Handbook.Kt.{page_at, with_page}
use Rattle.pdp_kt11.specs.Handbook.Apr.{numbered_page, space_of}
use Rattle.pdp_kt11.specs.Handbook.Place.{unmapped_address}
use Rattle.pdp_kt11.specs.Handbook.Status.{abort_told}
use Rattle.pdp_kt11.specs.declared.registers.MappingRegisters.{MappingRegisters}
use Rattle.pdp_kt11.specs.declared.mode.Mode.{Mode}
use Rattle.pdp_kt11.specs.declared.apr.AccessControl.{AccessControl}
use Rattle.pdp_kt11.specs.declared.apr.AccessControl.TheVariants as control
use Rattle.pdp_kt11.specs.declared.apr.Expansion.{Expansion}
use Rattle.pdp_kt11.specs.declared.apr.Expansion.TheVariants.{Upward, Downward}
use Rattle.pdp_kt11.specs.declared.apr.Apr.{Apr}
use Rattle.pdp_kt11.specs.declared.apr.PageNumber.{PageNumber}
use Rattle.pdp_kt11.specs.declared.apr.Space.{Space}
use Rattle.pdp_kt11.specs.declared.place.Abort.{Abort}
use Rattle.pdp_kt11.specs.declared.place.Abort.TheVariants.{Resident, Length, ReadOnly}
use Rattle.pdp_kt11.specs.declared.place.Access.{Access}
use Rattle.pdp_kt11.specs.declared.place.Access.TheVariants.{Read, Write}

-- a virtual address: its page, bits 15-13; its block of 100 bytes in the page, bits 12-6; its byte
-- in the block [6.8]
abbrev pub page_of : ℕ → PageNumber
page_of address = numbered_page (address / page_bytes)

abbrev pub block_of : ℕ → ℕ
block_of address = address / block_bytes % blocks_of_page

-- the physical address of a byte in a page: (PAR + block) * 100 + byte, modulo 2 to the 18th [6.8]
abbrev pub mapped_address : Apr → ℕ → ℕ
mapped_address page address = ((page.frame + block_of address) * block_bytes + address %
    block_bytes) % physical_addresses

-- whether the access control lets anything pass, and whether it lets writes pass [6.9] [6.17]
-- [6.19]
abbrev pub is_resident : AccessControl → Bool
is_resident control.ReadOnly = true
is_resident control.ReadWrite = true
is_resident _ = false

abbrev pub is_permitted : AccessControl → Access → Bool
is_permitted control.ReadOnly Write = false
is_permitted _ _ = true

-- upward, a block above the length is outside of the page; downward, one below it [6.9] [6.18]
abbrev pub is_within_length : Expansion → ℕ → ℕ → Bool
is_within_length Upward length block = nat_le block length
is_within_length Downward length block = nat_le length block

-- the first test that fails, if one does: of residence, of length, of access [6.17] [6.18] [6.19]
abbrev pub abort_in : Apr → Access → ℕ → Option Abort
abort_in page access block =
    if is_resident page.access
    then (if is_within_length page.expansion page.length block
    then (if is_permitted page.access access then None else Some ReadOnly) else Some Length)
    else Some Resident

-- where an access goes, or its abort; and the registers after it
pub record Translation : Type 0 where
  pub address : Result ℕ Abort
  pub after : MappingRegisters

-- a write through a page sets its W [6.10]
abbrev pub with_w_bit : Access → Space → PageNumber → MappingRegisters → MappingRegisters
with_w_bit Read space number kt = kt
with_w_bit Write space number kt = with_page space number (record (page_at space number kt) {
  written = true;
}) kt

-- SR0 tells of an abort, if no other is told [6.20] [6.23]
abbrev pub aborted_translation : Abort → Mode → ℕ → MappingRegisters → Translation
aborted_translation abort mode address kt = record {
  address = Err abort;
  after = record kt { status = abort_told abort mode (page_of address) kt.status };
}

-- an access to a page of a space, with the test that fails, if one does
abbrev pub checked_translation : Option Abort → Space → Mode → ℕ → Access → MappingRegisters
    → Translation
checked_translation (Some abort) space mode address access kt = aborted_translation abort mode
    address kt
checked_translation None space mode address access kt = record {
  address = Ok (mapped_address (page_at space (page_of address) kt) address);
  after = with_w_bit access space (page_of address) kt;
}

-- an access in the space of a mode, if it has one [6.6] [6.17]
abbrev pub mapped_in : Option Space → Mode → ℕ → Access → MappingRegisters → Translation
mapped_in None mode address access kt = aborted_translation Resident mode address kt
mapped_in (Some space) mode address access kt =
    checked_translation (abort_in (page_at space (page_of address) kt) access
    (block_of address)) space mode address access kt

-- an access while mapping is on
unfoldable pub mapped_translation : Mode → ℕ → Access → MappingRegisters → Translation
mapped_translation mode address access kt = mapped_in (space_of mode) mode address access kt

-- an access: by the mapping registers as they are [6.5] [6.7]
unfoldable pub translate : Mode → ℕ → Access → MappingRegisters → Translation
translate mode address access kt =
    if kt.status.enabled then mapped_translation mode address access kt
    else record { address = Ok (unmapped_address address); after = kt }
