-- The KT11-D: its registers, and where they are. DEC PDP-11/40 Processor Handbook (1972), Memory
-- management. The registers as of power-up, that SR2 follows fetches without mapping too, and once
-- the word was read, that 777574 reads 0, that it and SR2 can't be written, and what RESET leaves,
-- are [P].
use Rattle.std.specs.Prelude.{ℕ, ◌+◌, ◌-◌, ◌/◌, ◌%◌, ◌==◌, ◌&&◌, nat_le, Bool, List, [], ◌∷◌}
use Rattle.std.specs.Prelude.{Option, Some, None, slice_index_or, slice_set, if◌then◌else◌}
use Rattle.pdp_kt11.specs.Handbook.Apr.{address_written, descriptor_word, descriptor_written}
use Rattle.pdp_kt11.specs.Handbook.Apr.{empty_page}
use Rattle.pdp_kt11.specs.Handbook.Apr.{numbered_page, page_number}
use Rattle.pdp_kt11.specs.Handbook.Status.{clear_status, mapping_status_word}
use Rattle.pdp_kt11.specs.Handbook.Status.{mapping_status_written}
use Rattle.pdp_kt11.specs.Handbook.Status.{tells_abort}
use Rattle.pdp_kt11.specs.declared.registers.MappingRegisters.{MappingRegisters}
use Rattle.pdp_kt11.specs.declared.apr.Apr.{Apr}
use Rattle.pdp_kt11.specs.declared.apr.PageNumber.{PageNumber}
use Rattle.pdp_kt11.specs.declared.apr.Space.{Space}
use Rattle.pdp_kt11.specs.declared.apr.Space.TheVariants.{Kernel, User}
use Rattle.pdp_kt11.specs.declared.register.KtRegister.{KtRegister}
use Rattle.pdp_kt11.specs.declared.register.KtRegister.TheVariants.{Status0, Status1, Status2}
use Rattle.pdp_kt11.specs.declared.register.KtRegister.TheVariants.{Descriptor, Address}

-- the pages of a space
abbrev pub pages_of : Space → MappingRegisters → List Apr
pages_of Kernel kt = kt.kernel
pages_of User kt = kt.user

unfoldable pub page_at : Space → PageNumber → MappingRegisters → Apr
page_at space number kt = slice_index_or (pages_of space kt) (page_number number) empty_page

abbrev pub with_pages : Space → List Apr → MappingRegisters → MappingRegisters
with_pages Kernel pages kt = record kt { kernel = pages }
with_pages User pages kt = record kt { user = pages }

unfoldable pub with_page : Space → PageNumber → Apr → MappingRegisters → MappingRegisters
with_page space number page kt = with_pages space (slice_set (pages_of space kt)
    (page_number number) page) kt

-- as of power-up: every bit of every register is 0 [7.4]
unfoldable pub kt_at_power_up : MappingRegisters
kt_at_power_up = record {
  status = clear_status;
  last_fetch = 0;
  kernel = empty_page ∷ empty_page ∷ empty_page ∷ empty_page ∷ empty_page ∷ empty_page ∷ empty_page
      ∷ empty_page ∷ [];
  user = empty_page ∷ empty_page ∷ empty_page ∷ empty_page ∷ empty_page ∷ empty_page ∷ empty_page ∷
      empty_page ∷ [];
}

-- RESET clears SR0; the pages and SR2 stay [6.108]
abbrev pub kt_reset : MappingRegisters → MappingRegisters
kt_reset kt = record kt { status = clear_status }

-- an instruction was fetched at this virtual address: SR2 takes it, while no abort is told [6.24]
-- [6.26]
unfoldable pub kt_fetched : ℕ → MappingRegisters → MappingRegisters
kt_fetched address kt = if tells_abort kt.status then kt else record kt { last_fetch = address }

-- eight words from this address on
abbrev pub is_among : ℕ → ℕ → Bool
is_among first address = nat_le first address && nat_le address (first + 0o16)

abbrev pub page_from : ℕ → ℕ → PageNumber
page_from first address = numbered_page ((address - first) / 2)

-- the register at a physical address; none is at an odd one [6.33] [6.34] [6.49] [6.50] [6.51]
unfoldable pub kt_register_at : ℕ → Option KtRegister
kt_register_at address = (
    if address % 2 == 1 then None else
    if address == 0o777572 then Some Status0 else
    if address == 0o777574 then Some Status1 else
    if address == 0o777576 then Some Status2 else
    if is_among 0o772300 address then Some (Descriptor Kernel (page_from 0o772300 address)) else
    if is_among 0o772340 address then Some (Address Kernel (page_from 0o772340 address)) else
    if is_among 0o777600 address then Some (Descriptor User (page_from 0o777600 address)) else
    if is_among 0o777640 address then Some (Address User (page_from 0o777640 address)) else None)

-- what a read gives; it does nothing [6.33] [6.34] [6.49] [6.50] [6.51]
unfoldable pub kt_value : KtRegister → MappingRegisters → ℕ
kt_value Status0 kt = mapping_status_word kt.status
kt_value Status1 kt = 0
kt_value Status2 kt = kt.last_fetch
kt_value (Descriptor space number) kt = descriptor_word (page_at space number kt)
kt_value (Address space number) kt = (page_at space number kt).frame

-- what a write of a word does [6.33] [6.34] [6.49] [6.50] [6.51]
unfoldable pub kt_written : KtRegister → ℕ → MappingRegisters → MappingRegisters
kt_written Status0 word kt = record kt { status = mapping_status_written word kt.status }
kt_written Status1 word kt = kt
kt_written Status2 word kt = kt
kt_written (Descriptor space number) word kt =
    with_page space number (descriptor_written word (page_at space number kt)) kt
kt_written (Address space number) word kt = with_page space number (address_written word
    (page_at space number kt)) kt
