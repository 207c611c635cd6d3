-- Pages and their registers: DEC PDP-11/40 Processor Handbook (1972), Memory management. That
-- access 10 aborts as non-resident, that modes 01 and 10 have no pages, a page as of power-up, and
-- that bits which no rule names read 0, are [P].
use Rattle.std.specs.Prelude.{ℕ, ◌+◌, ◌*◌, ◌==◌, Bool, true, false, Option, Some, None}
use Rattle.std.specs.Prelude.{if◌then◌else◌}
use Rattle.pdp_word.specs.Bits.{bit_of, field}
use Rattle.pdp_word.specs.Mask.{is_set}
use Rattle.pdp_kt11.specs.Handbook.Bits.{pdr_access, pdr_downward, pdr_length, pdr_written}
use Rattle.pdp_kt11.specs.declared.mode.Mode.{Mode}
use Rattle.pdp_kt11.specs.declared.mode.Mode.TheVariants.{Kernel, Bad1, Bad2, User}
use Rattle.pdp_kt11.specs.declared.apr.AccessControl.{AccessControl}
use Rattle.pdp_kt11.specs.declared.apr.AccessControl.TheVariants.{NonResident, ReadOnly, Unused}
use Rattle.pdp_kt11.specs.declared.apr.AccessControl.TheVariants.{ReadWrite}
use Rattle.pdp_kt11.specs.declared.apr.Expansion.{Expansion}
use Rattle.pdp_kt11.specs.declared.apr.Expansion.TheVariants.{Upward, Downward}
use Rattle.pdp_kt11.specs.declared.apr.Apr.{Apr}
use Rattle.pdp_kt11.specs.declared.apr.PageNumber.{PageNumber}
use Rattle.pdp_kt11.specs.declared.apr.PageNumber.TheVariants.{P0, P1, P2, P3, P4, P5, P6, P7}
use Rattle.pdp_kt11.specs.declared.apr.Space.{Space}
use Rattle.pdp_kt11.specs.declared.apr.Space.TheVariants as space

-- the number of a page
abbrev pub page_number : PageNumber → ℕ
page_number P0 = 0
page_number P1 = 1
page_number P2 = 2
page_number P3 = 3
page_number P4 = 4
page_number P5 = 5
page_number P6 = 6
page_number P7 = 7

-- the page of a number
unfoldable pub numbered_page : ℕ → PageNumber
numbered_page number =
    if number == 0 then P0
    else if number == 1 then P1
    else if number == 2 then P2
    else if number == 3 then P3
    else if number == 4 then P4
    else if number == 5 then P5
    else if number == 6 then P6
    else P7

-- the space whose pages a mode uses; modes 01 and 10 have no pages [4.38] [6.6]
abbrev pub space_of : Mode → Option Space
space_of Kernel = Some space.Kernel
space_of User = Some space.User
space_of Bad1 = None
space_of Bad2 = None

-- the two bits of an access control field [6.9]
abbrev pub access_bits : AccessControl → ℕ
access_bits NonResident = 0
access_bits ReadOnly = 1
access_bits Unused = 2
access_bits ReadWrite = 3

unfoldable pub access_control_of : ℕ → AccessControl
access_control_of bits =
    if bits == 0 then NonResident
    else if bits == 1 then ReadOnly
    else if bits == 2 then Unused
    else ReadWrite

abbrev pub expansion_bit : Expansion → ℕ
expansion_bit Upward = 0
expansion_bit Downward = 1

abbrev pub expansion_of : Bool → Expansion
expansion_of false = Upward
expansion_of true = Downward

-- a page as of power-up: all bits of its registers are 0 [7.4]
unfoldable pub empty_page : Apr
empty_page = record {
  frame = 0;
  length = 0;
  written = false;
  expansion = Upward;
  access =
      NonResident;
}

-- the page descriptor register: 14-8 length, 6 W, 3 downward, 2-1 access [6.9] [6.33]
abbrev pub descriptor_word : Apr → ℕ
descriptor_word page =
    page.length * pdr_length + bit_of page.written * pdr_written + expansion_bit page.expansion *
    pdr_downward
    + access_bits page.access * pdr_access

-- a write of the descriptor keeps bits 14-8 and 3-1 of the word, and clears W [6.11] [6.33]
unfoldable pub descriptor_written : ℕ → Apr → Apr
descriptor_written word page = record page {
  length = field 8 7 word;
  written = false;
  expansion = expansion_of (is_set pdr_downward word);
  access = access_control_of (field 1 2 word);
}

-- a write of the page address register keeps bits 11-0 of the word, and clears W [6.11] [6.34]
unfoldable pub address_written : ℕ → Apr → Apr
address_written word page = record page { frame = field 0 12 word; written = false }
