-- SR0 of memory management: DEC PDP-11/40 Processor Handbook (1972), Memory management. SR0 as of
-- power-up, that bits which no rule names read 0, what a write of it sets, that the first abort
-- alone is told, and that bits 15-13 which were written hold SR0 and SR2 as an abort does, are [P].
use Rattle.std.specs.Prelude.{ℕ, ◌+◌, ◌*◌, Bool, true, false, ◌||◌, if◌then◌else◌}
use Rattle.pdp_word.specs.Bits.{bit_of}
use Rattle.pdp_word.specs.Mask.{is_set}
use Rattle.pdp_kt11.specs.Handbook.Bits.{sr0_enable, sr0_length, sr0_mode, sr0_non_resident}
use Rattle.pdp_kt11.specs.Handbook.Bits.{sr0_page}
use Rattle.pdp_kt11.specs.Handbook.Bits.{sr0_read_only}
use Rattle.pdp_kt11.specs.Handbook.Mode.{mode_bits}
use Rattle.pdp_kt11.specs.Handbook.Apr.{page_number}
use Rattle.pdp_kt11.specs.declared.mode.Mode.{Mode}
use Rattle.pdp_kt11.specs.declared.mode.Mode.TheVariants.{Kernel}
use Rattle.pdp_kt11.specs.declared.apr.PageNumber.{PageNumber}
use Rattle.pdp_kt11.specs.declared.apr.PageNumber.TheVariants.{P0}
use Rattle.pdp_kt11.specs.declared.place.Abort.{Abort}
use Rattle.pdp_kt11.specs.declared.place.Abort.TheVariants.{Resident, Length, ReadOnly}
use Rattle.pdp_kt11.specs.declared.status.MappingStatus.{MappingStatus}

-- all bits 0, as of power-up and after RESET [7.4] [6.108]
unfoldable pub clear_status : MappingStatus
clear_status = record {
  resident_abort = false;
  length_abort = false;
  read_only_abort = false;
  mode = Kernel;
  page = P0;
  enabled = false;
}

-- whether one of bits 15-13 is set: SR0 tells of an abort [6.25]
abbrev pub tells_abort : MappingStatus → Bool
tells_abort s = s.resident_abort || s.length_abort || s.read_only_abort

-- SR0: 15 non-resident, 14 length, 13 read only, 6-5 mode, 3-1 page, 0 enable [6.22] [6.49]
abbrev pub mapping_status_word : MappingStatus → ℕ
mapping_status_word s =
    bit_of s.resident_abort * sr0_non_resident + bit_of s.length_abort * sr0_length
    + bit_of s.read_only_abort * sr0_read_only + mode_bits s.mode * sr0_mode + page_number s.page *
    sr0_page
    + bit_of s.enabled

-- a write sets bits 15-13 and 0; mode and page stay [6.25] [6.49]
unfoldable pub mapping_status_written : ℕ → MappingStatus → MappingStatus
mapping_status_written word s = record s {
  resident_abort = is_set sr0_non_resident word;
  length_abort = is_set sr0_length word;
  read_only_abort = is_set sr0_read_only word;
  enabled = is_set sr0_enable word;
}

-- the abort's one flag [6.17] [6.18] [6.19]
abbrev pub with_abort_flag : Abort → MappingStatus → MappingStatus
with_abort_flag Resident s = record s { resident_abort = true }
with_abort_flag Length s = record s { length_abort = true }
with_abort_flag ReadOnly s = record s { read_only_abort = true }

-- an abort at this page of the mode: it sets its flag, the mode and the page if none is told yet,
-- and else nothing [6.23]
unfoldable pub abort_told : Abort → Mode → PageNumber → MappingStatus → MappingStatus
abort_told abort mode page s = if tells_abort s then s else with_abort_flag abort
    (record s { mode = mode; page = page })
