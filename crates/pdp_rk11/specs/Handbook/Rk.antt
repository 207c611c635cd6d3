-- The RK11's registers: PDP-11 Peripherals Handbook, RK11 (that functions are begun, and registers
-- written, while ready alone, and what control reset and RESET leave are [P]).
use Rattle.std.specs.Prelude.{ℕ, ◌+◌, ◌*◌, ◌==◌, nat_lt, Bool, true, false, ◌||◌, Option, Some}
use Rattle.std.specs.Prelude.{None, List, [], ◌∷◌, slice_index_or, if◌then◌else◌}
use Rattle.pdp_word.specs.Bits.{bit_of, field}
use Rattle.pdp_word.specs.Mask.{is_set}
use Rattle.pdp_device.specs.ReadyEnable.{ready_enable_served, ready_enable_status}
use Rattle.pdp_device.specs.ReadyEnable.{ready_enable_with, enable_written, init_ready_enable}
use Rattle.pdp_device.specs.Operation.{begun_operation}
use Rattle.pdp_device.specs.declared.operation.Operation.TheVariants.{Idle}
use Rattle.pdp_rk11.specs.Handbook.Bits.{rkcs_address, rkcs_enable, rkcs_error, rkcs_function}
use Rattle.pdp_rk11.specs.Handbook.Bits.{rkcs_go}
use Rattle.pdp_rk11.specs.Handbook.Bits.{rkcs_hard_error, rkcs_no_increment, rkcs_search_complete}
use Rattle.pdp_rk11.specs.Handbook.Bits.{rkds_heads_ready, rkds_ready, rkds_rk05}
use Rattle.pdp_rk11.specs.Handbook.Bits.{rkds_sector_counter}
use Rattle.pdp_rk11.specs.Handbook.Bits.{rkds_write_locked}
use Rattle.pdp_rk11.specs.Handbook.Bits.{rker_no_cylinder, rker_no_drive, rker_no_memory}
use Rattle.pdp_rk11.specs.Handbook.Bits.{rker_no_sector}
use Rattle.pdp_rk11.specs.Handbook.Bits.{rker_overrun}
use Rattle.pdp_rk11.specs.Handbook.Bits.{rker_write_locked}
use Rattle.pdp_rk11.specs.Handbook.Geometry.{address_bit_16, drive_in}
use Rattle.pdp_rk11.specs.declared.rk.ControlWrite.{ControlWrite}
use Rattle.pdp_rk11.specs.declared.function.Function.{Function}
use Rattle.pdp_rk11.specs.declared.function.Function.TheVariants.{ControlReset, Write, Read}
use Rattle.pdp_rk11.specs.declared.function.Function.TheVariants.{WriteCheck, Seek, ReadCheck}
use Rattle.pdp_rk11.specs.declared.function.Function.TheVariants.{DriveReset, WriteLock}
use Rattle.pdp_rk11.specs.declared.failure.Failure.{Failure}
use Rattle.pdp_rk11.specs.declared.failure.Failure.TheVariants.{NoDrive, NoCylinder, NoSector}
use Rattle.pdp_rk11.specs.declared.failure.Failure.TheVariants.{NoMemory, WriteLocked, Overrun}
use Rattle.pdp_rk11.specs.declared.register.RkRegister.{RkRegister}
use Rattle.pdp_rk11.specs.declared.register.RkRegister.TheVariants.{DriveStatus, Error, Control}
use Rattle.pdp_rk11.specs.declared.register.RkRegister.TheVariants.{WordCount, BusAddress}
use Rattle.pdp_rk11.specs.declared.register.RkRegister.TheVariants.{DiskAddress}
use Rattle.pdp_rk11.specs.declared.rk.Rk.{Rk}

-- the registers by the bytes from the first one
abbrev pub rk_register_at : ℕ → Option RkRegister
rk_register_at offset = (
    if offset == 0 then Some DriveStatus else
    if offset == 2 then Some Error else
    if offset == 4 then Some Control else
    if offset == 6 then Some WordCount else
    if offset == 0o10 then Some BusAddress else
    if offset == 0o12 then Some DiskAddress else None)

-- the functions by their codes, bits 3-1 of RKCS [6.73] [6.74] [6.75] [6.76] [6.77] [6.78] [6.79]
abbrev pub function_of : ℕ → Function
function_of code = (
    if code == 0 then ControlReset else
    if code == 1 then Write else
    if code == 2 then Read else
    if code == 3 then WriteCheck else
    if code == 4 then Seek else
    if code == 5 then ReadCheck else
    if code == 6 then DriveReset else WriteLock)

abbrev pub code_of : Function → ℕ
code_of ControlReset = 0
code_of Write = 1
code_of Read = 2
code_of WriteCheck = 3
code_of Seek = 4
code_of ReadCheck = 5
code_of DriveReset = 6
code_of WriteLock = 7

-- the bit of RKER by which a failure is told [6.53] [6.81] [6.82] [6.83] [6.84] [6.87] [6.88]
abbrev pub failure_bit : Failure → ℕ
failure_bit NoSector = rker_no_sector
failure_bit NoCylinder = rker_no_cylinder
failure_bit NoDrive = rker_no_drive
failure_bit NoMemory = rker_no_memory
failure_bit WriteLocked = rker_write_locked
failure_bit Overrun = rker_overrun

abbrev pub has_failed : Option Failure → Bool
has_failed None = false
has_failed (Some failure) = true

abbrev pub failure_bits : Option Failure → ℕ
failure_bits None = 0
failure_bits (Some failure) = failure_bit failure

-- no drive is locked [7.6]
abbrev pub no_locks : List Bool
no_locks = false ∷ false ∷ false ∷ false ∷ false ∷ false ∷ false ∷ false ∷ []

-- at power-up: ready, not enabled, nothing under way, no function, no error, and word count, bus
-- address and disk address 0, with no drive locked [6.101] [7.7]
abbrev pub init_rk : Rk
init_rk = record {
  ready_enable = init_ready_enable true;
  function = ControlReset;
  no_increment = false;
  search_complete = false;
  write_check = false;
  failure = None;
  word_count = 0;
  address = 0;
  disk_address = 0;
  locked = no_locks;
  operation = Idle;
}

-- as RESET leaves it: as at power-up, but for the write locks, which stay [6.101] [6.108]
abbrev pub rk_reset : Rk → Rk
rk_reset rk = record init_rk { locked = rk.locked }

-- whether the drive that a disk address names is locked [6.66]
abbrev pub is_locked : Rk → Bool
is_locked rk = slice_index_or rk.locked (drive_in rk.disk_address) false

-- RKDS of a drive that is there and not locked: 4700 [6.35]
abbrev pub drive_there : ℕ
drive_there = rkds_rk05 + rkds_sector_counter + rkds_ready + rkds_heads_ready

-- RKDS of a controller with so many drives: 0 if the drive that RKDA names isn't there [6.35]
-- [6.66]
abbrev pub drive_status : ℕ → Rk → ℕ
drive_status drives rk =
    if nat_lt (drive_in rk.disk_address) drives then drive_there + bit_of
    (is_locked rk) * rkds_write_locked else 0

-- RKER: bit 0 is the write check's [6.36] [6.92]
abbrev pub error_word : Rk → ℕ
error_word rk = failure_bits rk.failure + bit_of rk.write_check

-- RKCS: 15 error, 14 hard error, 13 search complete, 11 no increment, 7 ready, 6 enable, 5-4 bits
-- 17-16 of the bus address, 3-1 function; go, bit 0, reads 0 [6.37] [6.53] [6.99]
abbrev pub control_word : Rk → ℕ
control_word rk =
    bit_of (has_failed rk.failure || rk.write_check) * rkcs_error + bit_of
    (has_failed rk.failure) * rkcs_hard_error
    + bit_of rk.search_complete * rkcs_search_complete + bit_of rk.no_increment * rkcs_no_increment
    + ready_enable_status rk.ready_enable + field 16 2 rk.address * rkcs_address + code_of
    rk.function * rkcs_function

-- what a read gives, with so many drives; no read has an effect [6.35] [6.36] [6.37] [6.38] [6.39]
-- [6.40]
abbrev pub rk_value : RkRegister → ℕ → Rk → ℕ
rk_value DriveStatus drives rk = drive_status drives rk
rk_value Error drives rk = error_word rk
rk_value Control drives rk = control_word rk
rk_value WordCount drives rk = rk.word_count
rk_value BusAddress drives rk = field 0 16 rk.address
rk_value DiskAddress drives rk = rk.disk_address

-- bits 11 and 5-1 of a word written to RKCS: the function, bits 17-16 of the bus address, and no
-- increment [6.69] [6.71]
abbrev pub with_command : ℕ → Rk → Rk
with_command word rk = record rk {
  function = function_of (field 1 3 word);
  address = field 4 2 word * address_bit_16 + field 0 16 rk.address;
  no_increment = is_set rkcs_no_increment word;
}

-- a function begins, but for control reset: ready, the errors and search complete are cleared
-- [6.71]
abbrev pub begun_function : ControlWrite → Rk → Rk
begun_function write rk = record (with_command write.word rk) {
  ready_enable = ready_enable_with false (is_set rkcs_enable write.word) rk.ready_enable;
  search_complete = false;
  write_check = false;
  failure = None;
  operation = begun_operation write.turn write.delay;
}

-- go with this function, while ready: control reset acts at once [6.70] [6.73]
abbrev pub gone_with : Function → ControlWrite → Rk → Rk
gone_with ControlReset write rk = rk_reset rk
gone_with _ write rk = begun_function write rk

-- a word written to RKCS while ready, without go or with it [6.37] [6.69]
abbrev pub rk_commanded : ControlWrite → Rk → Rk
rk_commanded write rk =
    if is_set rkcs_go write.word then gone_with (function_of (field 1 3 write.word)) write rk
    else record (with_command write.word rk) {
      ready_enable = enable_written write.word rk.ready_enable;
    }

-- a word written to RKCS; while not ready it sets or clears enable alone [6.68]
abbrev pub control_written : ControlWrite → Rk → Rk
control_written write rk =
    if rk.ready_enable.ready then rk_commanded write rk else record rk {
      ready_enable = enable_written write.word rk.ready_enable;
    }

-- what is written while ready alone
abbrev pub while_ready : Rk → Rk → Rk
while_ready written rk = if rk.ready_enable.ready then written else rk

-- what a write of a word does in a turn, with the delay of the disk; RKDS and RKER can't be written
-- [6.35] [6.36] [6.37] [6.38] [6.39] [6.40]
unfoldable pub rk_written : RkRegister → ℕ → ℕ → ℕ → Rk → Rk
rk_written DriveStatus word turn delay rk = rk
rk_written Error word turn delay rk = rk
rk_written Control word turn delay rk =
    control_written (record { word = word; turn = turn; delay = delay }) rk
rk_written WordCount word turn delay rk = while_ready (record rk { word_count = word }) rk
rk_written BusAddress word turn delay rk =
    while_ready (record rk { address = field 16 2 rk.address * address_bit_16 + word }) rk
rk_written DiskAddress word turn delay rk = while_ready (record rk { disk_address = word }) rk

-- the request is served: it goes, and nothing else changes
abbrev pub rk_served : Rk → Rk
rk_served rk = record rk { ready_enable = ready_enable_served rk.ready_enable }
