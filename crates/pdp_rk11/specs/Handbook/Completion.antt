-- The completion of a function of the RK11: PDP-11 Peripherals Handbook, RK11 (that it is one act,
-- the order of its tests, and where registers are left [P]).
use Rattle.std.specs.Prelude.{ℕ, ◌+◌, ◌-◌, ◌*◌, ◌/◌, ◌%◌, ◌==◌, nat_lt, min, Bool, true, false, not}
use Rattle.std.specs.Prelude.{◌≡◌, ◌&&◌, ◌||◌, List, [], Option, Some, None, length, map}
use Rattle.std.specs.Prelude.{slice_index_or}
use Rattle.std.specs.Prelude.{slice_set, if◌then◌else◌}
use Rattle.pdp_word.specs.Physical.{physical_addresses}
use Rattle.pdp_device.specs.ReadyEnable.{with_ready}
use Rattle.pdp_device.specs.Operation.{is_under_way}
use Rattle.pdp_device.specs.declared.operation.Operation.TheVariants.{Idle}
use Rattle.pdp_store.specs.Parts.{words_of_drive}
use Rattle.pdp_store.specs.declared.Agent.TheVariants.{Disk}
use Rattle.pdp_store.specs.declared.Stamp.{Stamp}
use Rattle.pdp_rk11.specs.Handbook.Geometry.{address_of_sector, cylinder_in}
use Rattle.pdp_rk11.specs.Handbook.Geometry.{cylinders}
use Rattle.pdp_rk11.specs.Handbook.Geometry.{drive_in, most_words_asked, sector_in, sector_number}
use Rattle.pdp_rk11.specs.Handbook.Geometry.{sectors_of_track, words_of_sector}
use Rattle.pdp_rk11.specs.Handbook.Rk.{is_locked}
use Rattle.pdp_rk11.specs.Handbook.Transfer.{core_after_read, disk_written, is_different}
use Rattle.pdp_rk11.specs.Handbook.Transfer.{stamps_read}
use Rattle.pdp_rk11.specs.Handbook.Transfer.{stamps_written}
use Rattle.pdp_rk11.specs.declared.function.Function.{Function}
use Rattle.pdp_rk11.specs.declared.function.Function.TheVariants.{ControlReset, Write, Read}
use Rattle.pdp_rk11.specs.declared.function.Function.TheVariants.{WriteCheck, Seek, ReadCheck}
use Rattle.pdp_rk11.specs.declared.function.Function.TheVariants.{DriveReset, WriteLock}
use Rattle.pdp_rk11.specs.declared.failure.Failure.{Failure}
use Rattle.pdp_rk11.specs.declared.failure.Failure.TheVariants.{NoDrive, NoCylinder, NoSector}
use Rattle.pdp_rk11.specs.declared.failure.Failure.TheVariants.{NoMemory, WriteLocked, Overrun}
use Rattle.pdp_rk11.specs.declared.rk.Rk.{Rk}
use Rattle.pdp_rk11.specs.declared.transfer.Transfer.{Transfer}

-- the controller, core with its last stamps, and the words of each drive
pub record DiskWorld : Type 0 where
  pub rk : Rk
  pub core : List ℕ
  pub stamps : List (Option Stamp)
  pub drives : List (List ℕ)

abbrev pub disk_world : Rk → List ℕ → List (Option Stamp) → List (List ℕ) → DiskWorld
disk_world rk core stamps drives = record { rk = rk; core = core; stamps = stamps; drives = drives }

-- the same of a core and of drives, from what is seen of each: the words and the stamps of core,
-- the words of a drive
abbrev pub stored_world : {C D : Type 0} → (C → List ℕ) → (C → List (Option Stamp)) → (D → List ℕ)
    → Rk → C → List D → DiskWorld
stored_world words stamps drive_words rk core drives =
    disk_world rk (words core) (stamps core) (map drive_words drives)

abbrev pub with_rk : DiskWorld → Rk → DiskWorld
with_rk w rk = record w { rk = rk }

-- which functions name a sector: write, read, write check, seek and read check
abbrev pub names_sector : Function → Bool
names_sector Write = true
names_sector Read = true
names_sector WriteCheck = true
names_sector Seek = true
names_sector ReadCheck = true
names_sector _ = false

abbrev pub is_write_function : Function → Bool
is_write_function Write = true
is_write_function _ = false

abbrev pub is_write_check : Function → Bool
is_write_check WriteCheck = true
is_write_check _ = false

abbrev pub is_read_check : Function → Bool
is_read_check ReadCheck = true
is_read_check _ = false

-- why a function can't be done with so many drives, if so: of the drive, the cylinder, the sector
-- and the write lock the first that is amiss [6.80] [6.81] [6.82] [6.83] [6.84]
unfoldable pub refusal : Rk → ℕ → Option Failure
refusal rk drives = (
    if not (nat_lt (drive_in rk.disk_address) drives) then Some NoDrive else
    if names_sector rk.function && not (nat_lt (cylinder_in rk.disk_address) cylinders) then Some
    NoCylinder else
    if names_sector rk.function && not (nat_lt (sector_in rk.disk_address) sectors_of_track) then
    Some NoSector else
    if is_write_function rk.function && is_locked rk then Some WriteLocked else None)

-- the word of core at a bus address of 18 bits [6.85] [6.98]
abbrev pub core_word_of_bus_address : ℕ → ℕ
core_word_of_bus_address address = address % physical_addresses / 2

-- how many words were asked for: RKWC counts up to 0, and 0 at the start is 65,536 [6.86] [6.90]
abbrev pub words_asked : Rk → ℕ
words_asked rk = most_words_asked - rk.word_count

-- how many of them come before an address outside a core of so many words; a read check asks for no
-- address [6.88]
abbrev pub within_core : Rk → ℕ → ℕ
within_core rk words = (
    if is_read_check rk.function || rk.no_increment && nat_lt (core_word_of_bus_address rk.address)
    words then words_asked rk
    else words - core_word_of_bus_address rk.address)

-- the first word of the sector that RKDA names [6.67] [6.85]
abbrev pub first_word_of_sector : Rk → ℕ
first_word_of_sector rk = sector_number rk.disk_address * words_of_sector

-- what is done: the least of the words asked for, those left on a drive of this size, and those
-- before an address outside core [6.85] [6.86] [6.87] [6.88] [6.94]
unfoldable pub transfer_of : Rk → ℕ → ℕ → Transfer
transfer_of rk words size = record {
  no_increment = rk.no_increment;
  core_start = core_word_of_bus_address rk.address;
  disk_start = first_word_of_sector rk;
  count = min (words_asked rk) (min (size - first_word_of_sector rk) (within_core rk words));
}

-- why it stopped before its end, if it did [6.86] [6.87] [6.88]
abbrev pub stop_of : ℕ → ℕ → ℕ → Option Failure
stop_of count asked left = if count == asked then None else if count == left then Some Overrun else
    Some NoMemory

-- where the bus address is left: after the last word done, unless it is not to be incremented, or a
-- read check [6.91] [6.96]
abbrev pub address_after : Rk → Transfer → ℕ
address_after rk t = if rk.no_increment || is_read_check rk.function then t.core_start * 2 else
    (t.core_start + t.count) * 2

-- where the disk address is left: at the sector after the last one in which a word was done [6.95]
abbrev pub disk_address_after : ℕ → Transfer → ℕ
disk_address_after address t =
    if t.count == 0 then address else address_of_sector (drive_in address)
    ((t.disk_start + t.count - 1) / words_of_sector + 1)

-- the registers after a transfer with a drive of this size, and whether a write check differed
-- [6.89] [6.92]
unfoldable pub registers_after : ℕ → Transfer → Bool → Rk → Rk
registers_after size t different rk = record rk {
  word_count = (rk.word_count + t.count) % most_words_asked;
  address = address_after rk t;
  disk_address = disk_address_after rk.disk_address t;
  write_check = different;
  failure = stop_of t.count (words_asked rk) (size - t.disk_start);
}

-- the drive that RKDA names [6.66]
abbrev pub drive_of : DiskWorld → List ℕ
drive_of w = words_of_drive w.drives (drive_in w.rk.disk_address)

-- the stamp that a read of the disk leaves on a word of core [6.97]
abbrev pub stamp_of_disk : ℕ → Stamp
stamp_of_disk turn = record { turn = turn; agent = Disk }

-- core and drives after a transfer: a read leaves core's words stamped, a write the drive's, a
-- check none [6.74] [6.75] [6.76] [6.77]
abbrev pub lists_after : Function → Transfer → ℕ → DiskWorld → DiskWorld
lists_after Read t turn w = record w {
  core = core_after_read t (drive_of w) w.core;
  stamps = stamps_read t (stamp_of_disk turn) w.stamps;
}
lists_after Write t turn w =
    record w {
      drives = slice_set w.drives (drive_in w.rk.disk_address) (disk_written t w.core
          (drive_of w));
    }
lists_after _ t turn w = w

abbrev pub after_transfer : Transfer → ℕ → DiskWorld → DiskWorld
after_transfer t turn w =
    with_rk (lists_after w.rk.function t turn w)
    (registers_after (length (drive_of w)) t (is_write_check w.rk.function && is_different t w.core
    (drive_of w)) w.rk)

unfoldable pub rk_transferred : ℕ → DiskWorld → DiskWorld
rk_transferred turn w = after_transfer (transfer_of w.rk (length w.core) (length
    (drive_of w))) turn w

-- a seek or a drive reset sets search complete [6.78]
abbrev pub rk_searched : Rk → Rk
rk_searched rk = record rk { search_complete = true }

-- write lock: for good [6.79]
abbrev pub write_locked : Rk → Rk
write_locked rk = record rk { locked = slice_set rk.locked (drive_in rk.disk_address) true }

-- what a function does that nothing forbids [6.73] [6.78] [6.79]
abbrev pub run_function : Function → ℕ → DiskWorld → DiskWorld
run_function ControlReset turn w = w
run_function Seek turn w = with_rk w (rk_searched w.rk)
run_function DriveReset turn w = with_rk w (rk_searched w.rk)
run_function WriteLock turn w = with_rk w (write_locked w.rk)
run_function _ turn w = rk_transferred turn w

abbrev pub rk_failed : Failure → Rk → Rk
rk_failed failure rk = record rk { failure = Some failure }

-- a function that fails one of its tests does nothing [6.80]
abbrev pub run_unless_refused : Option Failure → ℕ → DiskWorld → DiskWorld
run_unless_refused (Some failure) turn w = with_rk w (rk_failed failure w.rk)
run_unless_refused None turn w = run_function w.rk.function turn w

-- ready again [6.72]
abbrev pub rk_finished : Rk → Rk
rk_finished rk = record rk { operation = Idle; ready_enable = with_ready true rk.ready_enable }

abbrev pub world_finished : DiskWorld → DiskWorld
world_finished w = with_rk w (rk_finished w.rk)

-- the completion of what is under way, in this turn; if nothing is under way it does nothing [6.58]
-- [6.72]
unfoldable pub rk_completed : ℕ → DiskWorld → DiskWorld
rk_completed turn w =
    if is_under_way w.rk.operation then world_finished (run_unless_refused (refusal w.rk
    (length w.drives)) turn w) else w

-- the last stamps of each drive, if they have any, after a transfer with the drive of a number:
-- only a write changes them, and only that drive's [6.97]
abbrev pub stamps_after : Function → Transfer → ℕ → List (List (Option Stamp)) → List (List
    (Option Stamp))
stamps_after Write t drive stamps = slice_set stamps drive (stamps_written t
    (slice_index_or stamps drive []))
stamps_after _ t drive stamps = stamps

abbrev pub stamps_unless_refused : Option Failure → DiskWorld → List (List (Option Stamp)) → List
    (List (Option Stamp))
stamps_unless_refused (Some failure) w stamps = stamps
stamps_unless_refused None w stamps = stamps_after w.rk.function (transfer_of w.rk (length w.core)
    (length (drive_of w))) (drive_in w.rk.disk_address) stamps

-- each drive has the stamps that it had, except those of the words that the function in this world
-- writes, if it isn't refused
abbrev pub LosesStamps : {D : Type 0} → (D → List (Option Stamp)) → Option Failure → DiskWorld
    → List D → List D → Type 0
LosesStamps stamps failure w before after =
    map stamps after ≡ stamps_unless_refused failure w (map stamps before)

-- after the completion of what is under way
unfoldable pub stamps_completed : DiskWorld → List (List (Option Stamp)) → List (List
    (Option Stamp))
stamps_completed w stamps =
    if is_under_way w.rk.operation then stamps_unless_refused (refusal w.rk
    (length w.drives)) w stamps else stamps
