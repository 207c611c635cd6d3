-- The bus and what is on it: PDP-11 Peripherals Handbook, Unibus (power-up and stamps are [P]).
use Rattle.std.specs.Prelude.{ℕ, Bool, List, Option}
use Rattle.pdp_device.specs.Operation.{is_under_way}
use Rattle.pdp_rk11.specs.Handbook.Completion.{DiskWorld, disk_world}
use Rattle.pdp_kt11.specs.declared.kt.Kt.{Kt}
use Rattle.pdp_store.specs.CycleLogs.{KeptCycles, no_log}
use Rattle.pdp_store.specs.FirstTouches.{FirstTouches, no_first_touches}
use Rattle.pdp_store.specs.declared.Stamp.{Stamp}
use Rattle.pdp_word.specs.declared.codes.Codes.{Codes}
use Rattle.pdp_io_page.specs.Handbook.Reset.{io_page_at_power_up}
use Rattle.pdp_io_page.specs.declared.io_page.IoPage.{IoPage}
use Rattle.pdp_io_page.specs.declared.delays.Delays.{Delays}
use Rattle.pdp_io_page.specs.declared.status.Status.{Status}

-- the bus and all that is on it, as a contract sees it
pub record BusWorld : Type 0 where
  -- the program status word, the mapping registers, the devices and the switches
  pub io_page : IoPage
  -- the words of core
  pub core : List ℕ
  -- for each word of core the stamp of its last write, if it was written; no list at all if core
  -- keeps no stamps
  pub stamps : List (Option Stamp)
  -- the words of each drive
  pub drives : List (List ℕ)
  -- the paper tape in the reader: all its bytes
  pub tape : List ℕ
  -- how many of them have been read
  pub bytes_read : ℕ
  -- the turn of its cycles
  pub turn : ℕ
  -- the first touches of the pages of core and of the drives
  pub first_touches : FirstTouches
  -- the log of the processor's cycles
  pub log : KeptCycles

-- the bus as of power-up, over this core, these drives and this tape, with no first touches and no
-- log [7.8]
abbrev pub bus_at_power_up : List ℕ → List (Option Stamp) → List (List ℕ) → List ℕ → Delays
    → BusWorld
bus_at_power_up words stamps drives tape delays =
    record {
      io_page = io_page_at_power_up delays;
      core = words;
      stamps = stamps;
      drives = drives;
      tape = tape;
      bytes_read = 0;
      turn = 0;
      first_touches = no_first_touches;
      log = no_log;
    }

-- the bus with these first touches
abbrev pub with_first_touches : BusWorld → FirstTouches → BusWorld
with_first_touches w first_touches = record w { first_touches = first_touches }

-- the bus with this log
abbrev pub with_log : BusWorld → KeptCycles → BusWorld
with_log w log = record w { log = log }

-- the bus with these last stamps of core
abbrev pub with_stamps : BusWorld → List (Option Stamp) → BusWorld
with_stamps w stamps = record w { stamps = stamps }

abbrev pub with_io_page : BusWorld → IoPage → BusWorld
with_io_page w io_page = record w { io_page = io_page }

-- the bus with this program status
abbrev pub with_status : BusWorld → Status → BusWorld
with_status w status = with_io_page w (record w.io_page { status = status })

-- the bus with these condition codes
abbrev pub with_codes : BusWorld → Codes → BusWorld
with_codes w codes = with_status w (record w.io_page.status { codes = codes })

-- the bus with these mapping registers
abbrev pub with_mapping : BusWorld → Kt → BusWorld
with_mapping w mapping = with_io_page w (record w.io_page { mapping = mapping })

-- a function of the disk is under way
abbrev pub is_disk_busy : IoPage → Bool
is_disk_busy b = is_under_way b.disk.operation

-- what the disk's controller sees: itself, core with its stamps, and the drives
abbrev pub disk_world_of : BusWorld → DiskWorld
disk_world_of w = disk_world w.io_page.disk w.core w.stamps w.drives

-- the bus with what the controller left of them
abbrev pub with_disk_world : BusWorld → DiskWorld → BusWorld
with_disk_world w d = record w {
  io_page = record w.io_page { disk = d.rk };
  core = d.core;
  stamps = d.stamps;
  drives = d.drives;
}
