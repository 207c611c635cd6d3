-- What is saved of a bus: all but the bytes of its tape, which no turn changes, first touches and
-- the log.
use Rattle.std.specs.Prelude.{ℕ, ◌≡◌, ◌<◌, List, Option, length, map, slice_set}
use Rattle.pdp_store.specs.Parts.{core_with, drives_with, words_in}
use Rattle.pdp_store.specs.CycleLogs.{no_log}
use Rattle.pdp_store.specs.FirstTouches.{no_first_touches}
use Rattle.pdp_store.specs.Overlays.{stamps_over}
use Rattle.pdp_store.specs.Pages.{SharedPage, stamps_of, words_of}
use Rattle.pdp_store.specs.Stored.{HasLastOfEachOrNone}
use Rattle.pdp_store.specs.declared.Stamp.{Stamp}
use Rattle.pdp_store.specs.declared.part.Part.{Part}
use Rattle.pdp_store.specs.declared.part.WordAt.{WordAt}
use Rattle.pdp_unibus.specs.Handbook.BusWorld.{BusWorld}
use Rattle.pdp_io_page.specs.declared.io_page.IoPage.{IoPage}
use Rattle.pdp_io_page.specs.declared.delays.Delays.{Delays}

-- each field as in the bus
pub record SavedBusData : Type 0 where
  pub io_page : IoPage
  pub core : List ℕ
  pub stamps : List (Option Stamp)
  pub drives : List (List ℕ)
  pub bytes_read : ℕ
  pub turn : ℕ

abbrev pub saved_bus : BusWorld → SavedBusData
saved_bus w = record {
  io_page = w.io_page;
  core = w.core;
  stamps = w.stamps;
  drives = w.drives;
  bytes_read = w.bytes_read;
  turn = w.turn;
}

-- the bus that was saved so, with this tape in its reader, no first touches and no log
abbrev pub bus_of : List ℕ → SavedBusData → BusWorld
bus_of tape c = record {
  io_page = c.io_page;
  core = c.core;
  stamps = c.stamps;
  drives = c.drives;
  tape = tape;
  bytes_read = c.bytes_read;
  turn = c.turn;
  first_touches = no_first_touches;
  log = no_log;
}

-- the saved bus with core of these words and these last stamps
abbrev pub saved_bus_with_core : List ℕ → List (Option Stamp) → SavedBusData → SavedBusData
saved_bus_with_core words stamps c = record c { core = words; stamps = stamps }

-- the saved bus with these last stamps of core, and with its own of turn `turn` and of later turns
-- laid over these
abbrev pub saved_bus_with_stamps : List (Option Stamp) → SavedBusData → SavedBusData
saved_bus_with_stamps stamps c = record c { stamps = stamps }

abbrev pub saved_bus_over : ℕ → List (Option Stamp) → SavedBusData → SavedBusData
saved_bus_over turn under c = saved_bus_with_stamps (stamps_over turn under c.stamps) c

-- the saved bus with other delays, and the bus with another tape
abbrev pub saved_bus_with_delays : Delays → SavedBusData → SavedBusData
saved_bus_with_delays delays c = record c { io_page = record c.io_page { delays = delays } }

abbrev pub bus_with_tape : BusWorld → List ℕ → BusWorld
bus_with_tape w tape = record w { tape = tape }

-- the saved bus is of the same sizes: as many words of core with as many stamps, and as many drives
-- with as many words each
pub record HasSizesOf (c : SavedBusData) (w : BusWorld) : Type 0 where
  pub core : length c.core ≡ length w.core
  pub stamps : length c.stamps ≡ length w.stamps
  pub drives : map length c.drives ≡ map length w.drives

-- the pages are core: its words and their last stamps, one of each word or none at all
pub record IsCoreOf (pages : List SharedPage) (w : BusWorld) : Type 0 where
  pub words : words_of pages ≡ w.core
  pub stamps : stamps_of pages ≡ w.stamps
  pub stamped : HasLastOfEachOrNone w.core w.stamps

-- the pages have as many words as core, and as many stamps
pub record IsCoreOfSize (pages : List SharedPage) (w : BusWorld) : Type 0 where
  pub words : length (words_of pages) ≡ length w.core
  pub stamps : length (stamps_of pages) ≡ length w.stamps

-- the bus with core of these pages
abbrev pub with_core_of : List SharedPage → BusWorld → BusWorld
with_core_of pages w = record w { core = words_of pages; stamps = stamps_of pages }

-- the bus with core of this saved bus, whose last stamps from turn `turn` on are laid over its own
abbrev pub with_core_over : ℕ → SavedBusData → BusWorld → BusWorld
with_core_over turn c w = record w { core = c.core; stamps = stamps_over turn w.stamps c.stamps }

-- the words of a part
abbrev pub saved_words : Part → SavedBusData → List ℕ
saved_words part c = words_in part c.core c.drives

-- there is such a word
unfoldable pub SavedBusHasWord : WordAt → SavedBusData → Type 0
SavedBusHasWord at c = at.number < length (saved_words at.part c)

-- the saved bus with these words in a part
abbrev pub saved_bus_with_words : Part → List ℕ → SavedBusData → SavedBusData
saved_bus_with_words part words c = record c {
  core = core_with part words c.core;
  drives = drives_with part words c.drives;
}

-- the saved bus with this value in that word
unfoldable pub saved_bus_with_word : WordAt → ℕ → SavedBusData → SavedBusData
saved_bus_with_word at value c =
    saved_bus_with_words at.part (slice_set (saved_words at.part c) at.number value) c
