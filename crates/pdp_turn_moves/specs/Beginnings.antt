-- What the beginning of a turn moves, told by a few words of it. No rule of the handbook is here.
use Rattle.std.specs.Prelude.{ℕ, suc, Bool, true, false, ◌&&◌, ◌||◌, not, is_some, List, [], ◌∷◌}
use Rattle.std.specs.Prelude.{Option, Some, None, map, if◌then◌else◌}
use Rattle.pdp_device.specs.Operation.{is_due}
use Rattle.pdp_tape.specs.Reader.{takes_byte}
use Rattle.pdp_rk11.specs.CompletionMoves.{completion_moves}
use Rattle.pdp_rk11.specs.declared.disk_moves.DiskMoves.{DiskMoves}
use Rattle.pdp_unibus.specs.Handbook.BusWorld.{BusWorld, disk_world_of}
use Rattle.pdp_unibus.specs.Handbook.Tape.{next_byte}
use Rattle.pdp_unibus.specs.declared.event.Event.{Event}
use Rattle.pdp_unibus.specs.declared.event.Event.TheVariants as event
use Rattle.pdp_made.specs.Cells.{DataCell, Buffer, Keyboard, Reader, Switches, TapeByte}
use Rattle.pdp_made_run.specs.DiskRows.{made_by_function}
use Rattle.pdp_made_run.specs.Origins.{Origin, Held, OfEvent, still_held}
use Rattle.pdp_turn_moves.specs.declared.beginning_moves.BeginningMoves.{BeginningMoves}
use Rattle.pdp_turn_moves.specs.declared.beginning_moves.TapeRead.{TapeRead}
use Rattle.pdp_turn_moves.specs.declared.found_events.FoundEvents.{FoundEvents}

-- which events strike a key, set the switches, and complete the reader and the disk
abbrev pub is_key : Event → Bool
is_key (event.Key key) = true
is_key e = false

abbrev pub sets_switches : Event → Bool
sets_switches (event.Switches word) = true
sets_switches e = false

abbrev pub ends_reading : Event → Bool
ends_reading event.ReaderDone = true
ends_reading e = false

abbrev pub ends_function : Event → Bool
ends_function event.DiskDone = true
ends_function e = false

-- the number of the last of these events of which this holds, counted from 0
abbrev pub later_or : Bool → Option ℕ → Option ℕ
later_or here (Some n) = Some (suc n)
later_or true None = Some 0
later_or false None = None

abbrev pub last_where : (Event → Bool) → List Event → Option ℕ
last_where holds [] = None
last_where holds (e ∷ es) = later_or (holds e) (last_where holds es)

-- whether it holds of any of them
abbrev pub any_where : (Event → Bool) → List Event → Bool
any_where holds [] = false
any_where holds (e ∷ es) = holds e || any_where holds es

-- what is looked for among the events of a turn
abbrev pub found_in : List Event → FoundEvents
found_in es = record {
  key = last_where is_key es;
  switches = last_where sets_switches es;
  reader_done = any_where ends_reading es;
  disk_done = any_where ends_function es;
}

-- with one event more, of this number
abbrev pub found_with : Event → ℕ → FoundEvents → FoundEvents
found_with (event.Key key) n found = record found { key = Some n }
found_with (event.Switches word) n found = record found { switches = Some n }
found_with event.ReaderDone n found = record found { reader_done = true }
found_with event.DiskDone n found = record found { disk_done = true }
found_with e n found = found

-- the byte of the tape that is read in turn t, by an event or because it is due
abbrev pub reader_moved : ℕ → Bool → BusWorld → Option TapeRead
reader_moved t done b =
    if takes_byte b.io_page.paper_tape.reader && (done || is_due t
    b.io_page.paper_tape.reader.operation)
    then Some (record {
      number = b.bytes_read;
      at_end = not (is_some (next_byte b.tape b.bytes_read));
    })
    else None

-- what the disk moves in turn t, by an event or because it is due
abbrev pub disk_moved : ℕ → Bool → BusWorld → Option DiskMoves
disk_moved t done b =
    if done || is_due t b.io_page.disk.operation then completion_moves (disk_world_of b) else None

-- what the beginning of turn t with these events moves
abbrev pub beginning_told : ℕ → List Event → BusWorld → BeginningMoves
beginning_told t events b = record {
  key = (found_in events).key;
  switches = (found_in events).switches;
  reader = reader_moved t (found_in events).reader_done b;
  disk = disk_moved t (found_in events).disk_done b;
}

-- The origins of a cell, as they are told: of the buffers of the keyboard and of the switches
abbrev pub event_told : ℕ → Option ℕ → DataCell → List Origin
event_told t (Some n) c = OfEvent t n ∷ []
event_told t None c = still_held c

-- of the reader's buffer: at the tape's end it stays, and is also made of that there is no byte
abbrev pub byte_told : TapeRead → List Origin
byte_told read =
    if read.at_end then Held (TapeByte read.number) ∷ Held (Buffer Reader) ∷ []
    else Held (TapeByte read.number) ∷ []

abbrev pub reader_told : Option TapeRead → List Origin
reader_told (Some read) = byte_told read
reader_told None = still_held (Buffer Reader)

-- and of all other cells
abbrev pub disk_told : Option DiskMoves → DataCell → List DataCell
disk_told (Some moves) c = made_by_function moves.function moves.transfer moves.drive c
disk_told None c = c ∷ []

-- of turn t
abbrev pub origins_told : ℕ → BeginningMoves → DataCell → List Origin
origins_told t moves (Buffer Keyboard) = event_told t moves.key (Buffer Keyboard)
origins_told t moves (Buffer Switches) = event_told t moves.switches (Buffer Switches)
origins_told t moves (Buffer Reader) = reader_told moves.reader
origins_told t moves c = map Held (disk_told moves.disk c)
