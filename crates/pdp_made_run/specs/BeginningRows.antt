-- Rows of the beginning of a turn: its events, a tick of the clock, and the operations that are due
-- [P].
use Rattle.std.specs.Prelude.{ℕ, suc, ◌≡◌, Bool, false, List, [], ◌∷◌}
use Rattle.std.specs.Prelude.{Option, Some, None, length, map}
use Rattle.std.specs.Prelude.{flat_map, if◌then◌else◌}
use Rattle.pdp_device.specs.Operation.{is_due}
use Rattle.pdp_tape.specs.Reader.{takes_byte}
use Rattle.pdp_rk11.specs.Handbook.Completion.{is_write_check}
use Rattle.pdp_store.specs.Parts.{words_of_drive}
use Rattle.pdp_unibus.specs.Handbook.Beginning.{Progress, after_event, after_events, at_start}
use Rattle.pdp_unibus.specs.Handbook.Beginning.{before_disk, in_turn, printer_due, reader_due}
use Rattle.pdp_unibus.specs.Handbook.Beginning.{tick_due}
use Rattle.pdp_unibus.specs.Handbook.BusWorld.{BusWorld, disk_world_of}
use Rattle.pdp_unibus.specs.Handbook.Tape.{next_byte}
use Rattle.pdp_unibus.specs.declared.event.Event.{Event}
use Rattle.pdp_unibus.specs.declared.event.Event.TheVariants as event
use Rattle.pdp_operand.specs.Phases.World.{World}
use Rattle.pdp_cpu.specs.Handbook.Turn.{beginning}
use Rattle.pdp_made.specs.Cells.{DataCell, Buffer, Keyboard, Reader, Switches, TapeByte}
use Rattle.pdp_made.specs.Cells.{WorldsAlike, bus_with, data_on}
use Rattle.pdp_made_run.specs.DiskRows.{made_by_completion}
use Rattle.pdp_made_run.specs.Origins.{Origin, Held, OfEvent, back_through, event_data}
use Rattle.pdp_made_run.specs.Origins.{with_event_data, still_held}

-- TKB is made of the key [6.54], and the switches of the word that they are set to
abbrev pub made_by_key : Origin → DataCell → List Origin
made_by_key own (Buffer Keyboard) = own ∷ []
made_by_key own c = still_held c

abbrev pub made_by_switches : Origin → DataCell → List Origin
made_by_switches own (Buffer Switches) = own ∷ []
made_by_switches own c = still_held c

-- PRB is made of the tape's next byte, if there is one; at the tape's end it stays, and is also
-- made of that there is none [6.64]
abbrev pub byte_taken : ℕ → Option ℕ → List Origin
byte_taken k (Some byte) = Held (TapeByte k) ∷ []
byte_taken k None = Held (TapeByte k) ∷ Held (Buffer Reader) ∷ []

abbrev pub made_by_reader : BusWorld → DataCell → List Origin
made_by_reader b (Buffer Reader) =
    if takes_byte b.io_page.paper_tape.reader then byte_taken b.bytes_read (next_byte b.tape
    b.bytes_read) else still_held (Buffer Reader)
made_by_reader b c = still_held c

abbrev pub made_by_disk : BusWorld → DataCell → List Origin
made_by_disk b c = map Held (made_by_completion (disk_world_of b) c)

-- of what an event, which is this origin, makes each cell; a tick, and a completion of the printer
-- or the punch, change no data
abbrev pub made_by_event : Event → Origin → BusWorld → DataCell → List Origin
made_by_event (event.Key key) own b c = made_by_key own c
made_by_event (event.Switches word) own b c = made_by_switches own c
made_by_event event.ReaderDone own b c = made_by_reader b c
made_by_event event.DiskDone own b c = made_by_disk b c
made_by_event e own b c = still_held c

-- of what events make each cell, back from the last to the first; `own` is the origin of each
unfoldable pub made_by_events : List Event → (ℕ → Origin) → Progress → DataCell → List Origin
made_by_events [] own p c = still_held c
made_by_events (e ∷ es) own p c = flat_map (back_through (made_by_event e (own 0) p.bus))
    (made_by_events es (λ n. own (suc n)) (after_event e p) c)

-- an operation that is due, or isn't
abbrev pub made_if : Bool → (DataCell → List Origin) → DataCell → List Origin
made_if due made c = if due then made c else still_held c

abbrev pub made_by_reader_due : BusWorld → DataCell → List Origin
made_by_reader_due b c =
    made_if (is_due b.turn b.io_page.paper_tape.reader.operation) (made_by_reader b) c

abbrev pub made_by_disk_due : BusWorld → DataCell → List Origin
made_by_disk_due b c = made_if (is_due b.turn b.io_page.disk.operation) (made_by_disk b) c

-- the beginning of turn t until the completion of the printer, of the reader, and of the punch, if
-- they are due
unfoldable pub before_printer : ℕ → List Event → BusWorld → Progress
before_printer t events b = tick_due (after_events events (at_start (in_turn t b)))

unfoldable pub before_reader : ℕ → List Event → BusWorld → Progress
before_reader t events b = printer_due (before_printer t events b)

unfoldable pub before_punch : ℕ → List Event → BusWorld → Progress
before_punch t events b = reader_due (before_reader t events b)

-- of what the beginning of turn t makes each cell
unfoldable pub made_in_beginning : ℕ → List Event → BusWorld → DataCell → List Origin
made_in_beginning t events b c = flat_map (back_through (made_by_events events (OfEvent t) (at_start
    (in_turn t b)))) (flat_map (back_through (made_by_reader_due (before_reader t events b).bus))
    (made_by_disk_due (before_disk t events b).bus c))

-- Two buses are alike except for data, and each drive has as many words in both.
pub record BusesAlike (b d : BusWorld) : Type 0 where
  pub same_way : d ≡ bus_with (data_on d) d.log b
  pub core_size : length d.core ≡ length b.core
  pub drives_count : length d.drives ≡ length b.drives
  pub drive_sizes : (n : ℕ)
      → length (words_of_drive d.drives n) ≡ length (words_of_drive b.drives n)

-- Before each event both buses are alike, and the events are the same except for their data.
unfoldable pub EventsAlike : List Event → List Event → Progress → Progress → Type 0
EventsAlike [] [] p q = Unit {0}
EventsAlike (e ∷ es) (f ∷ fs) p q = BusesAlike p.bus q.bus × (f ≡ with_event_data (event_data f) e)
    × EventsAlike es fs (after_event e p) (after_event f q)
EventsAlike [] (f ∷ fs) p q = ⊥
EventsAlike (e ∷ es) [] p q = ⊥

-- The beginning of turn t goes the same way in two worlds: both are alike before each event, before
-- the completion of the printer, the reader, the punch and the disk, and when the act begins.
pub record BeginAlike (t : ℕ) (es fs : List Event) (w v : World) : Type 0 where
  pub events : EventsAlike es fs (at_start (in_turn t w.bus)) (at_start (in_turn t v.bus))
  pub printer : BusesAlike (before_printer t es w.bus).bus (before_printer t fs v.bus).bus
  pub reader : BusesAlike (before_reader t es w.bus).bus (before_reader t fs v.bus).bus
  pub punch : BusesAlike (before_punch t es w.bus).bus (before_punch t fs v.bus).bus
  pub disk : BusesAlike (before_disk t es w.bus).bus (before_disk t fs v.bus).bus
  pub act : WorldsAlike (beginning t es w) (beginning t fs v)

-- The events are the same except for their data.
abbrev pub AreSameEvents : List Event → List Event → Type 0
AreSameEvents [] [] = Unit {0}
AreSameEvents (e ∷ es) (f ∷ fs) = (f ≡ with_event_data (event_data f) e) × AreSameEvents es fs
AreSameEvents [] (f ∷ fs) = ⊥
AreSameEvents (e ∷ es) [] = ⊥

-- Two buses between two turns: alike except for data, with tapes of one length, and the function
-- that was written last is no write check, whose result is no data.
pub record AlikeBetween (b d : BusWorld) : Type 0 where
  pub buses : BusesAlike b d
  pub tape_size : length d.tape ≡ length b.tape
  pub no_write_check : is_write_check b.io_page.disk.function ≡ false

-- The law of beginnings: two worlds are alike between two turns, and the events are the same but
-- for their data. Then the beginning of the turn goes the same way in both.
abbrev pub BeginningsGoAlike : Type 0
BeginningsGoAlike = (t : ℕ) (es fs : List Event) (w v : World) → WorldsAlike w v
    → AlikeBetween w.bus v.bus → AreSameEvents es fs → BeginAlike t es fs w v
