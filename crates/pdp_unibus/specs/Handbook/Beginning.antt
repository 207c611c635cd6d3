-- The beginning of a turn: its events, a tick of the clock, and the operations that are due [P].
use Rattle.std.specs.Prelude.{ℕ, ◌%◌, ◌==◌, ◌&&◌, nat_lt, Bool, List, [], ◌∷◌, ◌++◌, option_to_list}
use Rattle.std.specs.Prelude.{if◌then◌else◌}
use Rattle.pdp_device.specs.Operation.{is_due}
use Rattle.pdp_console.specs.Kl.{kl_completed, kl_printed, kl_struck}
use Rattle.pdp_console.specs.Kw.{kw_ticked}
use Rattle.pdp_tape.specs.Pc11.{pc11_punch_completed, pc11_punched, pc11_reader_completed}
use Rattle.pdp_tape.specs.Reader.{takes_byte}
use Rattle.pdp_rk11.specs.Handbook.Completion.{rk_completed}
use Rattle.pdp_rk11.specs.Trace.{completion_touches}
use Rattle.pdp_store.specs.FirstTouches.{first_touches_after}
use Rattle.pdp_io_page.specs.Handbook.Delays.{is_tick}
use Rattle.pdp_unibus.specs.Handbook.BusWorld.{BusWorld, disk_world_of, with_io_page}
use Rattle.pdp_unibus.specs.Handbook.BusWorld.{with_disk_world}
use Rattle.pdp_unibus.specs.Handbook.BusWorld.{with_first_touches}
use Rattle.pdp_unibus.specs.Handbook.Tape.{next_byte, read_on}
use Rattle.pdp_unibus.specs.declared.beginning.Output.{Output}
use Rattle.pdp_io_page.specs.declared.io_page.IoPage.{IoPage}
use Rattle.pdp_unibus.specs.declared.event.Event.{Event}
use Rattle.pdp_unibus.specs.declared.event.Event.TheVariants.{Key, Tick, PrinterDone, ReaderDone}
use Rattle.pdp_unibus.specs.declared.event.Event.TheVariants.{PunchDone, DiskDone, Switches}
use Rattle.pdp_unibus.specs.declared.event.Event.TheVariants.{Continue}

-- the bus, and the bytes that were printed and punched so far in the beginning of a turn
pub record Progress : Type 0 where
  pub bus : BusWorld
  pub printed : List ℕ
  pub punched : List ℕ

-- with what came out of it
abbrev pub progress : BusWorld → Output → Progress
progress w output =
    record {
      bus = w;
      printed = option_to_list output.printed;
      punched = option_to_list
          output.punched;
    }

-- the bus as turn t begins: its cycles are those of the turn
abbrev pub in_turn : ℕ → BusWorld → BusWorld
in_turn t w = record w { turn = t }

-- nothing came out yet
abbrev pub at_start : BusWorld → Progress
at_start w = record { bus = w; printed = []; punched = [] }

abbrev pub on_io_page : Progress → IoPage → Progress
on_io_page p io_page = record p { bus = with_io_page p.bus io_page }

-- a key is struck [6.54]
abbrev pub after_key : ℕ → Progress → Progress
after_key key p = on_io_page p (record p.bus.io_page {
  console = kl_struck p.bus.io_page.console key;
})

-- the clock ticks [6.55]
abbrev pub clock_ticked : Progress → Progress
clock_ticked p = on_io_page p (record p.bus.io_page { clock = kw_ticked p.bus.io_page.clock })

-- the printer completes: its byte joins the text [6.59]
abbrev pub printer_done : Progress → Progress
printer_done p = record (on_io_page p (record p.bus.io_page {
  console = kl_completed
      p.bus.io_page.console;
})) {
  printed = p.printed ++ option_to_list (kl_printed p.bus.io_page.console);
}

-- the reader completes: if it was reading, the next byte of the tape is taken [6.64]
abbrev pub reader_done : Progress → Progress
reader_done p = record p {
  bus = record p.bus {
    io_page = record p.bus.io_page {
      paper_tape = pc11_reader_completed (next_byte p.bus.tape
          p.bus.bytes_read) p.bus.io_page.paper_tape;
    };
    bytes_read = if takes_byte p.bus.io_page.paper_tape.reader then read_on p.bus.tape
        p.bus.bytes_read else p.bus.bytes_read;
  };
}

-- the punch completes: its byte joins those punched [6.60]
abbrev pub punch_done : Progress → Progress
punch_done p = record (on_io_page p (record p.bus.io_page {
  paper_tape = pc11_punch_completed
      p.bus.io_page.paper_tape;
})) {
  punched = p.punched ++ option_to_list (pc11_punched p.bus.io_page.paper_tape);
}

-- the switches are set
abbrev pub switches_set : ℕ → Progress → Progress
switches_set word p = on_io_page p (record p.bus.io_page { switches = word })

-- the disk completes: its function is done, to core and the drives, and the pages of the words that
-- it moves or compares are touched [6.72]
abbrev pub disk_done : Progress → Progress
disk_done p = record p {
  bus = with_first_touches (with_disk_world p.bus (rk_completed p.bus.turn (disk_world_of p.bus)))
      (first_touches_after (completion_touches p.bus.turn (disk_world_of p.bus))
      p.bus.first_touches);
}

-- what an event does to the bus; Continue is the processor's [6.58] [8.5]
abbrev pub after_event : Event → Progress → Progress
after_event (Key key) p = after_key key p
after_event Tick p = clock_ticked p
after_event PrinterDone p = printer_done p
after_event ReaderDone p = reader_done p
after_event PunchDone p = punch_done p
after_event DiskDone p = disk_done p
after_event (Switches word) p = switches_set word p
after_event Continue p = p

-- what events do, in their order
abbrev pub after_events : List Event → Progress → Progress
after_events [] p = p
after_events (e ∷ es) p = after_events es (after_event e p)

-- a step that takes place if its cause holds
abbrev pub where_due : Bool → (Progress → Progress) → Progress → Progress
where_due due step p = if due then step p else p

abbrev pub tick_due : Progress → Progress
tick_due p = where_due (is_tick p.bus.turn p.bus.io_page.delays.clock) clock_ticked p

abbrev pub printer_due : Progress → Progress
printer_due p = where_due (is_due p.bus.turn p.bus.io_page.console.printer.operation) printer_done p

abbrev pub reader_due : Progress → Progress
reader_due p = where_due (is_due p.bus.turn p.bus.io_page.paper_tape.reader.operation) reader_done p

abbrev pub punch_due : Progress → Progress
punch_due p = where_due (is_due p.bus.turn p.bus.io_page.paper_tape.punch.operation) punch_done p

abbrev pub disk_due : Progress → Progress
disk_due p = where_due (is_due p.bus.turn p.bus.io_page.disk.operation) disk_done p

-- the beginning of turn t until the disk's completion, if it is due: its events in their order, a
-- tick, and the completions that are due of the printer, the reader and the punch
unfoldable pub before_disk : ℕ → List Event → BusWorld → Progress
before_disk t events w = punch_due (reader_due (printer_due (tick_due (after_events events
    (at_start (in_turn t w))))))

-- the beginning of turn t: its events in their order, a tick, and the completions that are due:
-- printer, reader, punch, disk
unfoldable pub after_beginning : ℕ → List Event → BusWorld → Progress
after_beginning t events w = disk_due (before_disk t events w)
