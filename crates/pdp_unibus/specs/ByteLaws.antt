-- What the laws of printed and punched bytes and of completions say: each name is the law's
-- sentence [P].
use Rattle.std.specs.Prelude.{◌≡◌, ◌≢◌, ℕ, Bool, true, false, ◌&&◌, not, List, [], ◌∷◌, All}
use Rattle.std.specs.Prelude.{if◌then◌else◌}
use Rattle.pdp_device.specs.Operation.{is_due, is_under_way}
use Rattle.pdp_device.specs.declared.operation.Operation.{Operation}
use Rattle.pdp_device.specs.declared.operation.Operation.TheVariants.{Idle}
use Rattle.pdp_device.specs.declared.transmitter.Transmitter.{Transmitter}
use Rattle.pdp_tape.specs.Reader.{read_over}
use Rattle.pdp_tape.specs.declared.reader.Reader.{Reader}
use Rattle.pdp_unibus.specs.Handbook.Beginning.{after_beginning}
use Rattle.pdp_unibus.specs.Handbook.BusWorld.{BusWorld}
use Rattle.pdp_io_page.specs.Laws.{RegisterUse, io_page_after_uses}
use Rattle.pdp_unibus.specs.Handbook.Tape.{next_byte, read_on}
use Rattle.pdp_io_page.specs.declared.io_page.IoPage.{IoPage}
use Rattle.pdp_unibus.specs.declared.event.Event.{Event}
use Rattle.pdp_unibus.specs.declared.event.Event.TheVariants.{DiskDone, PrinterDone, ReaderDone}
use Rattle.pdp_unibus.specs.declared.event.Event.TheVariants.{PunchDone}

-- the I/O page when turn t has begun, with these events
abbrev pub io_page_begun : ℕ → List Event → BusWorld → IoPage
io_page_begun t events w = (after_beginning t events w).bus.io_page

-- a transmitter's operation has ended: it was under way before, and isn't after
abbrev pub has_ended : Operation → Operation → Bool
has_ended before after = is_under_way before && not (is_under_way after)

-- what comes out if a transmitter was this before and is that after: its byte, if its operation has
-- ended
abbrev pub came_out : Transmitter → Transmitter → List ℕ
came_out before after = if has_ended before.operation after.operation then before.byte ∷ [] else []

-- in the beginning of a turn the printer's byte, as it is there, is printed exactly if its
-- operation ends, once, and nothing else is
abbrev pub BytesArePrintedAsOperationsEnd : Type 0
BytesArePrintedAsOperationsEnd = (t : ℕ) (events : List Event) (w : BusWorld)
    → (after_beginning t events w).printed ≡ came_out w.io_page.console.printer
    (io_page_begun t events w).console.printer

-- and so with the punch
abbrev pub BytesArePunchedAsOperationsEnd : Type 0
BytesArePunchedAsOperationsEnd = (t : ℕ) (events : List Event) (w : BusWorld)
    → (after_beginning t events w).punched ≡ came_out w.io_page.paper_tape.punch
    (io_page_begun t events w).paper_tape.punch

-- none of these events is that one
abbrev pub Without : Event → List Event → Type 0
Without event events = All (λ e. e ≢ event) events

-- what is left of an operation when turn t has begun, if it has no event: nothing if it is due, and
-- else all
abbrev pub left_at : ℕ → Operation → Operation
left_at t o = if is_due t o then Idle else o

-- without its event the printer's operation ends in the turn in which it is due, and else goes on
abbrev pub PrintingEndsWhenDue : Type 0
PrintingEndsWhenDue = (t : ℕ) (events : List Event) (w : BusWorld) → Without PrinterDone events
    → (io_page_begun t events w).console.printer.operation ≡ left_at t
    w.io_page.console.printer.operation

-- and so with the reader and the punch
abbrev pub ReadingEndsWhenDue : Type 0
ReadingEndsWhenDue = (t : ℕ) (events : List Event) (w : BusWorld) → Without ReaderDone events
    → (io_page_begun t events w).paper_tape.reader.operation ≡ left_at t
    w.io_page.paper_tape.reader.operation

abbrev pub PunchingEndsWhenDue : Type 0
PunchingEndsWhenDue = (t : ℕ) (events : List Event) (w : BusWorld) → Without PunchDone events
    → (io_page_begun t events w).paper_tape.punch.operation ≡ left_at t
    w.io_page.paper_tape.punch.operation

-- and with the disk
abbrev pub DiskEndsWhenDue : Type 0
DiskEndsWhenDue = (t : ℕ) (events : List Event) (w : BusWorld) → Without DiskDone events
    → (io_page_begun t events w).disk.operation ≡ left_at t w.io_page.disk.operation

-- whichever registers are read and written meanwhile, an operation that is under way stays as it
-- was begun
abbrev pub PrintingOutlivesUses : Type 0
PrintingOutlivesUses = (uses : List RegisterUse) (b : IoPage) → is_under_way
    b.console.printer.operation ≡ true
    → (io_page_after_uses uses b).console.printer.operation ≡ b.console.printer.operation

abbrev pub ReadingOutlivesUses : Type 0
ReadingOutlivesUses = (uses : List RegisterUse) (b : IoPage) → is_under_way
    b.paper_tape.reader.operation ≡ true
    → (io_page_after_uses uses b).paper_tape.reader.operation ≡ b.paper_tape.reader.operation

abbrev pub PunchingOutlivesUses : Type 0
PunchingOutlivesUses = (uses : List RegisterUse) (b : IoPage) → is_under_way
    b.paper_tape.punch.operation ≡ true
    → (io_page_after_uses uses b).paper_tape.punch.operation ≡ b.paper_tape.punch.operation

-- the disk's, while its controller isn't ready
abbrev pub DiskOutlivesUses : Type 0
DiskOutlivesUses = (uses : List RegisterUse) (b : IoPage) → b.disk.ready_enable.ready ≡ false
    → (io_page_after_uses uses b).disk.operation ≡ b.disk.operation

abbrev pub reader_of : BusWorld → Reader
reader_of w = w.io_page.paper_tape.reader

-- a read that ends takes the next byte of the tape, or finds its end; else the reader, and how many
-- bytes were read, are as they were
abbrev pub ReadsTakeTheNextByte : Type 0
ReadsTakeTheNextByte = (t : ℕ) (events : List Event) (w : BusWorld)
    → (has_ended (reader_of w).operation (reader_of (after_beginning t events w).bus).operation
    ≡ true
    → (reader_of (after_beginning t events w).bus ≡ read_over (next_byte w.tape w.bytes_read)
    (reader_of w))
    × ((after_beginning t events w).bus.bytes_read ≡ read_on w.tape w.bytes_read))
    × (has_ended (reader_of w).operation (reader_of (after_beginning t events w).bus).operation
    ≡ false
    → (reader_of (after_beginning t events w).bus ≡ reader_of w) × ((after_beginning t events
    w).bus.bytes_read ≡ w.bytes_read))

-- the tape's bytes are as they were
abbrev pub TapesStay : Type 0
TapesStay = (t : ℕ) (events : List Event) (w : BusWorld) → (after_beginning t events w).bus.tape
    ≡ w.tape
