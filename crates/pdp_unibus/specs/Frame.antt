-- What the use of a register and an event leave on the I/O page: each name is the law's sentence.
-- No rule of the handbook is here.
use Rattle.std.specs.Prelude.{◌≡◌, ◌≢◌, Option, Some, None}
use Rattle.pdp_unibus.specs.Handbook.Beginning.{Progress, after_event}
use Rattle.pdp_io_page.specs.Laws.{RegisterUse, Reading, Writing, io_page_after_use}
use Rattle.pdp_io_page.specs.declared.io_page.IoPage.{IoPage}
use Rattle.pdp_unibus.specs.declared.event.Event.{Event}
use Rattle.pdp_unibus.specs.declared.event.Event.TheVariants as event
use Rattle.pdp_io_page.specs.declared.register.Register.{Register}
use Rattle.pdp_io_page.specs.declared.register.Register.TheVariants as register

-- what can change on the I/O page
pub data Owner : Type 0 where
  Console : Owner
  Clock : Owner
  PaperTape : Owner
  Disk : Owner
  Switches : Owner
  Mapping : Owner
  Status : Owner

-- the device whose register this is; the switches can't be written
abbrev pub owner_of : Register → Option Owner
owner_of (register.Console r) = Some Console
owner_of register.Clock = Some Clock
owner_of (register.PaperTape r) = Some PaperTape
owner_of (register.Disk r) = Some Disk
owner_of register.Switches = None
owner_of (register.Mapping r) = Some Mapping
owner_of register.ProgramStatus = Some Status

abbrev pub owner_used : RegisterUse → Option Owner
owner_used (Reading r) = owner_of r
owner_used (Writing r word turn) = owner_of r

-- the device to which an event happens; Continue is the processor's
abbrev pub owner_met : Event → Option Owner
owner_met (event.Key key) = Some Console
owner_met event.Tick = Some Clock
owner_met event.PrinterDone = Some Console
owner_met event.ReaderDone = Some PaperTape
owner_met event.PunchDone = Some PaperTape
owner_met event.DiskDone = Some Disk
owner_met (event.Switches word) = Some Switches
owner_met event.Continue = None

-- at most this one has changed from one board to the other
pub record LeavesOthers (changed : Option Owner) (before after : IoPage) : Type 0 where
  pub console : changed ≢ Some Console → after.console ≡ before.console
  pub clock : changed ≢ Some Clock → after.clock ≡ before.clock
  pub paper_tape : changed ≢ Some PaperTape → after.paper_tape ≡ before.paper_tape
  pub disk : changed ≢ Some Disk → after.disk ≡ before.disk
  pub switches : changed ≢ Some Switches → after.switches ≡ before.switches
  pub mapping : changed ≢ Some Mapping → after.mapping ≡ before.mapping
  pub status : changed ≢ Some Status → after.status ≡ before.status
  pub delays : after.delays ≡ before.delays

-- a register that is read or written leaves all but its own device
abbrev pub UsesLeaveOthers : Type 0
UsesLeaveOthers = (u : RegisterUse) (b : IoPage) → LeavesOthers (owner_used u) b
    (io_page_after_use u b)

-- an event leaves all but the device to which it happens; what is printed, what is punched and how
-- far the tape is read change by one event each; the tape and the turn stay
pub record EventLeaves (e : Event) (p : Progress) : Type 0 where
  pub io_page : LeavesOthers (owner_met e) p.bus.io_page (after_event e p).bus.io_page
  pub printed : e ≢ event.PrinterDone → (after_event e p).printed ≡ p.printed
  pub punched : e ≢ event.PunchDone → (after_event e p).punched ≡ p.punched
  pub bytes_read : e ≢ event.ReaderDone → (after_event e p).bus.bytes_read ≡ p.bus.bytes_read
  pub tape : (after_event e p).bus.tape ≡ p.bus.tape
  pub turn : (after_event e p).bus.turn ≡ p.bus.turn

abbrev pub EventsLeaveOthers : Type 0
EventsLeaveOthers = (e : Event) (p : Progress) → EventLeaves e p
