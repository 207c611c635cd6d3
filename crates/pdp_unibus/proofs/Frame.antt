-- What the use of a register and an event leave on the I/O page, device by device. The last row of each function stands for
-- all registers, or all events, that no row before it names.
use Rattle.std.proofs.Common.{◌≡◌, ◌≢◌, Some, refl}
use Rattle.pdp_unibus.specs.Handbook.Beginning.{Progress, after_event}
use Rattle.pdp_unibus.specs.Frame.{Owner as owner, EventsLeaveOthers, LeavesOthers, UsesLeaveOthers, owner_met, owner_used}
use Rattle.pdp_io_page.specs.Laws.{RegisterUse, Reading, Writing, io_page_after_use}
use Rattle.pdp_io_page.specs.Handbook.Register.{after_read, after_write}
use Rattle.pdp_io_page.specs.declared.io_page.IoPage.{IoPage}
use Rattle.pdp_unibus.specs.declared.event.Event.{Event}
use Rattle.pdp_unibus.specs.declared.event.Event.TheVariants as event
use Rattle.pdp_io_page.specs.declared.register.Register.TheVariants as register

console_left : (u : RegisterUse) (b : IoPage) → owner_used u ≢ Some owner.Console → (io_page_after_use u b).console ≡ b.console
unfolding after_read after_write
console_left (Reading (register.Console r)) b other = absurd (other refl)
console_left (Writing (register.Console r) word turn) b other = absurd (other refl)
console_left _ b other = refl

clock_left : (u : RegisterUse) (b : IoPage) → owner_used u ≢ Some owner.Clock → (io_page_after_use u b).clock ≡ b.clock
unfolding after_read after_write
clock_left (Writing register.Clock word turn) b other = absurd (other refl)
clock_left (Reading register.Clock) b other = refl
clock_left _ b other = refl

paper_tape_left : (u : RegisterUse) (b : IoPage) → owner_used u ≢ Some owner.PaperTape → (io_page_after_use u b).paper_tape ≡ b.paper_tape
unfolding after_read after_write
paper_tape_left (Reading (register.PaperTape r)) b other = absurd (other refl)
paper_tape_left (Writing (register.PaperTape r) word turn) b other = absurd (other refl)
paper_tape_left _ b other = refl

disk_left : (u : RegisterUse) (b : IoPage) → owner_used u ≢ Some owner.Disk → (io_page_after_use u b).disk ≡ b.disk
unfolding after_read after_write
disk_left (Writing (register.Disk r) word turn) b other = absurd (other refl)
disk_left (Reading (register.Disk r)) b other = refl
disk_left _ b other = refl

switches_left : (u : RegisterUse) (b : IoPage) → (io_page_after_use u b).switches ≡ b.switches
unfolding after_read after_write
switches_left (Reading register.Switches) b = refl
switches_left (Writing register.Switches word turn) b = refl
switches_left _ b = refl

mapping_left : (u : RegisterUse) (b : IoPage) → owner_used u ≢ Some owner.Mapping → (io_page_after_use u b).mapping ≡ b.mapping
unfolding after_read after_write
mapping_left (Writing (register.Mapping r) word turn) b other = absurd (other refl)
mapping_left (Reading (register.Mapping r)) b other = refl
mapping_left _ b other = refl

status_left : (u : RegisterUse) (b : IoPage) → owner_used u ≢ Some owner.Status → (io_page_after_use u b).status ≡ b.status
unfolding after_read after_write
status_left (Writing register.ProgramStatus word turn) b other = absurd (other refl)
status_left (Reading register.ProgramStatus) b other = refl
status_left _ b other = refl

delays_left : (u : RegisterUse) (b : IoPage) → (io_page_after_use u b).delays ≡ b.delays
unfolding after_read after_write
delays_left (Reading register.Switches) b = refl
delays_left (Writing register.Switches word turn) b = refl
delays_left _ b = refl

pub use_leaves : UsesLeaveOthers
use_leaves u b = record {
  console = console_left u b;
  clock = clock_left u b;
  paper_tape = paper_tape_left u b;
  disk = disk_left u b;
  switches = λ other. switches_left u b;
  mapping = mapping_left u b;
  status = status_left u b;
  delays = delays_left u b;
}

console_met : (e : Event) (p : Progress) → owner_met e ≢ Some owner.Console → (after_event e p).bus.io_page.console ≡ p.bus.io_page.console
console_met (event.Key key) p other = absurd (other refl)
console_met event.PrinterDone p other = absurd (other refl)
console_met _ p other = refl

clock_met : (e : Event) (p : Progress) → owner_met e ≢ Some owner.Clock → (after_event e p).bus.io_page.clock ≡ p.bus.io_page.clock
clock_met event.Tick p other = absurd (other refl)
clock_met _ p other = refl

paper_tape_met : (e : Event) (p : Progress) → owner_met e ≢ Some owner.PaperTape → (after_event e p).bus.io_page.paper_tape ≡ p.bus.io_page.paper_tape
paper_tape_met event.ReaderDone p other = absurd (other refl)
paper_tape_met event.PunchDone p other = absurd (other refl)
paper_tape_met _ p other = refl

disk_met : (e : Event) (p : Progress) → owner_met e ≢ Some owner.Disk → (after_event e p).bus.io_page.disk ≡ p.bus.io_page.disk
disk_met event.DiskDone p other = absurd (other refl)
disk_met _ p other = refl

switches_met : (e : Event) (p : Progress) → owner_met e ≢ Some owner.Switches → (after_event e p).bus.io_page.switches ≡ p.bus.io_page.switches
switches_met (event.Switches word) p other = absurd (other refl)
switches_met _ p other = refl

mapping_met : (e : Event) (p : Progress) → (after_event e p).bus.io_page.mapping ≡ p.bus.io_page.mapping
mapping_met event.DiskDone p = refl
mapping_met _ p = refl

status_met : (e : Event) (p : Progress) → (after_event e p).bus.io_page.status ≡ p.bus.io_page.status
status_met event.DiskDone p = refl
status_met _ p = refl

delays_met : (e : Event) (p : Progress) → (after_event e p).bus.io_page.delays ≡ p.bus.io_page.delays
delays_met event.DiskDone p = refl
delays_met _ p = refl

board_met : (e : Event) (p : Progress) → LeavesOthers (owner_met e) p.bus.io_page (after_event e p).bus.io_page
board_met e p = record {
  console = console_met e p;
  clock = clock_met e p;
  paper_tape = paper_tape_met e p;
  disk = disk_met e p;
  switches = switches_met e p;
  mapping = λ other. mapping_met e p;
  status = λ other. status_met e p;
  delays = delays_met e p;
}

printed_before : (e : Event) (p : Progress) → e ≢ event.PrinterDone → (after_event e p).printed ≡ p.printed
printed_before event.PrinterDone p other = absurd (other refl)
printed_before _ p other = refl

punched_before : (e : Event) (p : Progress) → e ≢ event.PunchDone → (after_event e p).punched ≡ p.punched
punched_before event.PunchDone p other = absurd (other refl)
punched_before _ p other = refl

read_before : (e : Event) (p : Progress) → e ≢ event.ReaderDone → (after_event e p).bus.bytes_read ≡ p.bus.bytes_read
read_before event.ReaderDone p other = absurd (other refl)
read_before _ p other = refl

tape_stays : (e : Event) (p : Progress) → (after_event e p).bus.tape ≡ p.bus.tape
tape_stays event.DiskDone p = refl
tape_stays _ p = refl

turn_stays : (e : Event) (p : Progress) → (after_event e p).bus.turn ≡ p.bus.turn
turn_stays event.DiskDone p = refl
turn_stays _ p = refl

pub event_leaves : EventsLeaveOthers
event_leaves e p = record {
  io_page = board_met e p;
  printed = printed_before e p;
  punched = punched_before e p;
  bytes_read = read_before e p;
  tape = tape_stays e p;
  turn = turn_stays e p;
}
