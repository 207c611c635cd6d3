-- The one rule of requests, of each ready/enable pair of the I/O page.
use Rattle.std.proofs.Common.{◌≡◌, Bool, true, false, ◌&&◌, ◌||◌, not, ℕ, refl, sym, subst, ap, if◌then◌else◌}
use Rattle.std.proofs.lemmas.Bool.{and_parts}
use Rattle.pdp_device.specs.Request.{request_after}
use Rattle.pdp_console.specs.declared.kl.KlRegister.TheVariants.{KeyboardStatus, KeyboardBuffer, PrinterStatus, PrinterBuffer}
use Rattle.pdp_device.specs.ReadyEnable.{ready_enable_with, enable_written, wants_interrupt}
use Rattle.pdp_device.specs.Operation.{is_under_way}
use Rattle.pdp_device.specs.Transmitter.{byte_written, transmitter_completed}
use Rattle.pdp_device.specs.declared.ready_enable.ReadyEnable.{ReadyEnable}
use Rattle.pdp_device.specs.declared.transmitter.Transmitter.{Transmitter}
use Rattle.pdp_rk11.proofs.Readiness.{completed_ready_enable, completed_idle}
use Rattle.pdp_rk11.specs.Handbook.Completion.{rk_completed as completion}
use Rattle.pdp_rk11.specs.declared.rk.ControlWrite.{ControlWrite}
use Rattle.pdp_rk11.specs.Handbook.Rk.{rk_commanded, function_of, gone_with, rk_written}
use Rattle.pdp_rk11.specs.declared.function.Function.{Function}
use Rattle.pdp_rk11.specs.declared.function.Function.TheVariants.{ControlReset, Write, Read, WriteCheck, Seek, ReadCheck, DriveReset, WriteLock}
use Rattle.pdp_rk11.specs.declared.register.RkRegister.TheVariants as rk
use Rattle.pdp_rk11.specs.declared.rk.Rk.{Rk}
use Rattle.pdp_tape.specs.declared.pc11.Pc11Register.TheVariants.{ReaderBuffer, PunchStatus, PunchBuffer}
use Rattle.pdp_unibus.proofs.Frame.{event_leaves, use_leaves}
use Rattle.pdp_unibus.specs.Handbook.Beginning.{Progress, after_event}
use Rattle.pdp_unibus.specs.Handbook.BusWorld.{disk_world_of}
use Rattle.pdp_word.specs.Bits.{field}
use Rattle.pdp_word.specs.Mask.{is_set}
use Rattle.pdp_rk11.specs.Handbook.Bits.{rkcs_enable, rkcs_go}
use Rattle.pdp_io_page.specs.Laws.{RegisterUse, Reading, Writing, io_page_after_use}
use Rattle.pdp_io_page.specs.Handbook.Register.{after_read, after_write}
use Rattle.pdp_unibus.specs.RuleLaws.{GoesByTheRule, IsSound, RequestsGoByTheRule, disk_ready_enable, keyboard_ready_enable, printer_ready_enable, punch_ready_enable}
use Rattle.pdp_io_page.specs.declared.io_page.IoPage.{IoPage}
use Rattle.pdp_unibus.specs.declared.event.Event.{Event}
use Rattle.pdp_unibus.specs.declared.event.Event.TheVariants.{Key, PrinterDone, ReaderDone, PunchDone, DiskDone}
use Rattle.pdp_io_page.specs.declared.register.Register.TheVariants as register
use Rattle.pdp_io_page.specs.declared.register.Register.TheVariants.{Console, PaperTape}

-- a ready/enable pair that isn't changed
same_request : (calls request : Bool) → (request ≡ true → calls ≡ true) → request ≡ request_after calls calls request
same_request true true sound = refl
same_request true false sound = refl
same_request false false sound = refl
same_request false true sound = absurd (cc (sound refl))

unchanged : (c : ReadyEnable) → IsSound c → GoesByTheRule c c
unchanged c sound = record { request = same_request (wants_interrupt c) c.request sound; sound = sound }

-- so is one of a device that is left
left : (before after : ReadyEnable) → after ≡ before → IsSound before → GoesByTheRule before after
left before after same sound = subst (GoesByTheRule before) (sym same) (unchanged before sound)

-- one change of ready and enable
changed : (ready enable : Bool) (c : ReadyEnable) → GoesByTheRule c (ready_enable_with ready enable c)
changed ready enable c = record {
  request = refl;
  sound = λ asks. (and_parts (ready && enable) (c.request || not (wants_interrupt c)) asks).0;
}

-- a byte is written, and a completion, of a transmitter that is busy or isn't
written : (byte turn delay : ℕ) (o : Transmitter) (busy : Bool) → is_under_way o.operation ≡ busy → IsSound o.ready_enable
    → GoesByTheRule o.ready_enable (byte_written byte turn delay o).ready_enable
written byte turn delay o true busy sound = rw busy (unchanged o.ready_enable sound)
written byte turn delay o false idle sound = rw idle (changed false o.ready_enable.enable o.ready_enable)

completed : (o : Transmitter) (busy : Bool) → is_under_way o.operation ≡ busy → IsSound o.ready_enable
    → GoesByTheRule o.ready_enable (transmitter_completed o).ready_enable
completed o true busy sound = rw busy (changed true o.ready_enable.enable o.ready_enable)
completed o false idle sound = rw idle (unchanged o.ready_enable sound)

keyboard_uses : (u : RegisterUse) (b : IoPage) → IsSound (keyboard_ready_enable b) → GoesByTheRule (keyboard_ready_enable b) (keyboard_ready_enable (io_page_after_use u b))
unfolding after_read after_write
keyboard_uses (Reading (Console KeyboardBuffer)) b sound = changed false (keyboard_ready_enable b).enable (keyboard_ready_enable b)
keyboard_uses (Reading (Console r)) b sound = unchanged (keyboard_ready_enable b) sound
keyboard_uses (Writing (Console KeyboardStatus) word turn) b sound = changed (keyboard_ready_enable b).ready _ (keyboard_ready_enable b)
keyboard_uses (Writing (Console r) word turn) b sound = unchanged (keyboard_ready_enable b) sound
keyboard_uses u b sound =
    left _ _ (ap (λ d. d.keyboard.ready_enable) ((use_leaves u b).console (λ is. cc is))) sound

keyboard_events : (e : Event) (p : Progress) → IsSound (keyboard_ready_enable p.bus.io_page)
    → GoesByTheRule (keyboard_ready_enable p.bus.io_page) (keyboard_ready_enable (after_event e p).bus.io_page)
keyboard_events (Key key) p sound = changed true (keyboard_ready_enable p.bus.io_page).enable (keyboard_ready_enable p.bus.io_page)
keyboard_events PrinterDone p sound = unchanged (keyboard_ready_enable p.bus.io_page) sound
keyboard_events e p sound =
    left _ _ (ap (λ d. d.keyboard.ready_enable) ((event_leaves e p).io_page.console (λ is. cc is))) sound

printer_uses : (u : RegisterUse) (b : IoPage) → IsSound (printer_ready_enable b) → GoesByTheRule (printer_ready_enable b) (printer_ready_enable (io_page_after_use u b))
unfolding after_read after_write
printer_uses (Reading (Console KeyboardBuffer)) b sound = unchanged (printer_ready_enable b) sound
printer_uses (Reading (Console r)) b sound = unchanged (printer_ready_enable b) sound
printer_uses (Writing (Console PrinterStatus) word turn) b sound = changed (printer_ready_enable b).ready _ (printer_ready_enable b)
printer_uses (Writing (Console PrinterBuffer) word turn) b sound = written _ turn b.delays.printer b.console.printer (is_under_way b.console.printer.operation) refl sound
printer_uses (Writing (Console r) word turn) b sound = unchanged (printer_ready_enable b) sound
printer_uses u b sound =
    left _ _ (ap (λ d. d.printer.ready_enable) ((use_leaves u b).console (λ is. cc is))) sound

printer_events : (e : Event) (p : Progress) → IsSound (printer_ready_enable p.bus.io_page)
    → GoesByTheRule (printer_ready_enable p.bus.io_page) (printer_ready_enable (after_event e p).bus.io_page)
printer_events PrinterDone p sound = completed p.bus.io_page.console.printer (is_under_way p.bus.io_page.console.printer.operation) refl sound
printer_events (Key key) p sound = unchanged (printer_ready_enable p.bus.io_page) sound
printer_events e p sound =
    left _ _ (ap (λ d. d.printer.ready_enable) ((event_leaves e p).io_page.console (λ is. cc is))) sound

punch_uses : (u : RegisterUse) (b : IoPage) → IsSound (punch_ready_enable b) → GoesByTheRule (punch_ready_enable b) (punch_ready_enable (io_page_after_use u b))
unfolding after_read after_write
punch_uses (Reading (PaperTape ReaderBuffer)) b sound = unchanged (punch_ready_enable b) sound
punch_uses (Reading (PaperTape r)) b sound = unchanged (punch_ready_enable b) sound
punch_uses (Writing (PaperTape PunchStatus) word turn) b sound = changed (punch_ready_enable b).ready _ (punch_ready_enable b)
punch_uses (Writing (PaperTape PunchBuffer) word turn) b sound = written _ turn b.delays.punch b.paper_tape.punch (is_under_way b.paper_tape.punch.operation) refl sound
punch_uses (Writing (PaperTape r) word turn) b sound = unchanged (punch_ready_enable b) sound
punch_uses u b sound =
    left _ _ (ap (λ d. d.punch.ready_enable) ((use_leaves u b).paper_tape (λ is. cc is))) sound

punch_events : (e : Event) (p : Progress) → IsSound (punch_ready_enable p.bus.io_page)
    → GoesByTheRule (punch_ready_enable p.bus.io_page) (punch_ready_enable (after_event e p).bus.io_page)
punch_events PunchDone p sound = completed p.bus.io_page.paper_tape.punch (is_under_way p.bus.io_page.paper_tape.punch.operation) refl sound
punch_events ReaderDone p sound = unchanged (punch_ready_enable p.bus.io_page) sound
punch_events e p sound =
    left _ _ (ap (λ d. d.punch.ready_enable) ((event_leaves e p).io_page.paper_tape (λ is. cc is))) sound

pub keyboard_goes : RequestsGoByTheRule keyboard_ready_enable
keyboard_goes = record { uses = keyboard_uses; events = keyboard_events; power = λ delays asks. absurd (cc asks) }

pub printer_goes : RequestsGoByTheRule printer_ready_enable
printer_goes = record { uses = printer_uses; events = printer_events; power = λ delays asks. absurd (cc asks) }

pub punch_goes : RequestsGoByTheRule punch_ready_enable
punch_goes = record { uses = punch_uses; events = punch_events; power = λ delays asks. absurd (cc asks) }

-- go with a function, while ready
gone : (function : Function) (write : ControlWrite) (disk : Rk) → GoesByTheRule disk.ready_enable (gone_with function write disk).ready_enable
gone ControlReset write disk = changed true false disk.ready_enable
gone Write write disk = changed false (is_set rkcs_enable write.word) disk.ready_enable
gone Read write disk = changed false (is_set rkcs_enable write.word) disk.ready_enable
gone WriteCheck write disk = changed false (is_set rkcs_enable write.word) disk.ready_enable
gone Seek write disk = changed false (is_set rkcs_enable write.word) disk.ready_enable
gone ReadCheck write disk = changed false (is_set rkcs_enable write.word) disk.ready_enable
gone DriveReset write disk = changed false (is_set rkcs_enable write.word) disk.ready_enable
gone WriteLock write disk = changed false (is_set rkcs_enable write.word) disk.ready_enable

with_go : (goes : Bool) (write : ControlWrite) (disk : Rk) → is_set rkcs_go write.word ≡ goes
    → GoesByTheRule disk.ready_enable (rk_commanded write disk).ready_enable
with_go true write disk is = rw is (gone (function_of (field 1 3 write.word)) write disk)
with_go false write disk is = rw is (changed disk.ready_enable.ready (is_set rkcs_enable write.word) disk.ready_enable)

controlled : (ready : Bool) (write : ControlWrite) (disk : Rk)
    → GoesByTheRule disk.ready_enable (if ready then rk_commanded write disk else record disk { ready_enable = enable_written write.word disk.ready_enable }).ready_enable
controlled true write disk = with_go (is_set rkcs_go write.word) write disk refl
controlled false write disk = changed disk.ready_enable.ready (is_set rkcs_enable write.word) disk.ready_enable

-- a register that is written while ready alone, and leaves the ready/enable pair
written_while : (ready : Bool) (disk after : Rk) → after.ready_enable ≡ disk.ready_enable → IsSound disk.ready_enable
    → GoesByTheRule disk.ready_enable (if ready then after else disk).ready_enable
written_while true disk after same sound = rw same (unchanged disk.ready_enable sound)
written_while false disk after same sound = unchanged disk.ready_enable sound

disk_uses : (u : RegisterUse) (b : IoPage) → IsSound (disk_ready_enable b) → GoesByTheRule (disk_ready_enable b) (disk_ready_enable (io_page_after_use u b))
unfolding after_read after_write rk_written
disk_uses (Reading (register.Disk r)) b sound = unchanged (disk_ready_enable b) sound
disk_uses (Writing (register.Disk rk.DriveStatus) word turn) b sound = unchanged (disk_ready_enable b) sound
disk_uses (Writing (register.Disk rk.Error) word turn) b sound = unchanged (disk_ready_enable b) sound
disk_uses (Writing (register.Disk rk.Control) word turn) b sound = controlled b.disk.ready_enable.ready (record { word = word; turn = turn; delay = b.delays.disk }) b.disk
disk_uses (Writing (register.Disk r) word turn) b sound = written_while b.disk.ready_enable.ready b.disk _ refl sound
disk_uses u b sound =
    left _ _ (ap (λ d. d.ready_enable) ((use_leaves u b).disk (λ is. cc is))) sound

disk_completed : (busy : Bool) (p : Progress) → is_under_way p.bus.io_page.disk.operation ≡ busy → IsSound (disk_ready_enable p.bus.io_page)
    → GoesByTheRule (disk_ready_enable p.bus.io_page) (completion p.bus.turn (disk_world_of p.bus)).rk.ready_enable
disk_completed true p is sound =
    rw (completed_ready_enable p.bus.turn (disk_world_of p.bus) is) (changed true (disk_ready_enable p.bus.io_page).enable (disk_ready_enable p.bus.io_page))
disk_completed false p is sound = rw (completed_idle p.bus.turn (disk_world_of p.bus) is) (unchanged (disk_ready_enable p.bus.io_page) sound)

disk_events : (e : Event) (p : Progress) → IsSound (disk_ready_enable p.bus.io_page)
    → GoesByTheRule (disk_ready_enable p.bus.io_page) (disk_ready_enable (after_event e p).bus.io_page)
disk_events DiskDone p sound = disk_completed (is_under_way p.bus.io_page.disk.operation) p refl sound
disk_events e p sound =
    left _ _ (ap (λ d. d.ready_enable) ((event_leaves e p).io_page.disk (λ is. cc is))) sound

pub disk_goes : RequestsGoByTheRule disk_ready_enable
disk_goes = record { uses = disk_uses; events = disk_events; power = λ delays asks. absurd (cc asks) }
