-- The beginning of a turn goes the same way in worlds that are alike.
use Rattle.std.proofs.Common.{◌≡◌, ◌∙◌, ◌&&◌, ◌∷◌, ◌+◌, ℕ, zero, suc, Bool, true, false, List, [], Option, Some, None, is_some, slice_get, length, map, get_or, refl, ap, sym, subst, arith, nat_lt, true≢false, if◌then◌else◌}
use Rattle.pdp_device.specs.Operation.{is_due, is_under_way}
use Rattle.pdp_device.specs.ReadyEnable.{with_ready}
use Rattle.pdp_device.specs.declared.operation.Operation.TheVariants.{Idle}
use Rattle.pdp_device.specs.declared.transmitter.Transmitter.{Transmitter}
use Rattle.pdp_tape.specs.Reader.{read_over, takes_byte}
use Rattle.pdp_tape.specs.declared.reader.Reader.{Reader as PaperReader}
use Rattle.pdp_store.specs.CycleLogs.{KeptCycles}
use Rattle.pdp_store.specs.FirstTouches.{first_touches_after}
use Rattle.pdp_store.specs.Parts.{words_of_drive}
use Rattle.pdp_store.specs.declared.Stamp.{Stamp}
use Rattle.pdp_rk11.specs.Handbook.Completion.{DiskWorld, disk_world, drive_of, is_write_check, lists_after, refusal, registers_after, rk_completed, rk_transferred, run_function, run_unless_refused, transfer_of, world_finished}
use Rattle.pdp_rk11.specs.Handbook.Geometry.{drive_in}
use Rattle.pdp_rk11.specs.Handbook.Transfer.{is_different}
use Rattle.pdp_rk11.specs.Laws.{transfer_in}
use Rattle.pdp_rk11.specs.Trace.{completion_touches, touches_unless_refused, transfer_touches}
use Rattle.pdp_rk11.specs.declared.failure.Failure.{Failure}
use Rattle.pdp_rk11.specs.declared.function.Function.{Function}
use Rattle.pdp_rk11.specs.declared.function.Function.TheVariants.{ControlReset, Write, Read, WriteCheck, Seek, ReadCheck, DriveReset, WriteLock}
use Rattle.pdp_rk11.specs.declared.rk.Rk.{Rk}
use Rattle.pdp_rk11.specs.declared.transfer.Transfer.{Transfer}
use Rattle.pdp_rk11.proofs.CompletionSizes.{completed_sizes, drives_count}
use Rattle.pdp_unibus.specs.Handbook.Beginning.{Progress, after_beginning, after_event, after_events, after_key, at_start, before_disk, clock_ticked, disk_done, disk_due, in_turn, printer_done, printer_due, punch_done, punch_due, reader_done, reader_due, switches_set, tick_due, where_due}
use Rattle.pdp_unibus.specs.Handbook.BusWorld.{BusWorld, disk_world_of}
use Rattle.pdp_unibus.specs.declared.event.Event.{Event}
use Rattle.pdp_unibus.specs.declared.event.Event.TheVariants as event
use Rattle.pdp_operand.specs.Phases.World.{World, world}
use Rattle.pdp_operand.specs.declared.processor.Processor.{Processor}
use Rattle.pdp_io_page.specs.Handbook.Delays.{is_tick}
use Rattle.pdp_cpu.specs.Handbook.Turn.{processor_after, processor_after_events}
use Rattle.pdp_made.specs.Cells.{BusData, WorldsAlike, bus_with, data_on, io_page_with, processor_with}
use Rattle.pdp_made_run.specs.BeginningRows.{AlikeBetween, AreSameEvents, BeginningsGoAlike, EventsAlike, before_printer, before_punch, before_reader}
use Rattle.pdp_made_run.specs.Origins.{event_data, with_event_data}
use Rattle.pdp_made_run.proofs.BeginningSteps.{words_kept}

-- A completion of the printer or the punch, with another byte
completed_with : (busy : Bool) (o : Transmitter) (byte : ℕ)
    → (if busy then record o { byte = byte; ready_enable = with_ready true o.ready_enable; operation = Idle } else record o { byte = byte })
    ≡ record (if busy then record o { ready_enable = with_ready true o.ready_enable; operation = Idle } else o) {
      byte = (if busy then record o { byte = byte; ready_enable = with_ready true o.ready_enable; operation = Idle } else record o { byte = byte }).byte;
    }
completed_with true o byte = refl
completed_with false o byte = refl

-- A completion of the reader, with another byte before it, on a tape that has a byte too, or has none
read_with : (busy : Bool) (next there : Option ℕ) (r : PaperReader) (byte : ℕ) → is_some there ≡ is_some next
    → (if busy then read_over there (record r { byte = byte }) else record r { byte = byte })
    ≡ record (if busy then read_over next r else r) { byte = (if busy then read_over there (record r { byte = byte }) else record r { byte = byte }).byte }
read_with true (Some one) (Some other) r byte both = refl
read_with true None None r byte both = refl
read_with true (Some one) None r byte both = absurd (true≢false (sym both))
read_with true None (Some other) r byte both = absurd (true≢false both)
read_with false next there r byte both = refl

-- two tapes of one length have a byte at the same places
both_have : (xs ys : List ℕ) (k : ℕ) → length ys ≡ length xs → is_some (slice_get ys k) ≡ is_some (slice_get xs k)
both_have [] [] k size = refl
both_have [] (y ∷ ys) k size = absurd (omega (arith, size))
both_have (x ∷ xs) [] k size = absurd (omega (arith, size))
both_have (x ∷ xs) (y ∷ ys) zero size = refl
both_have (x ∷ xs) (y ∷ ys) (suc k) size = both_have xs ys k (omega (arith, size))

-- the length of a drive, of the list of lengths
size_at : (drives : List (List ℕ)) (n : ℕ) → get_or (map length drives) n 0 ≡ length (words_of_drive drives n)
size_at [] n = refl
size_at (x ∷ xs) zero = refl
size_at (x ∷ xs) (suc n) = size_at xs n

-- The disk
module _ (rk : Rk) (core there : List ℕ) (stamps : List (Option Stamp)) (drives others : List (List ℕ)) (turn : ℕ)
    (core_size : length there ≡ length core) (count : length others ≡ length drives)
    (drive_sizes : (n : ℕ) → length (words_of_drive others n) ≡ length (words_of_drive drives n)) (no_check : is_write_check rk.function ≡ false) where
  abbrev one : DiskWorld
  one = disk_world rk core stamps drives

  abbrev other : DiskWorld
  other = disk_world rk there stamps others

  same_size : length (drive_of other) ≡ length (drive_of one)
  same_size = drive_sizes _

  same_transfer : transfer_in other ≡ transfer_in one
  same_transfer = ap (λ size. transfer_of rk size (length (drive_of other))) core_size ∙ ap (λ size. transfer_of rk (length core) size) same_size

  -- the registers, and the stamps
  unchecked : (t : Transfer) (w : DiskWorld) → w.rk.function ≡ rk.function → (is_write_check w.rk.function && is_different t w.core (drive_of w)) ≡ false
  unchecked t w is = ap (λ f. is_write_check f && is_different t w.core (drive_of w)) is ∙ ap (λ check. check && is_different t w.core (drive_of w)) no_check

  moved_registers : registers_after (length (drive_of other)) (transfer_in other) (is_write_check rk.function && is_different (transfer_in other) there (drive_of other)) rk
      ≡ registers_after (length (drive_of one)) (transfer_in one) (is_write_check rk.function && is_different (transfer_in one) core (drive_of one)) rk
  moved_registers =
      ap (λ different. registers_after (length (drive_of other)) (transfer_in other) different rk) (unchecked (transfer_in other) other refl)
      ∙ ap (λ size. registers_after size (transfer_in other) false rk) same_size
      ∙ ap (λ t. registers_after (length (drive_of one)) t false rk) same_transfer
      ∙ sym (ap (λ different. registers_after (length (drive_of one)) (transfer_in one) different rk) (unchecked (transfer_in one) one refl))

  moved_stamps : (f : Function) (t : Transfer) → (lists_after f t turn other).stamps ≡ (lists_after f t turn one).stamps
  moved_stamps ControlReset t = refl
  moved_stamps Write t = refl
  moved_stamps Read t = refl
  moved_stamps WriteCheck t = refl
  moved_stamps Seek t = refl
  moved_stamps ReadCheck t = refl
  moved_stamps DriveReset t = refl
  moved_stamps WriteLock t = refl

  all_stamps : (lists_after rk.function (transfer_in other) turn other).stamps ≡ (lists_after rk.function (transfer_in one) turn one).stamps
  all_stamps = ap (λ t. (lists_after rk.function t turn other).stamps) same_transfer ∙ moved_stamps rk.function (transfer_in one)

  run_rk : (f : Function) → (run_function f turn other).rk ≡ (run_function f turn one).rk
  unfolding rk_transferred
  run_rk ControlReset = refl
  run_rk Write = moved_registers
  run_rk Read = moved_registers
  run_rk WriteCheck = moved_registers
  run_rk Seek = refl
  run_rk ReadCheck = moved_registers
  run_rk DriveReset = refl
  run_rk WriteLock = refl

  run_stamps : (f : Function) → (run_function f turn other).stamps ≡ (run_function f turn one).stamps
  unfolding rk_transferred
  run_stamps ControlReset = refl
  run_stamps Write = all_stamps
  run_stamps Read = all_stamps
  run_stamps WriteCheck = all_stamps
  run_stamps Seek = refl
  run_stamps ReadCheck = all_stamps
  run_stamps DriveReset = refl
  run_stamps WriteLock = refl

  unless_rk : (refused : Option Failure) → (run_unless_refused refused turn other).rk ≡ (run_unless_refused refused turn one).rk
  unless_rk (Some failure) = refl
  unless_rk None = run_rk rk.function

  unless_stamps : (refused : Option Failure) → (run_unless_refused refused turn other).stamps ≡ (run_unless_refused refused turn one).stamps
  unless_stamps (Some failure) = refl
  unless_stamps None = run_stamps rk.function

  unless_touches : (refused : Option Failure) → touches_unless_refused refused turn other ≡ touches_unless_refused refused turn one
  unless_touches (Some failure) = refl
  unless_touches None = ap (λ t. transfer_touches rk.function t (drive_in rk.disk_address) turn) same_transfer

  same_refusal : refusal rk (length others) ≡ refusal rk (length drives)
  same_refusal = ap (refusal rk) count

  by_rk : (under_way : Bool) → (if under_way then world_finished (run_unless_refused (refusal rk (length others)) turn other) else other).rk
      ≡ (if under_way then world_finished (run_unless_refused (refusal rk (length drives)) turn one) else one).rk
  by_rk true =
      ap (λ refused. (world_finished (run_unless_refused refused turn other)).rk) same_refusal
      ∙ ap (λ (r : Rk). record r { operation = Idle; ready_enable = with_ready true r.ready_enable }) (unless_rk (refusal rk (length drives)))
  by_rk false = refl

  by_stamps : (under_way : Bool) → (if under_way then world_finished (run_unless_refused (refusal rk (length others)) turn other) else other).stamps
      ≡ (if under_way then world_finished (run_unless_refused (refusal rk (length drives)) turn one) else one).stamps
  by_stamps true = ap (λ refused. (run_unless_refused refused turn other).stamps) same_refusal ∙ unless_stamps (refusal rk (length drives))
  by_stamps false = refl

  by_touches : (under_way : Bool) → (if under_way then touches_unless_refused (refusal rk (length others)) turn other else [])
      ≡ (if under_way then touches_unless_refused (refusal rk (length drives)) turn one else [])
  by_touches true = ap (λ refused. touches_unless_refused refused turn other) same_refusal ∙ unless_touches (refusal rk (length drives))
  by_touches false = refl

  pub same_rk : (rk_completed turn other).rk ≡ (rk_completed turn one).rk
  unfolding rk_completed
  same_rk = by_rk (is_under_way rk.operation)

  pub same_stamps : (rk_completed turn other).stamps ≡ (rk_completed turn one).stamps
  unfolding rk_completed
  same_stamps = by_stamps (is_under_way rk.operation)

  pub same_touches : completion_touches turn other ≡ completion_touches turn one
  unfolding completion_touches
  same_touches = by_touches (is_under_way rk.operation)

  -- the sizes
  pub same_core_size : length (rk_completed turn other).core ≡ length (rk_completed turn one).core
  same_core_size = (completed_sizes turn other).core ∙ core_size ∙ sym (completed_sizes turn one).core

  pub same_count : length (rk_completed turn other).drives ≡ length (rk_completed turn one).drives
  same_count = drives_count turn other ∙ count ∙ sym (drives_count turn one)

  left_size : (w : DiskWorld) (n : ℕ) → length (words_of_drive (rk_completed turn w).drives n) ≡ length (words_of_drive w.drives n)
  left_size w n = sym (size_at (rk_completed turn w).drives n) ∙ ap (λ sizes. get_or sizes n 0) (completed_sizes turn w).drives ∙ size_at w.drives n

  pub same_drive_sizes : (n : ℕ) → length (words_of_drive (rk_completed turn other).drives n) ≡ length (words_of_drive (rk_completed turn one).drives n)
  same_drive_sizes n = left_size other n ∙ drive_sizes n ∙ sym (left_size one n)

-- the function stays
function_run : (f : Function) (turn : ℕ) (w : DiskWorld) → (run_function f turn w).rk.function ≡ w.rk.function
unfolding rk_transferred registers_after
function_run ControlReset turn w = refl
function_run Write turn w = refl
function_run Read turn w = refl
function_run WriteCheck turn w = refl
function_run Seek turn w = refl
function_run ReadCheck turn w = refl
function_run DriveReset turn w = refl
function_run WriteLock turn w = refl

function_unless : (refused : Option Failure) (turn : ℕ) (w : DiskWorld) → (run_unless_refused refused turn w).rk.function ≡ w.rk.function
function_unless (Some failure) turn w = refl
function_unless None turn w = function_run w.rk.function turn w

function_by : (under_way : Bool) (turn : ℕ) (w : DiskWorld)
    → (if under_way then world_finished (run_unless_refused (refusal w.rk (length w.drives)) turn w) else w).rk.function ≡ w.rk.function
function_by true turn w = function_unless (refusal w.rk (length w.drives)) turn w
function_by false turn w = refl

pub function_stays : (turn : ℕ) (w : DiskWorld) → (rk_completed turn w).rk.function ≡ w.rk.function
unfolding rk_completed
function_stays turn w = function_by (is_under_way w.rk.operation) turn w

-- A step leaves what is alike alike. It is enough to show it of a bus with other data.
record Sizes (b : BusWorld) (x : BusData) : Type 0 where
  pub core_size : length x.core ≡ length b.core
  pub drives_count : length x.drives ≡ length b.drives
  pub drive_sizes : (n : ℕ) → length (words_of_drive x.drives n) ≡ length (words_of_drive b.drives n)
  pub tape_size : length x.tape ≡ length b.tape
  pub no_write_check : is_write_check b.io_page.disk.function ≡ false

abbrev LeavesAlike : (BusWorld → BusWorld) → (BusWorld → BusWorld) → Type 0
LeavesAlike f g = (b q : BusWorld) → AlikeBetween b q → AlikeBetween (f b) (g q)

leaves_by : (f g : BusWorld → BusWorld) → ((b : BusWorld) (x : BusData) (log : KeptCycles) → Sizes b x → AlikeBetween (f b) (g (bus_with x log b))) → LeavesAlike f g
leaves_by f g law b q alike =
    subst (λ z. AlikeBetween (f b) (g z)) (sym alike.buses.same_way) (law b (data_on q) q.log (record {
      core_size = alike.buses.core_size;
      drives_count = alike.buses.drives_count;
      drive_sizes = alike.buses.drive_sizes;
      tape_size = alike.tape_size;
      no_write_check = alike.no_write_check;
    }))

-- a step that leaves core, the drives, the tape and the disk's function
leaves_lists : (b c : BusWorld) (x : BusData) (q : BusWorld) → Sizes b x → q ≡ bus_with (data_on q) q.log c → q.core ≡ x.core → q.drives ≡ x.drives → q.tape ≡ x.tape
    → c.core ≡ b.core → c.drives ≡ b.drives → c.tape ≡ b.tape → c.io_page.disk.function ≡ b.io_page.disk.function → AlikeBetween c q
leaves_lists b c x q sizes same core drives tape core_here drives_here tape_here function = record {
  buses = record {
    same_way = same;
    core_size = ap (λ words. length words) core ∙ sizes.core_size ∙ sym (ap (λ words. length words) core_here);
    drives_count = ap (λ all. length all) drives ∙ sizes.drives_count ∙ sym (ap (λ all. length all) drives_here);
    drive_sizes = λ n. ap (λ all. length (words_of_drive all n)) drives ∙ sizes.drive_sizes n ∙ sym (ap (λ all. length (words_of_drive all n)) drives_here);
  };
  tape_size = ap (λ bytes. length bytes) tape ∙ sizes.tape_size ∙ sym (ap (λ bytes. length bytes) tape_here);
  no_write_check = ap is_write_check function ∙ sizes.no_write_check;
}

abbrev bus_after : (Progress → Progress) → BusWorld → BusWorld
bus_after step b = (step (at_start b)).bus

key_leaves : (key value : ℕ) → LeavesAlike (bus_after (after_key key)) (bus_after (after_key value))
key_leaves key value = leaves_by _ _ (λ b x log sizes. leaves_lists b (bus_after (after_key key) b) x (bus_after (after_key value) (bus_with x log b)) sizes refl refl refl refl refl refl refl refl)

switches_leave : (word value : ℕ) → LeavesAlike (bus_after (switches_set word)) (bus_after (switches_set value))
switches_leave word value = leaves_by _ _ (λ b x log sizes. leaves_lists b (bus_after (switches_set word) b) x (bus_after (switches_set value) (bus_with x log b)) sizes refl refl refl refl refl refl refl refl)

tick_leaves : LeavesAlike (bus_after clock_ticked) (bus_after clock_ticked)
tick_leaves = leaves_by _ _ (λ b x log sizes. leaves_lists b (bus_after clock_ticked b) x (bus_after clock_ticked (bus_with x log b)) sizes refl refl refl refl refl refl refl refl)

printer_leaves : LeavesAlike (bus_after printer_done) (bus_after printer_done)
printer_leaves = leaves_by _ _ (λ b x log sizes. leaves_lists b (bus_after printer_done b) x (bus_after printer_done (bus_with x log b)) sizes
    (ap (λ (o : Transmitter). record (bus_with x log b) { io_page = record (io_page_with x b.io_page) { console = record (io_page_with x b.io_page).console { printer = o } } })
    (completed_with (is_under_way b.io_page.console.printer.operation) b.io_page.console.printer x.printer))
    refl refl refl refl refl refl refl)

punch_leaves : LeavesAlike (bus_after punch_done) (bus_after punch_done)
punch_leaves = leaves_by _ _ (λ b x log sizes. leaves_lists b (bus_after punch_done b) x (bus_after punch_done (bus_with x log b)) sizes
    (ap (λ (o : Transmitter). record (bus_with x log b) { io_page = record (io_page_with x b.io_page) { paper_tape = record (io_page_with x b.io_page).paper_tape { punch = o } } })
    (completed_with (is_under_way b.io_page.paper_tape.punch.operation) b.io_page.paper_tape.punch x.punch))
    refl refl refl refl refl refl refl)

reader_leaves : LeavesAlike (bus_after reader_done) (bus_after reader_done)
reader_leaves = leaves_by _ _ (λ b x log sizes. leaves_lists b (bus_after reader_done b) x (bus_after reader_done (bus_with x log b)) sizes
    (λ i. record (bus_with x log b) {
      io_page = record (io_page_with x b.io_page) {
        paper_tape = record (io_page_with x b.io_page).paper_tape {
          reader = read_with (is_under_way b.io_page.paper_tape.reader.operation) (slice_get b.tape b.bytes_read) (slice_get x.tape b.bytes_read) b.io_page.paper_tape.reader x.reader (both_have b.tape x.tape b.bytes_read sizes.tape_size) i;
        };
      };
      bytes_read = if takes_byte b.io_page.paper_tape.reader then (if nat_lt b.bytes_read (sizes.tape_size i) then b.bytes_read + 1 else b.bytes_read) else b.bytes_read;
    })
    refl refl refl refl refl refl refl)

disk_leaves : LeavesAlike (bus_after disk_done) (bus_after disk_done)
disk_leaves = leaves_by _ _ (λ b x log sizes.
    let rk = b.io_page.disk in record {
      buses = record {
        same_way = λ i. record (bus_after disk_done (bus_with x log b)) {
          io_page = record (bus_after disk_done (bus_with x log b)).io_page {
            disk = same_rk rk b.core x.core b.stamps b.drives x.drives b.turn sizes.core_size sizes.drives_count sizes.drive_sizes sizes.no_write_check i;
          };
          stamps = same_stamps rk b.core x.core b.stamps b.drives x.drives b.turn sizes.core_size sizes.drives_count sizes.drive_sizes sizes.no_write_check i;
          first_touches = first_touches_after (same_touches rk b.core x.core b.stamps b.drives x.drives b.turn sizes.core_size sizes.drives_count sizes.drive_sizes sizes.no_write_check i) b.first_touches;
        };
        core_size = same_core_size rk b.core x.core b.stamps b.drives x.drives b.turn sizes.core_size sizes.drives_count sizes.drive_sizes sizes.no_write_check;
        drives_count = same_count rk b.core x.core b.stamps b.drives x.drives b.turn sizes.core_size sizes.drives_count sizes.drive_sizes sizes.no_write_check;
        drive_sizes = same_drive_sizes rk b.core x.core b.stamps b.drives x.drives b.turn sizes.core_size sizes.drives_count sizes.drive_sizes sizes.no_write_check;
      };
      tape_size = sizes.tape_size;
      no_write_check = ap is_write_check (function_stays b.turn (disk_world_of b)) ∙ sizes.no_write_check;
    })

-- Events
event_leaves : (e : Event) (value : ℕ) (p q : Progress) → AlikeBetween p.bus q.bus → AlikeBetween (after_event e p).bus (after_event (with_event_data value e) q).bus
event_leaves (event.Key key) value p q alike = key_leaves key value p.bus q.bus alike
event_leaves event.Tick value p q alike = tick_leaves p.bus q.bus alike
event_leaves event.PrinterDone value p q alike = printer_leaves p.bus q.bus alike
event_leaves event.ReaderDone value p q alike = reader_leaves p.bus q.bus alike
event_leaves event.PunchDone value p q alike = punch_leaves p.bus q.bus alike
event_leaves event.DiskDone value p q alike = disk_leaves p.bus q.bus alike
event_leaves (event.Switches word) value p q alike = switches_leave word value p.bus q.bus alike
event_leaves event.Continue value p q alike = alike

events_alike : (es fs : List Event) (p q : Progress) → AreSameEvents es fs → AlikeBetween p.bus q.bus → EventsAlike es fs p q × AlikeBetween (after_events es p).bus (after_events fs q).bus
unfolding EventsAlike
events_alike [] [] p q same alike = (tt, alike)
events_alike [] (f ∷ fs) p q same alike = absurd same
events_alike (e ∷ es) [] p q same alike = absurd same
events_alike (e ∷ es) (f ∷ fs) p q same alike =
    let after : AlikeBetween (after_event e p).bus (after_event f q).bus =
    subst (λ g. AlikeBetween (after_event e p).bus (after_event g q).bus) (sym same.0) (event_leaves e (event_data f) p q alike) in
    let rest : EventsAlike es fs (after_event e p) (after_event f q) × AlikeBetween (after_events es (after_event e p)).bus (after_events fs (after_event f q)).bus =
    events_alike es fs (after_event e p) (after_event f q) same.1 after in
    ((alike.buses, same.0, rest.0), rest.1)

-- a step that is due in both, or in neither
by_due : (due : Bool) (step : Progress → Progress) (p q : Progress) → AlikeBetween p.bus q.bus → AlikeBetween (step p).bus (step q).bus → AlikeBetween (where_due due step p).bus (where_due due step q).bus
by_due true step p q alike after = after
by_due false step p q alike after = alike

due_leaves : (due : BusWorld → Bool) (step : Progress → Progress) (p q : Progress) → due q.bus ≡ due p.bus → AlikeBetween p.bus q.bus → AlikeBetween (step p).bus (step q).bus
    → AlikeBetween (where_due (due p.bus) step p).bus (where_due (due q.bus) step q).bus
due_leaves due step p q same alike after =
    subst (λ d. AlikeBetween (where_due (due p.bus) step p).bus (where_due d step q).bus) (sym same) (by_due (due p.bus) step p q alike after)

-- The completions that are due
due_at : {A : Type 0} (part : BusWorld → A) (b q : BusWorld) → AlikeBetween b q → ((x : BusData) (log : KeptCycles) → part (bus_with x log b) ≡ part b) → part q ≡ part b
due_at part b q alike kept = ap part alike.buses.same_way ∙ kept (data_on q) q.log

tick_due_leaves : (p q : Progress) → AlikeBetween p.bus q.bus → AlikeBetween (tick_due p).bus (tick_due q).bus
tick_due_leaves p q alike =
    due_leaves (λ z. is_tick z.turn z.io_page.delays.clock) clock_ticked p q
    (due_at (λ z. is_tick z.turn z.io_page.delays.clock) p.bus q.bus alike (λ x log. refl)) alike (tick_leaves p.bus q.bus alike)

printer_due_leaves : (p q : Progress) → AlikeBetween p.bus q.bus → AlikeBetween (printer_due p).bus (printer_due q).bus
printer_due_leaves p q alike =
    due_leaves (λ z. is_due z.turn z.io_page.console.printer.operation) printer_done p q
    (due_at (λ z. is_due z.turn z.io_page.console.printer.operation) p.bus q.bus alike (λ x log. refl)) alike (printer_leaves p.bus q.bus alike)

reader_due_leaves : (p q : Progress) → AlikeBetween p.bus q.bus → AlikeBetween (reader_due p).bus (reader_due q).bus
reader_due_leaves p q alike =
    due_leaves (λ z. is_due z.turn z.io_page.paper_tape.reader.operation) reader_done p q
    (due_at (λ z. is_due z.turn z.io_page.paper_tape.reader.operation) p.bus q.bus alike (λ x log. refl)) alike (reader_leaves p.bus q.bus alike)

punch_due_leaves : (p q : Progress) → AlikeBetween p.bus q.bus → AlikeBetween (punch_due p).bus (punch_due q).bus
punch_due_leaves p q alike =
    due_leaves (λ z. is_due z.turn z.io_page.paper_tape.punch.operation) punch_done p q
    (due_at (λ z. is_due z.turn z.io_page.paper_tape.punch.operation) p.bus q.bus alike (λ x log. refl)) alike (punch_leaves p.bus q.bus alike)

disk_due_leaves : (p q : Progress) → AlikeBetween p.bus q.bus → AlikeBetween (disk_due p).bus (disk_due q).bus
disk_due_leaves p q alike =
    due_leaves (λ z. is_due z.turn z.io_page.disk.operation) disk_done p q
    (due_at (λ z. is_due z.turn z.io_page.disk.operation) p.bus q.bus alike (λ x log. refl)) alike (disk_leaves p.bus q.bus alike)

-- The processor
processor_alike : (e : Event) (value : ℕ) (p : Processor) (ws : List ℕ) → processor_after (with_event_data value e) (processor_with ws p) ≡ processor_with ws (processor_after e p)
processor_alike (event.Key key) value p ws = refl
processor_alike event.Tick value p ws = refl
processor_alike event.PrinterDone value p ws = refl
processor_alike event.ReaderDone value p ws = refl
processor_alike event.PunchDone value p ws = refl
processor_alike event.DiskDone value p ws = refl
processor_alike (event.Switches word) value p ws = refl
processor_alike event.Continue value p ws = refl

processors_alike : (es fs : List Event) (p : Processor) (ws : List ℕ) → AreSameEvents es fs → processor_after_events fs (processor_with ws p) ≡ processor_with ws (processor_after_events es p)
processors_alike [] [] p ws same = refl
processors_alike [] (f ∷ fs) p ws same = absurd same
processors_alike (e ∷ es) [] p ws same = absurd same
processors_alike (e ∷ es) (f ∷ fs) p ws same =
    ap (λ g. processor_after_events fs (processor_after g (processor_with ws p))) same.0
    ∙ ap (λ q. processor_after_events fs q) (processor_alike e (event_data f) p ws)
    ∙ processors_alike es fs (processor_after e p) ws same.1

processor_begun : (es fs : List Event) (w v : World) → WorldsAlike w v → AreSameEvents es fs
    → processor_after_events fs v.processor ≡ processor_with (processor_after_events fs v.processor).words (processor_after_events es w.processor)
processor_begun es fs w v worlds same =
    ap (λ (z : World). processor_after_events fs z.processor) worlds.same_way
    ∙ processors_alike es fs w.processor v.processor.words same
    ∙ ap (λ ws. processor_with ws (processor_after_events es w.processor)) (sym (words_kept fs v.processor))

in_turn_alike : (t : ℕ) (b q : BusWorld) → AlikeBetween b q → AlikeBetween (in_turn t b) (in_turn t q)
in_turn_alike t b q alike = record {
  buses = record {
    same_way = ap (λ (z : BusWorld). record z { turn = t }) alike.buses.same_way;
    core_size = alike.buses.core_size;
    drives_count = alike.buses.drives_count;
    drive_sizes = alike.buses.drive_sizes;
  };
  tape_size = alike.tape_size;
  no_write_check = alike.no_write_check;
}

pub beginnings : BeginningsGoAlike
unfolding before_printer before_reader before_punch before_disk after_beginning
beginnings t es fs w v worlds alike same =
    let p = after_events es (at_start (in_turn t w.bus)) in
    let q = after_events fs (at_start (in_turn t v.bus)) in
    let events : EventsAlike es fs (at_start (in_turn t w.bus)) (at_start (in_turn t v.bus)) × AlikeBetween p.bus q.bus =
    events_alike es fs (at_start (in_turn t w.bus)) (at_start (in_turn t v.bus)) same (in_turn_alike t w.bus v.bus alike) in
    let printer : AlikeBetween (tick_due p).bus (tick_due q).bus = tick_due_leaves p q events.1 in
    let reader : AlikeBetween (printer_due (tick_due p)).bus (printer_due (tick_due q)).bus = printer_due_leaves (tick_due p) (tick_due q) printer in
    let punch : AlikeBetween (reader_due (printer_due (tick_due p))).bus (reader_due (printer_due (tick_due q))).bus =
    reader_due_leaves (printer_due (tick_due p)) (printer_due (tick_due q)) reader in
    let disk : AlikeBetween (punch_due (reader_due (printer_due (tick_due p)))).bus (punch_due (reader_due (printer_due (tick_due q)))).bus =
    punch_due_leaves (reader_due (printer_due (tick_due p))) (reader_due (printer_due (tick_due q))) punch in
    let act : AlikeBetween (disk_due (punch_due (reader_due (printer_due (tick_due p))))).bus (disk_due (punch_due (reader_due (printer_due (tick_due q))))).bus =
    disk_due_leaves (punch_due (reader_due (printer_due (tick_due p)))) (punch_due (reader_due (printer_due (tick_due q)))) disk in
    record {
      events = events.0;
      printer = printer.buses;
      reader = reader.buses;
      punch = punch.buses;
      disk = disk.buses;
      act = record {
        same_way = λ i. world (processor_begun es fs w v worlds same i) (act.buses.same_way i);
        core_size = act.buses.core_size;
        drives_count = act.buses.drives_count;
        words_size = ap (λ words. length words) (words_kept fs v.processor) ∙ worlds.words_size ∙ sym (ap (λ words. length words) (words_kept es w.processor));
      };
    }
