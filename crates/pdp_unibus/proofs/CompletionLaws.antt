-- When operations end in the beginning of a turn.
use Rattle.std.proofs.Common.{◌≡◌, ◌≢◌, ◌∙◌, ℕ, suc, Bool, true, false, Option, Some, None, List, [], ◌∷◌, refl, ap, arith}
use Rattle.pdp_device.specs.Operation.{is_due, is_under_way}
use Rattle.pdp_device.specs.declared.operation.Operation.{Operation}
use Rattle.pdp_device.specs.declared.operation.Operation.TheVariants.{Idle, ByEvent, At}
use Rattle.pdp_rk11.proofs.Readiness.{completed_operation}
use Rattle.pdp_rk11.specs.Handbook.Rk.{rk_written}
use Rattle.pdp_rk11.specs.declared.register.RkRegister.TheVariants as rk
use Rattle.pdp_tape.specs.Reader.{reader_completed}
use Rattle.pdp_unibus.proofs.Beginnings.{dues, dues_are_quiet, before_is_settled, event_is_quiet, events_are_settled, printer_is_quiet, reader_is_quiet, tick_is_quiet, turn_left}
use Rattle.pdp_unibus.proofs.Frame.{event_leaves, use_leaves}
use Rattle.pdp_unibus.specs.Handbook.Beginning.{Progress, after_event, after_events, at_start, before_disk, after_beginning, clock_ticked, disk_done, in_turn, printer_done, printer_due, punch_done, punch_due, reader_done, reader_due, tick_due, where_due}
use Rattle.pdp_io_page.specs.Handbook.Delays.{is_tick}
use Rattle.pdp_unibus.specs.Handbook.BusWorld.{BusWorld, disk_world_of}
use Rattle.pdp_unibus.specs.ByteLaws.{PrintingEndsWhenDue, PunchingEndsWhenDue, DiskEndsWhenDue, DiskOutlivesUses, PrintingOutlivesUses, PunchingOutlivesUses, ReadingEndsWhenDue, ReadingOutlivesUses, Without, left_at}
use Rattle.pdp_unibus.specs.Handbook.Tape.{next_byte}
use Rattle.pdp_io_page.specs.declared.io_page.IoPage.{IoPage}
use Rattle.pdp_io_page.specs.Laws.{RegisterUse, Reading, Writing, io_page_after_use, io_page_after_uses}
use Rattle.pdp_io_page.specs.Handbook.Register.{after_read, after_write}
use Rattle.pdp_console.specs.declared.kl.KlRegister.TheVariants.{KeyboardBuffer, PrinterBuffer}
use Rattle.pdp_tape.specs.declared.pc11.Pc11Register.TheVariants.{ReaderStatus, ReaderBuffer, PunchBuffer}
use Rattle.pdp_io_page.specs.declared.register.Register.TheVariants as register
use Rattle.pdp_io_page.specs.declared.register.Register.TheVariants.{Console, PaperTape}
use Rattle.pdp_unibus.specs.declared.event.Event.{Event}
use Rattle.pdp_unibus.specs.declared.event.Event.TheVariants.{Key, PrinterDone, ReaderDone, PunchDone, DiskDone}

-- an operation that is idle afterwards if it was due, and else is as it was
ended : (t : ℕ) (o after : Operation) (due : Bool) → is_due t o ≡ due → (due ≡ true → after ≡ Idle) → (due ≡ false → after ≡ o)
    → after ≡ left_at t o
ended t o after true is idle left = idle refl ∙ rw is refl
ended t o after false is idle left = left refl ∙ rw is refl

-- a part of the I/O page is left where a step leaves it, due or not
left_where : (part : IoPage → Operation) (f : Progress → Progress) (p : Progress) → part (f p).bus.io_page ≡ part p.bus.io_page
    → (due : Bool) → part (where_due due f p).bus.io_page ≡ part p.bus.io_page
left_where part f p is true = is
left_where part f p is false = refl

under_way_where_due : (t : ℕ) (o : Operation) → is_due t o ≡ true → is_under_way o ≡ true
under_way_where_due t Idle due = absurd (cc due)
under_way_where_due t ByEvent due = refl
under_way_where_due t (At turn) due = refl

-- the step that completes an operation, if it is due
ends_where : (part : IoPage → Operation) (f : Progress → Progress)
    → ((p : Progress) → is_under_way (part p.bus.io_page) ≡ true → part (f p).bus.io_page ≡ Idle)
    → (p : Progress) (t : ℕ) (o : Operation) → p.bus.turn ≡ t → part p.bus.io_page ≡ o → (after : Operation)
    → after ≡ part (where_due (is_due p.bus.turn (part p.bus.io_page)) f p).bus.io_page → after ≡ left_at t o
ends_where part f completes p t o turn is after end =
    ended t o after (is_due t o) refl
    (λ due. end ∙ at (is_due p.bus.turn (part p.bus.io_page)) (same ∙ due) (same ∙ due))
    (λ due. end ∙ not_at (is_due p.bus.turn (part p.bus.io_page)) (same ∙ due) ∙ is) where
      same : is_due p.bus.turn (part p.bus.io_page) ≡ is_due t o
      same = ap (λ turn. is_due turn (part p.bus.io_page)) turn ∙ ap (is_due t) is

      at : (due : Bool) → due ≡ true → is_due p.bus.turn (part p.bus.io_page) ≡ true → part (where_due due f p).bus.io_page ≡ Idle
      at true now holds = completes p (under_way_where_due p.bus.turn (part p.bus.io_page) holds)
      at false now holds = absurd (cc now)

      not_at : (due : Bool) → due ≡ false → part (where_due due f p).bus.io_page ≡ part p.bus.io_page
      not_at false now = refl
      not_at true now = absurd (cc now)

-- events that leave a part of the I/O page
events_leave : (part : IoPage → Operation) (event : Event)
    → ((e : Event) → e ≢ event → (p : Progress) → part (after_event e p).bus.io_page ≡ part p.bus.io_page)
    → (es : List Event) → Without event es → (p : Progress) → part (after_events es p).bus.io_page ≡ part p.bus.io_page
events_leave part event leaves [] none p = refl
events_leave part event leaves (e ∷ es) none p =
    events_leave part event leaves es (λ k d below. none (suc k) d (omega (arith, below))) (after_event e p)
    ∙ leaves e (none 0 e (omega arith)) p

printer_left : (e : Event) → e ≢ PrinterDone → (p : Progress) → (after_event e p).bus.io_page.console.printer.operation ≡ p.bus.io_page.console.printer.operation
printer_left PrinterDone other p = absurd (other refl)
printer_left (Key key) other p = refl
printer_left e other p = ap (λ d. d.printer.operation) ((event_leaves e p).io_page.console (λ is. cc is))

reader_left : (e : Event) → e ≢ ReaderDone → (p : Progress) → (after_event e p).bus.io_page.paper_tape.reader.operation ≡ p.bus.io_page.paper_tape.reader.operation
reader_left ReaderDone other p = absurd (other refl)
reader_left PunchDone other p = refl
reader_left e other p = ap (λ d. d.reader.operation) ((event_leaves e p).io_page.paper_tape (λ is. cc is))

punch_left : (e : Event) → e ≢ PunchDone → (p : Progress) → (after_event e p).bus.io_page.paper_tape.punch.operation ≡ p.bus.io_page.paper_tape.punch.operation
punch_left PunchDone other p = absurd (other refl)
punch_left ReaderDone other p = refl
punch_left e other p = ap (λ d. d.punch.operation) ((event_leaves e p).io_page.paper_tape (λ is. cc is))

-- the steps of a beginning, one after another
abbrev happened : ℕ → List Event → BusWorld → Progress
happened t events w = after_events events (at_start (in_turn t w))

abbrev ticked : ℕ → List Event → BusWorld → Progress
ticked t events w = tick_due (happened t events w)

abbrev printed : ℕ → List Event → BusWorld → Progress
printed t events w = printer_due (ticked t events w)

abbrev read : ℕ → List Event → BusWorld → Progress
read t events w = reader_due (printed t events w)

abbrev punched : ℕ → List Event → BusWorld → Progress
punched t events w = punch_due (read t events w)

turn_happened : (t : ℕ) (events : List Event) (w : BusWorld) → (happened t events w).bus.turn ≡ t
turn_happened t events w = (events_are_settled events (at_start (in_turn t w))).turn

turn_ticked : (t : ℕ) (events : List Event) (w : BusWorld) → (ticked t events w).bus.turn ≡ t
turn_ticked t events w = turn_left tick_due tick_is_quiet (happened t events w) ∙ turn_happened t events w

turn_printed : (t : ℕ) (events : List Event) (w : BusWorld) → (printed t events w).bus.turn ≡ t
turn_printed t events w = turn_left printer_due printer_is_quiet (ticked t events w) ∙ turn_ticked t events w

turn_read : (t : ℕ) (events : List Event) (w : BusWorld) → (read t events w).bus.turn ≡ t
turn_read t events w = turn_left reader_due reader_is_quiet (printed t events w) ∙ turn_printed t events w

pub printing_ends : PrintingEndsWhenDue
unfolding after_beginning before_disk
printing_ends t events w none =
    ends_where part printer_done (λ p busy. rw busy refl) (ticked t events w) t (part w.io_page) (turn_ticked t events w)
    (left_where part clock_ticked (happened t events w) refl (is_tick (happened t events w).bus.turn (happened t events w).bus.io_page.delays.clock)
    ∙ events_leave part PrinterDone printer_left events none (at_start (in_turn t w))) _
    (left_where part disk_done (punched t events w) refl (is_due (punched t events w).bus.turn (punched t events w).bus.io_page.disk.operation)
    ∙ left_where part punch_done (read t events w) refl (is_due (read t events w).bus.turn (read t events w).bus.io_page.paper_tape.punch.operation)
    ∙ left_where part reader_done (printed t events w) refl (is_due (printed t events w).bus.turn (printed t events w).bus.io_page.paper_tape.reader.operation)) where
      part : IoPage → Operation
      part b = b.console.printer.operation

pub reading_ends : ReadingEndsWhenDue
unfolding after_beginning before_disk
reading_ends t events w none =
    ends_where part reader_done (λ p busy. read_over (next_byte p.bus.tape p.bus.bytes_read) p busy) (printed t events w) t (part w.io_page) (turn_printed t events w)
    (left_where part printer_done (ticked t events w) refl (is_due (ticked t events w).bus.turn (ticked t events w).bus.io_page.console.printer.operation)
    ∙ left_where part clock_ticked (happened t events w) refl (is_tick (happened t events w).bus.turn (happened t events w).bus.io_page.delays.clock)
    ∙ events_leave part ReaderDone reader_left events none (at_start (in_turn t w))) _
    (left_where part disk_done (punched t events w) refl (is_due (punched t events w).bus.turn (punched t events w).bus.io_page.disk.operation)
    ∙ left_where part punch_done (read t events w) refl (is_due (read t events w).bus.turn (read t events w).bus.io_page.paper_tape.punch.operation)) where
      part : IoPage → Operation
      part b = b.paper_tape.reader.operation

      read_over : (next : Option ℕ) (p : Progress) → is_under_way (part p.bus.io_page) ≡ true
          → (reader_completed next p.bus.io_page.paper_tape.reader).operation ≡ Idle
      read_over None p busy = rw busy refl
      read_over (Some byte) p busy = rw busy refl

pub punching_ends : PunchingEndsWhenDue
unfolding after_beginning before_disk
punching_ends t events w none =
    ends_where part punch_done (λ p busy. rw busy refl) (read t events w) t (part w.io_page) (turn_read t events w)
    (left_where part reader_done (printed t events w) refl (is_due (printed t events w).bus.turn (printed t events w).bus.io_page.paper_tape.reader.operation)
    ∙ left_where part printer_done (ticked t events w) refl (is_due (ticked t events w).bus.turn (ticked t events w).bus.io_page.console.printer.operation)
    ∙ left_where part clock_ticked (happened t events w) refl (is_tick (happened t events w).bus.turn (happened t events w).bus.io_page.delays.clock)
    ∙ events_leave part PunchDone punch_left events none (at_start (in_turn t w))) _
    (left_where part disk_done (punched t events w) refl (is_due (punched t events w).bus.turn (punched t events w).bus.io_page.disk.operation)) where
      part : IoPage → Operation
      part b = b.paper_tape.punch.operation

disk_left : (e : Event) → e ≢ DiskDone → (p : Progress) → (after_event e p).bus.io_page.disk.operation ≡ p.bus.io_page.disk.operation
disk_left e other p = ap (λ disk. disk.operation) ((event_is_quiet e other).disk p)

pub disk_ends : DiskEndsWhenDue
unfolding after_beginning before_disk dues
disk_ends t events w none =
    ends_where part disk_done (λ p busy. completed_operation p.bus.turn (disk_world_of p.bus) busy) (before_disk t events w) t (part w.io_page)
    (before_is_settled t events w).turn
    (ap (λ disk. disk.operation) (dues_are_quiet.disk (happened t events w))
    ∙ events_leave part DiskDone disk_left events none (at_start (in_turn t w))) _ refl where
      part : IoPage → Operation
      part b = b.disk.operation

printing_stays : (u : RegisterUse) (b : IoPage) → is_under_way b.console.printer.operation ≡ true
    → (io_page_after_use u b).console.printer.operation ≡ b.console.printer.operation
unfolding after_read after_write
printing_stays (Writing (Console PrinterBuffer) word turn) b busy = rw busy refl
printing_stays (Writing (Console r) word turn) b busy = refl
printing_stays (Reading (Console KeyboardBuffer)) b busy = refl
printing_stays (Reading (Console r)) b busy = refl
printing_stays u b busy = ap (λ d. d.printer.operation) ((use_leaves u b).console (λ is. cc is))

reading_stays : (u : RegisterUse) (b : IoPage) → is_under_way b.paper_tape.reader.operation ≡ true
    → (io_page_after_use u b).paper_tape.reader.operation ≡ b.paper_tape.reader.operation
unfolding after_read after_write
reading_stays (Writing (PaperTape ReaderStatus) word turn) b busy = rw busy refl
reading_stays (Writing (PaperTape r) word turn) b busy = refl
reading_stays (Reading (PaperTape ReaderBuffer)) b busy = refl
reading_stays (Reading (PaperTape r)) b busy = refl
reading_stays u b busy = ap (λ d. d.reader.operation) ((use_leaves u b).paper_tape (λ is. cc is))

punching_stays : (u : RegisterUse) (b : IoPage) → is_under_way b.paper_tape.punch.operation ≡ true
    → (io_page_after_use u b).paper_tape.punch.operation ≡ b.paper_tape.punch.operation
unfolding after_read after_write
punching_stays (Writing (PaperTape PunchBuffer) word turn) b busy = rw busy refl
punching_stays (Writing (PaperTape r) word turn) b busy = refl
punching_stays (Reading (PaperTape ReaderBuffer)) b busy = refl
punching_stays (Reading (PaperTape r)) b busy = refl
punching_stays u b busy = ap (λ d. d.punch.operation) ((use_leaves u b).paper_tape (λ is. cc is))

-- what stays in each use of a register while it is under way stays in all of them
all_stay : (part : IoPage → Operation)
    → ((u : RegisterUse) (b : IoPage) → is_under_way (part b) ≡ true → part (io_page_after_use u b) ≡ part b)
    → (uses : List RegisterUse) (b : IoPage) → is_under_way (part b) ≡ true → part (io_page_after_uses uses b) ≡ part b
all_stay part stays [] b busy = refl
all_stay part stays (u ∷ uses) b busy =
    all_stay part stays uses (io_page_after_use u b) (ap is_under_way (stays u b busy) ∙ busy) ∙ stays u b busy

pub printing_outlives : PrintingOutlivesUses
printing_outlives = all_stay (λ b. b.console.printer.operation) printing_stays

pub reading_outlives : ReadingOutlivesUses
reading_outlives = all_stay (λ b. b.paper_tape.reader.operation) reading_stays

pub punching_outlives : PunchingOutlivesUses
punching_outlives = all_stay (λ b. b.paper_tape.punch.operation) punching_stays

-- what isn't ready isn't written, but for enable
disk_stays : (u : RegisterUse) (b : IoPage) → b.disk.ready_enable.ready ≡ false
    → ((io_page_after_use u b).disk.operation ≡ b.disk.operation) × ((io_page_after_use u b).disk.ready_enable.ready ≡ false)
unfolding after_read after_write rk_written
disk_stays (Writing (register.Disk rk.DriveStatus) word turn) b busy = (refl, busy)
disk_stays (Writing (register.Disk rk.Error) word turn) b busy = (refl, busy)
disk_stays (Writing (register.Disk r) word turn) b busy = rw busy (refl, refl)
disk_stays (Reading (register.Disk r)) b busy = (refl, busy)
disk_stays u b busy =
    let left = (use_leaves u b).disk in
    (ap (λ d. d.operation) (left (λ is. cc is)), ap (λ d. d.ready_enable.ready) (left (λ is. cc is)) ∙ busy)

pub disk_outlives : DiskOutlivesUses
disk_outlives [] b busy = refl
disk_outlives (u ∷ uses) b busy =
    let here = disk_stays u b busy in
    disk_outlives uses (io_page_after_use u b) here.1 ∙ here.0
