-- The beginning of a turn, step by step: all but the disk's completion neither touch a word of core or of a drive, nor
-- look at one.
use Rattle.std.proofs.Common.{◌≡◌, ◌≢◌, ◌∙◌, ℕ, suc, zero, ◌+◌, ◌<◌, Bool, true, false, List, [], ◌∷◌, length, take, get_or, refl, sym, subst, ap, ap₂, add-one, arith}
use Rattle.pdp_device.specs.Operation.{is_due, is_under_way}
use Rattle.pdp_unibus.specs.Handbook.Beginning.{Progress, after_event, after_events, at_start, before_disk, after_beginning, clock_ticked, disk_done, disk_due, in_turn, printer_done, printer_due, punch_done, punch_due, reader_done, reader_due, tick_due, where_due}
use Rattle.pdp_io_page.specs.Handbook.Delays.{is_tick}
use Rattle.pdp_store.specs.CycleLogs.{KeptCycles}
use Rattle.pdp_store.specs.declared.part.Part.{Part}
use Rattle.pdp_rk11.proofs.Readiness.{completed_idle}
use Rattle.pdp_unibus.specs.Handbook.BusWorld.{BusWorld, disk_world_of, is_disk_busy, with_disk_world, with_first_touches, with_log}
use Rattle.pdp_rk11.proofs.FirstTouches.{not_under_way}
use Rattle.pdp_unibus.proofs.AccessNotes.{AccessNotes, with_notes}
use Rattle.pdp_unibus.specs.Page.{bus_with_words}
use Rattle.pdp_io_page.specs.declared.io_page.IoPage.{IoPage}
use Rattle.pdp_unibus.specs.declared.event.Event.{Event}
use Rattle.pdp_unibus.specs.declared.event.Event.TheVariants.{Tick, PrinterDone, ReaderDone, PunchDone, DiskDone}

one_more : (es : List Event) (i : ℕ) (d : Event) (p : Progress) → i < length es
    → after_events (take (suc i) es) p ≡ after_event (get_or es i d) (after_events (take i es) p)
one_more [] i d p below = absurd (omega arith)
one_more (e ∷ es) zero d p below = refl
one_more (e ∷ es) (suc i) d p below = one_more es i d (after_event e p) (omega arith)

pub after_more_events : (es : List Event) (i : ℕ) (d : Event) (p : Progress) → i < length es
    → after_events (take (i + 1) es) p ≡ after_event (get_or es i d) (after_events (take i es) p)
after_more_events es i d p below = rw add-one (one_more es i d p below)

-- the same with other words in a part
abbrev pub over : Part → List ℕ → Progress → Progress
over part words p = record p { bus = bus_with_words part words p.bus }

-- the same with other notes of accesses
abbrev pub holding : Progress → AccessNotes → Progress
holding p notes = record p { bus = with_notes p.bus notes }

-- the same with another log
abbrev pub logging : Progress → KeptCycles → Progress
logging p log = record p { bus = with_log p.bus log }

-- a step that does the same whatever core and the drives hold, and leaves them, the stamps, the turn, the program status
-- and the mapping registers
pub record Quiet (step : Progress → Progress) : Type 0 where
  pub commutes : (part : Part) (words : List ℕ) (p : Progress) → step (over part words p) ≡ over part words (step p)
  pub holds : (notes : AccessNotes) (p : Progress) → step (holding p notes) ≡ holding (step p) notes
  pub logs : (log : KeptCycles) (p : Progress) → step (logging p log) ≡ logging (step p) log
  pub leaves : (p : Progress) → (step p).bus ≡ record p.bus { io_page = (step p).bus.io_page; bytes_read = (step p).bus.bytes_read }
  pub status : (p : Progress) → (step p).bus.io_page.status ≡ p.bus.io_page.status
  pub mapping : (p : Progress) → (step p).bus.io_page.mapping ≡ p.bus.io_page.mapping
  pub disk : (p : Progress) → (step p).bus.io_page.disk ≡ p.bus.io_page.disk

pub event_is_quiet : (e : Event) → e ≢ DiskDone → Quiet (after_event e)
event_is_quiet DiskDone other = absurd (other refl)
event_is_quiet _ other = record {
  commutes = λ part words p. refl;
  holds = λ notes p. refl;
  logs = λ log p. refl;
  leaves = λ p. refl;
  status = λ p. refl;
  mapping = λ p. refl;
  disk = λ p. refl;
}

-- one quiet step after another
both : (f g : Progress → Progress) → Quiet f → Quiet g → Quiet (λ p. g (f p))
both f g first second = record {
  commutes = λ part words p. ap g (first.commutes part words p) ∙ second.commutes part words (f p);
  holds = λ notes p. ap g (first.holds notes p) ∙ second.holds notes (f p);
  logs = λ log p. ap g (first.logs log p) ∙ second.logs log (f p);
  leaves = λ p. second.leaves (f p) ∙ ap {A = BusWorld} (λ bus. record bus { io_page = (g (f p)).bus.io_page; bytes_read = (g (f p)).bus.bytes_read }) (first.leaves p);
  status = λ p. second.status (f p) ∙ first.status p;
  mapping = λ p. second.mapping (f p) ∙ first.mapping p;
  disk = λ p. second.disk (f p) ∙ first.disk p;
}

-- a quiet step if it is due, by the turn and the I/O page
where_due_is_quiet : (due : ℕ → IoPage → Bool) (f : Progress → Progress) → Quiet f
    → Quiet (λ p. where_due (due p.bus.turn p.bus.io_page) f p)
where_due_is_quiet due f quiet = record {
  commutes = λ part words p. commuted part words p (due p.bus.turn p.bus.io_page);
  holds = λ notes p. held notes p (due p.bus.turn p.bus.io_page);
  logs = λ log p. logged_so log p (due p.bus.turn p.bus.io_page);
  leaves = λ p. left p (due p.bus.turn p.bus.io_page);
  status = λ p. kept (λ io_page. io_page.status) p (quiet.status p) (due p.bus.turn p.bus.io_page);
  mapping = λ p. kept (λ io_page. io_page.mapping) p (quiet.mapping p) (due p.bus.turn p.bus.io_page);
  disk = λ p. kept (λ io_page. io_page.disk) p (quiet.disk p) (due p.bus.turn p.bus.io_page);
} where
  commuted : (part : Part) (words : List ℕ) (p : Progress) (holds : Bool)
      → where_due holds f (over part words p) ≡ over part words (where_due holds f p)
  commuted part words p true = quiet.commutes part words p
  commuted part words p false = refl

  held : (notes : AccessNotes) (p : Progress) (holds : Bool) → where_due holds f (holding p notes) ≡ holding (where_due holds f p) notes
  held notes p true = quiet.holds notes p
  held notes p false = refl

  logged_so : (log : KeptCycles) (p : Progress) (holds : Bool) → where_due holds f (logging p log) ≡ logging (where_due holds f p) log
  logged_so log p true = quiet.logs log p
  logged_so log p false = refl

  left : (p : Progress) (holds : Bool)
      → (where_due holds f p).bus ≡ record p.bus { io_page = (where_due holds f p).bus.io_page; bytes_read = (where_due holds f p).bus.bytes_read }
  left p true = quiet.leaves p
  left p false = refl

  kept : {A : Type 0} (field : IoPage → A) (p : Progress) → field (f p).bus.io_page ≡ field p.bus.io_page → (holds : Bool)
      → field (where_due holds f p).bus.io_page ≡ field p.bus.io_page
  kept field p is true = is
  kept field p is false = refl

pub tick_is_quiet : Quiet tick_due
tick_is_quiet = where_due_is_quiet (λ t b. is_tick t b.delays.clock) clock_ticked (event_is_quiet Tick (λ is. cc is))

pub printer_is_quiet : Quiet printer_due
printer_is_quiet = where_due_is_quiet (λ t b. is_due t b.console.printer.operation) printer_done (event_is_quiet PrinterDone (λ is. cc is))

pub reader_is_quiet : Quiet reader_due
reader_is_quiet = where_due_is_quiet (λ t b. is_due t b.paper_tape.reader.operation) reader_done (event_is_quiet ReaderDone (λ is. cc is))

pub punch_is_quiet : Quiet punch_due
punch_is_quiet = where_due_is_quiet (λ t b. is_due t b.paper_tape.punch.operation) punch_done (event_is_quiet PunchDone (λ is. cc is))

-- a quiet step leaves the turn
pub turn_left : (f : Progress → Progress) → Quiet f → (p : Progress) → (f p).bus.turn ≡ p.bus.turn
turn_left f quiet p = ap (λ bus. bus.turn) (quiet.leaves p)

-- what is due before the disk
unfoldable pub dues : Progress → Progress
dues p = punch_due (reader_due (printer_due (tick_due p)))

pub dues_are_quiet : Quiet dues
unfolding dues
dues_are_quiet =
    both (λ p. reader_due (printer_due (tick_due p))) punch_due
    (both (λ p. printer_due (tick_due p)) reader_due (both tick_due printer_due tick_is_quiet printer_is_quiet) reader_is_quiet)
    punch_is_quiet

-- a step leaves the turn, the program status and the mapping registers
pub record Settled (p q : Progress) : Type 0 where
  pub turn : q.bus.turn ≡ p.bus.turn
  pub status : q.bus.io_page.status ≡ p.bus.io_page.status
  pub mapping : q.bus.io_page.mapping ≡ p.bus.io_page.mapping

then_settled : (p q r : Progress) → Settled p q → Settled q r → Settled p r
then_settled p q r first second = record {
  turn = second.turn ∙ first.turn;
  status = second.status ∙ first.status;
  mapping = second.mapping ∙ first.mapping;
}

quiet_is_settled : (f : Progress → Progress) (p : Progress) → Quiet f → Settled p (f p)
quiet_is_settled f p quiet = record {
  turn = ap (λ bus. bus.turn) (quiet.leaves p);
  status = quiet.status p;
  mapping = quiet.mapping p;
}

disk_is_settled : (p : Progress) → Settled p (disk_done p)
disk_is_settled p = record { turn = refl; status = refl; mapping = refl }

event_is_settled : (e : Event) (p : Progress) → Settled p (after_event e p)
event_is_settled DiskDone p = disk_is_settled p
event_is_settled e p = quiet_is_settled (after_event e) p (event_is_quiet e (λ is. cc is))

pub events_are_settled : (es : List Event) (p : Progress) → Settled p (after_events es p)
events_are_settled [] p = record { turn = refl; status = refl; mapping = refl }
events_are_settled (e ∷ es) p =
    then_settled p (after_event e p) (after_events es (after_event e p)) (event_is_settled e p) (events_are_settled es (after_event e p))

disk_due_is_settled : (p : Progress) (due : Bool) → Settled p (where_due due disk_done p)
disk_due_is_settled p true = disk_is_settled p
disk_due_is_settled p false = record { turn = refl; status = refl; mapping = refl }

pub before_is_settled : (t : ℕ) (es : List Event) (w : BusWorld) → Settled (at_start (in_turn t w)) (before_disk t es w)
unfolding before_disk dues
before_is_settled t es w =
    let events = after_events es (at_start (in_turn t w)) in
    then_settled (at_start (in_turn t w)) events (dues events) (events_are_settled es (at_start (in_turn t w)))
    (quiet_is_settled dues events dues_are_quiet)

-- the beginning of a turn is in that turn, and leaves the program status and the mapping registers
pub begun_is_settled : (t : ℕ) (es : List Event) (w : BusWorld) → Settled (at_start (in_turn t w)) (after_beginning t es w)
unfolding after_beginning
begun_is_settled t es w =
    then_settled (at_start (in_turn t w)) (before_disk t es w) (disk_due (before_disk t es w)) (before_is_settled t es w)
    (disk_due_is_settled (before_disk t es w) (is_due (before_disk t es w).bus.turn (before_disk t es w).bus.io_page.disk.operation))

-- a step while nothing is under way on the disk: core, its stamps and the drives stay, and so does the disk
pub record Idles (p q : Progress) : Type 0 where
  pub leaves : q.bus ≡ record p.bus { io_page = q.bus.io_page; bytes_read = q.bus.bytes_read }
  pub disk : q.bus.io_page.disk ≡ p.bus.io_page.disk

then_idles : (p q r : Progress) → Idles p q → Idles q r → Idles p r
then_idles p q r first second = record {
  leaves = second.leaves ∙ ap {A = BusWorld} (λ bus. record bus { io_page = r.bus.io_page; bytes_read = r.bus.bytes_read }) first.leaves;
  disk = second.disk ∙ first.disk;
}

quiet_idles : (f : Progress → Progress) (p : Progress) → Quiet f → Idles p (f p)
quiet_idles f p quiet = record { leaves = quiet.leaves p; disk = quiet.disk p }

disk_idles : (p : Progress) → is_under_way p.bus.io_page.disk.operation ≡ false → Idles p (disk_done p)
disk_idles p idle =
    let same : disk_done p ≡ p = ap₂ (λ d f. record p { bus = with_first_touches (with_disk_world p.bus d) f }) (completed_idle p.bus.turn (disk_world_of p.bus) idle)
    (sym (not_under_way p.bus.turn (disk_world_of p.bus) p.bus.first_touches idle)) in
    subst (Idles p) (sym same) (record { leaves = refl; disk = refl })

event_idles : (e : Event) (p : Progress) → is_under_way p.bus.io_page.disk.operation ≡ false → Idles p (after_event e p)
event_idles DiskDone p idle = disk_idles p idle
event_idles e p idle = quiet_idles (after_event e) p (event_is_quiet e (λ is. cc is))

events_idle : (es : List Event) (p : Progress) → is_under_way p.bus.io_page.disk.operation ≡ false → Idles p (after_events es p)
events_idle [] p idle = record { leaves = refl; disk = refl }
events_idle (e ∷ es) p idle =
    let first = event_idles e p idle in
    then_idles p (after_event e p) (after_events es (after_event e p)) first
    (events_idle es (after_event e p) (ap (λ disk. is_under_way disk.operation) first.disk ∙ idle))

due_idles : (p : Progress) (due : Bool) → is_under_way p.bus.io_page.disk.operation ≡ false → Idles p (where_due due disk_done p)
due_idles p true idle = disk_idles p idle
due_idles p false idle = record { leaves = refl; disk = refl }

pub begun_idles : (t : ℕ) (es : List Event) (w : BusWorld) → is_under_way w.io_page.disk.operation ≡ false
    → Idles (at_start (in_turn t w)) (after_beginning t es w)
unfolding after_beginning before_disk dues
begun_idles t es w idle =
    let start = at_start (in_turn t w) in
    let events = after_events es start in
    let before = then_idles start events (dues events) (events_idle es start idle) (quiet_idles dues events dues_are_quiet) in
    then_idles start (dues events) (disk_due (dues events)) before
    (due_idles (dues events) (is_due (dues events).bus.turn (dues events).bus.io_page.disk.operation)
    (ap (λ disk. is_under_way disk.operation) before.disk ∙ idle))

-- nothing is under way on a disk that is as it was
pub still_idle : (b c : IoPage) → c.disk ≡ b.disk → is_disk_busy b ≡ false → is_disk_busy c ≡ false
still_idle b c same idle = ap (λ disk. is_under_way disk.operation) same ∙ idle
