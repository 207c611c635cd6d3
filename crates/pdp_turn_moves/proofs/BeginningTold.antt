-- The beginning of a turn makes of each cell what is told of it.
use Rattle.std.proofs.Common.{◌≡◌, ◌∙◌, ℕ, suc, ◌||◌, Bool, true, false, List, [], ◌∷◌, Option, Some, None, map, flat_map, refl, sym, ap, if◌then◌else◌}
use Rattle.pdp_device.specs.Operation.{is_due}
use Rattle.pdp_io_page.specs.Handbook.Delays.{is_tick}
use Rattle.pdp_unibus.specs.Handbook.Beginning.{Progress, after_event, after_events, at_start, before_disk, clock_ticked, in_turn, printer_done, printer_due, punch_done, punch_due, reader_done, reader_due, tick_due, where_due}
use Rattle.pdp_unibus.specs.Handbook.BusWorld.{BusWorld, disk_world_of}
use Rattle.pdp_unibus.specs.declared.event.Event.{Event}
use Rattle.pdp_unibus.specs.declared.event.Event.TheVariants as event
use Rattle.pdp_rk11.specs.Handbook.Completion.{DiskWorld}
use Rattle.pdp_made.specs.Cells.{DataCell, DeviceBuffer, Buffer, Keyboard, Reader, Switches}
use Rattle.pdp_made_run.specs.BeginningRows.{before_printer, before_reader, made_by_disk, made_by_disk_due, made_by_event, made_by_events, made_by_reader, made_by_reader_due, made_if, made_in_beginning}
use Rattle.pdp_made_run.specs.Origins.{Held, OfEvent, Origin, back_through, still_held}
use Rattle.pdp_turn_moves.specs.Beginnings.{any_where, disk_moved, disk_told, ends_function, ends_reading, event_told, is_key, last_where, later_or, origins_told, reader_moved, reader_told, sets_switches}
use Rattle.pdp_turn_moves.specs.Beginnings as told
use Rattle.pdp_turn_moves.specs.declared.beginning_moves.BeginningMoves.{BeginningMoves}
use Rattle.pdp_turn_moves.proofs.DiskTold as disk
use Rattle.pdp_turn_moves.proofs.DiskTold.{IsPlain, buffer_left, disk_is_told, moved_by, operation_of}
use Rattle.pdp_turn_moves.proofs.Ends.{held_if, made_none, one_back, stays, through}
use Rattle.pdp_turn_moves.proofs.ReaderTold as reader
use Rattle.pdp_turn_moves.proofs.ReaderTold.{IsRead, ReaderPart, part_of, read_by, reader_is_told}

-- What the steps after the events leave
due_keeps : (X : Type 0) (part : BusWorld → X) (due : Bool) (step : Progress → Progress) (p : Progress) → part (step p).bus ≡ part p.bus
    → part (where_due due step p).bus ≡ part p.bus
due_keeps X part true step p same = same
due_keeps X part false step p same = refl

module _ (X : Type 0) (part : BusWorld → X) (ticked : (p : Progress) → part (clock_ticked p).bus ≡ part p.bus)
    (printed : (p : Progress) → part (printer_done p).bus ≡ part p.bus) where
  after_printer : (p : Progress) → part (printer_due (tick_due p)).bus ≡ part p.bus
  after_printer p =
      due_keeps X part (is_due (tick_due p).bus.turn (tick_due p).bus.io_page.console.printer.operation) printer_done (tick_due p) (printed (tick_due p))
      ∙ due_keeps X part (is_tick p.bus.turn p.bus.io_page.delays.clock) clock_ticked p (ticked p)

  after_punch : ((p : Progress) → part (reader_done p).bus ≡ part p.bus) → ((p : Progress) → part (punch_done p).bus ≡ part p.bus)
      → (p : Progress) → part (punch_due (reader_due (printer_due (tick_due p)))).bus ≡ part p.bus
  after_punch read punched p =
      let q = printer_due (tick_due p) in
      let r = reader_due q in
      due_keeps X part (is_due r.bus.turn r.bus.io_page.paper_tape.punch.operation) punch_done r (punched r)
      ∙ due_keeps X part (is_due q.bus.turn q.bus.io_page.paper_tape.reader.operation) reader_done q (read q)
      ∙ after_printer p

turn_left : (e : Event) (p : Progress) → (after_event e p).bus.turn ≡ p.bus.turn
turn_left event.DiskDone p = refl
turn_left _ p = refl

turn_stays : (es : List Event) (p : Progress) → (after_events es p).bus.turn ≡ p.bus.turn
turn_stays [] p = refl
turn_stays (e ∷ es) p = turn_stays es (after_event e p) ∙ turn_left e p

turn_at_reader : (t : ℕ) (es : List Event) (b : BusWorld) → (before_reader t es b).bus.turn ≡ t
unfolding before_reader before_printer
turn_at_reader t es b = after_printer ℕ (λ w. w.turn) (λ p. refl) (λ p. refl) (after_events es (at_start (in_turn t b))) ∙ turn_stays es (at_start (in_turn t b))

turn_at_disk : (t : ℕ) (es : List Event) (b : BusWorld) → (before_disk t es b).bus.turn ≡ t
unfolding before_disk
turn_at_disk t es b =
    after_punch ℕ (λ w. w.turn) (λ p. refl) (λ p. refl) (λ p. refl) (λ p. refl) (after_events es (at_start (in_turn t b))) ∙ turn_stays es (at_start (in_turn t b))

reader_at : (t : ℕ) (es : List Event) (b : BusWorld) → part_of (before_reader t es b).bus ≡ part_of (after_events es (at_start (in_turn t b))).bus
unfolding before_reader before_printer
reader_at t es b = after_printer ReaderPart part_of (λ p. refl) (λ p. refl) (after_events es (at_start (in_turn t b)))

disk_at : (t : ℕ) (es : List Event) (b : BusWorld) → disk_world_of (before_disk t es b).bus ≡ disk_world_of (after_events es (at_start (in_turn t b))).bus
unfolding before_disk
disk_at t es b = after_punch DiskWorld disk_world_of (λ p. refl) (λ p. refl) (λ p. refl) (λ p. refl) (after_events es (at_start (in_turn t b)))

-- Back through steps that leave a cell
still_through : (first next last : DataCell → List Origin) (c : DataCell) → last c ≡ still_held c
    → flat_map (back_through first) (flat_map (back_through next) (last c)) ≡ flat_map (back_through first) (next c)
still_through first next last c still = ap (λ xs. flat_map (back_through first) (flat_map (back_through next) xs)) still ∙ ap (flat_map (back_through first)) (one_back next c)

-- A cell that only events of one kind change: the last of them gives it
module _ (c : DataCell) (holds : Event → Bool)
    (here : (e : Event) (own : Origin) (b : BusWorld) → made_by_event e own b c ≡ (if holds e then own ∷ [] else still_held c)) where
  abbrev told_from : ℕ → (ℕ → ℕ) → Option ℕ → List Origin
  told_from t from (Some n) = OfEvent t (from n) ∷ []
  told_from t from None = still_held c

  first_told : (t : ℕ) (from : ℕ → ℕ) (own : Origin) (is_it : Bool) → own ≡ OfEvent t (from 0)
      → (if is_it then own ∷ [] else still_held c) ≡ told_from t from (later_or is_it None)
  first_told t from own true is = ap (λ x. x ∷ []) is
  first_told t from own false is = refl

  more_told : (t : ℕ) (from : ℕ → ℕ) (e : Event) (own : Origin) (b : BusWorld) (last : Option ℕ) → own ≡ OfEvent t (from 0)
      → flat_map (back_through (made_by_event e own b)) (told_from t (λ i. from (suc i)) last) ≡ told_from t from (later_or (holds e) last)
  more_told t from e own b (Some n) is = refl
  more_told t from e own b None is = one_back (made_by_event e own b) c ∙ here e own b ∙ first_told t from own (holds e) is

  events_told : (t : ℕ) (from : ℕ → ℕ) (es : List Event) (own : ℕ → Origin) (p : Progress) → ((i : ℕ) → own i ≡ OfEvent t (from i))
      → made_by_events es own p c ≡ told_from t from (last_where holds es)
  unfolding made_by_events
  events_told t from [] own p is = refl
  events_told t from (e ∷ es) own p is =
      ap (flat_map (back_through (made_by_event e (own 0) p.bus)))
      (events_told t (λ i. from (suc i)) es (λ n. own (suc n)) (after_event e p) (λ i. is (suc i)))
      ∙ more_told t from e (own 0) p.bus (last_where holds es) (is 0)

  by_number : (t : ℕ) (last : Option ℕ) → told_from t (λ i. i) last ≡ event_told t last c
  by_number t (Some n) = refl
  by_number t None = refl

  last_told : (t : ℕ) (es : List Event) (p : Progress) → made_by_events es (OfEvent t) p c ≡ event_told t (last_where holds es) c
  last_told t es p = events_told t (λ i. i) es (OfEvent t) p (λ i. refl) ∙ by_number t (last_where holds es)

key_here : (e : Event) (own : Origin) (b : BusWorld) → made_by_event e own b (Buffer Keyboard) ≡ (if is_key e then own ∷ [] else still_held (Buffer Keyboard))
key_here event.DiskDone own b = buffer_left b Keyboard
key_here _ own b = refl

switches_here : (e : Event) (own : Origin) (b : BusWorld) → made_by_event e own b (Buffer Switches) ≡ (if sets_switches e then own ∷ [] else still_held (Buffer Switches))
switches_here event.DiskDone own b = buffer_left b Switches
switches_here _ own b = refl

module _ (t : ℕ) (es : List Event) (b : BusWorld) where
  abbrev start : Progress
  start = at_start (in_turn t b)

  abbrev by_reader : DataCell → List Origin
  by_reader c = made_by_reader_due (before_reader t es b).bus c

  abbrev by_disk : DataCell → List Origin
  by_disk c = made_by_disk_due (before_disk t es b).bus c

  disk_still : (buffer : DeviceBuffer) → by_disk (Buffer buffer) ≡ still_held (Buffer buffer)
  disk_still buffer =
      let w = (before_disk t es b).bus in
      made_none (is_due w.turn w.io_page.disk.operation) (made_by_disk w) (Buffer buffer) (buffer_left w buffer)

  reader_still : (c : DataCell) → made_by_reader (before_reader t es b).bus c ≡ still_held c → by_reader c ≡ still_held c
  reader_still c still =
      let w = (before_reader t es b).bus in
      made_none (is_due w.turn w.io_page.paper_tape.reader.operation) (made_by_reader w) c still

  event_made : (buffer : DeviceBuffer) → by_reader (Buffer buffer) ≡ still_held (Buffer buffer) → made_in_beginning t es b (Buffer buffer) ≡ made_by_events es (OfEvent t) start (Buffer buffer)
  unfolding made_in_beginning
  event_made buffer still =
      let c = Buffer buffer in
      let events = made_by_events es (OfEvent t) start in
      still_through events by_reader by_disk c (disk_still buffer) ∙ ap (flat_map (back_through events)) still ∙ one_back events c

  key_made : made_in_beginning t es b (Buffer Keyboard) ≡ event_told t (last_where is_key es) (Buffer Keyboard)
  key_made = event_made Keyboard (reader_still (Buffer Keyboard) refl) ∙ last_told (Buffer Keyboard) is_key key_here t es start

  switches_made : made_in_beginning t es b (Buffer Switches) ≡ event_told t (last_where sets_switches es) (Buffer Switches)
  switches_made = event_made Switches (reader_still (Buffer Switches) refl) ∙ last_told (Buffer Switches) sets_switches switches_here t es start

  reader_made : made_in_beginning t es b (Buffer Reader)
      ≡ made_if (any_where ends_reading es || is_due t b.io_page.paper_tape.reader.operation) (read_by (part_of b)) (Buffer Reader)
  unfolding made_in_beginning
  reader_made =
      let c = Buffer Reader in
      let w = (before_reader t es b).bus in
      let events = made_by_events es (OfEvent t) start in
      still_through events by_reader by_disk c (disk_still Reader)
      ∙ ap (λ n. flat_map (back_through events) (made_if (is_due n w.io_page.paper_tape.reader.operation) (made_by_reader w) c)) (turn_at_reader t es b)
      ∙ through ReaderPart part_of read_by reader.operation_of IsRead ends_reading reader.others reader.done reader.kept reader.ended reader.idle reader.closed
      es (OfEvent t) start t (part_of w) c tt (reader_at t es b)

  reader_plain : (w : BusWorld) (c : DataCell) → IsPlain c → made_by_reader w c ≡ still_held c
  reader_plain w (Buffer Reader) plain = absurd plain
  reader_plain w c plain = refl

  plain_made : (c : DataCell) → IsPlain c → made_in_beginning t es b c
      ≡ made_if (any_where ends_function es || is_due t b.io_page.disk.operation) (moved_by (disk_world_of b)) c
  unfolding made_in_beginning
  plain_made c plain =
      let w = (before_disk t es b).bus in
      let events = made_by_events es (OfEvent t) start in
      ap (flat_map (back_through events)) (stays IsPlain by_reader (λ d kind. reader_still d (reader_plain (before_reader t es b).bus d kind)) (by_disk c)
      (held_if IsPlain (is_due w.turn w.io_page.disk.operation) (made_by_disk w) c plain (disk.closed (disk_world_of w) c plain)))
      ∙ ap (λ n. flat_map (back_through events) (made_if (is_due n w.io_page.disk.operation) (made_by_disk w) c)) (turn_at_disk t es b)
      ∙ through DiskWorld disk_world_of moved_by operation_of IsPlain ends_function disk.others disk.done disk.kept disk.ended disk.idle disk.closed
      es (OfEvent t) start t (disk_world_of w) c plain (disk_at t es b)

pub beginning_told : (t : ℕ) (es : List Event) (b : BusWorld) (moves : BeginningMoves) → moves.key ≡ last_where is_key es → moves.switches ≡ last_where sets_switches es
    → moves.reader ≡ reader_moved t (any_where ends_reading es) b → moves.disk ≡ disk_moved t (any_where ends_function es) b
    → (c : DataCell) → origins_told t moves c ≡ made_in_beginning t es b c
beginning_told t es b moves key switches read moved (Buffer Keyboard) = ap (λ last. event_told t last (Buffer Keyboard)) key ∙ sym (key_made t es b)
beginning_told t es b moves key switches read moved (Buffer Switches) = ap (λ last. event_told t last (Buffer Switches)) switches ∙ sym (switches_made t es b)
beginning_told t es b moves key switches read moved (Buffer Reader) = ap reader_told read ∙ reader_is_told t (any_where ends_reading es) b ∙ sym (reader_made t es b)
beginning_told t es b moves key switches read moved c =
    ap (λ done. map Held (disk_told done c)) moved ∙ disk_is_told t (any_where ends_function es) b c ∙ sym (plain_made t es b c tt)

-- the moves themselves, part by part
pub told_of : (t : ℕ) (es : List Event) (b : BusWorld) (moves : BeginningMoves) → moves.key ≡ last_where is_key es → moves.switches ≡ last_where sets_switches es
    → moves.reader ≡ reader_moved t (any_where ends_reading es) b → moves.disk ≡ disk_moved t (any_where ends_function es) b
    → moves ≡ told.beginning_told t es b
told_of t es b moves key switches read moved = λ j. record { key = key j; switches = switches j; reader = read j; disk = moved j }
