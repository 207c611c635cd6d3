-- What the beginning of a turn reads from the tape.
use Rattle.std.proofs.Common.{◌≡◌, ◌∙◌, ◌&&◌, not, ℕ, Bool, true, false, Option, Some, None, List, [], ◌∷◌, refl, sym, ap, ap₂}
use Rattle.pdp_device.specs.Operation.{is_due, is_under_way}
use Rattle.pdp_device.specs.declared.operation.Operation.TheVariants.{Idle}
use Rattle.pdp_tape.specs.Reader.{read_over}
use Rattle.pdp_tape.specs.declared.reader.Reader.{Reader}
use Rattle.pdp_unibus.proofs.Frame.{event_leaves}
use Rattle.pdp_unibus.specs.Handbook.Beginning.{Progress, after_event, after_events, at_start, before_disk, after_beginning, clock_ticked, disk_done, disk_due, in_turn, printer_done, printer_due, punch_done, punch_due, reader_done, reader_due, tick_due, where_due}
use Rattle.pdp_io_page.specs.Handbook.Delays.{is_tick}
use Rattle.pdp_unibus.specs.ByteLaws.{ReadsTakeTheNextByte, has_ended, reader_of}
use Rattle.pdp_unibus.specs.Handbook.Tape.{next_byte, read_on}
use Rattle.pdp_unibus.specs.declared.event.Event.{Event}
use Rattle.pdp_unibus.specs.declared.event.Event.TheVariants.{ReaderDone, PunchDone}

-- what became of the reader and of how far the tape is read since the turn began: nothing, or one read is over
data Since (r : Reader) (tape : List ℕ) (start : ℕ) (now : Reader) (there : List ℕ) (far : ℕ) : Type 0 where
  Still : now ≡ r → there ≡ tape → far ≡ start → Since r tape start now there far
  Over : is_under_way r.operation ≡ true → now.operation ≡ Idle → now ≡ read_over (next_byte tape start) r → far ≡ read_on tape start
      → Since r tape start now there far

abbrev SinceAt : Reader → List ℕ → ℕ → Progress → Type 0
SinceAt r tape start p = Since r tape start (reader_of p.bus) p.bus.tape p.bus.bytes_read

idle_then : (next : Option ℕ) (r : Reader) → (read_over next r).operation ≡ Idle
idle_then None r = refl
idle_then (Some byte) r = refl

over : (r : Reader) (tape : List ℕ) (start : ℕ) (p : Progress) (busy : Bool) → is_under_way r.operation ≡ busy
    → reader_of p.bus ≡ r → p.bus.tape ≡ tape → p.bus.bytes_read ≡ start → SinceAt r tape start (reader_done p)
over r tape start p true busy still same far =
    let now : is_under_way (reader_of p.bus).operation ≡ true = ap (λ x. is_under_way x.operation) still ∙ busy in
    let read : reader_of (reader_done p).bus ≡ read_over (next_byte p.bus.tape p.bus.bytes_read) (reader_of p.bus) = rw now refl in
    let so : reader_of (reader_done p).bus ≡ read_over (next_byte tape start) r =
    read ∙ ap (λ next. read_over next (reader_of p.bus)) (ap₂ next_byte same far) ∙ ap (read_over (next_byte tape start)) still
    in
    let on : (reader_done p).bus.bytes_read ≡ read_on p.bus.tape p.bus.bytes_read = rw now refl in
    Over busy (ap (λ x. x.operation) so ∙ idle_then (next_byte tape start) r) so (on ∙ ap₂ read_on same far)
over r tape start p false idle still same far =
    let now : is_under_way (reader_of p.bus).operation ≡ false = ap (λ x. is_under_way x.operation) still ∙ idle in
    let stays : reader_of (reader_done p).bus ≡ reader_of p.bus = rw now refl in
    let on : (reader_done p).bus.bytes_read ≡ p.bus.bytes_read = rw now refl in
    Still (stays ∙ still) same (on ∙ far)

reading_done : (r : Reader) (tape : List ℕ) (start : ℕ) (p : Progress) → SinceAt r tape start p → SinceAt r tape start (reader_done p)
reading_done r tape start p (Still still same far) = over r tape start p (is_under_way r.operation) refl still same far
reading_done r tape start p (Over busy idle read rest) =
    let now : is_under_way (reader_of p.bus).operation ≡ false = ap is_under_way idle in
    let stays : reader_of (reader_done p).bus ≡ reader_of p.bus = rw now refl in
    let on : (reader_done p).bus.bytes_read ≡ p.bus.bytes_read = rw now refl in
    Over busy (ap (λ x. x.operation) stays ∙ idle) (stays ∙ read) (on ∙ rest)

-- the reader and the tape as they were
same : (r : Reader) (tape : List ℕ) (start : ℕ) (p q : Progress) → reader_of q.bus ≡ reader_of p.bus
    → q.bus.tape ≡ p.bus.tape → q.bus.bytes_read ≡ p.bus.bytes_read → SinceAt r tape start p → SinceAt r tape start q
same r tape start p q reader there far (Still still bytes on) = Still (reader ∙ still) (there ∙ bytes) (far ∙ on)
same r tape start p q reader there far (Over busy idle read on) =
    Over busy (ap (λ x. x.operation) reader ∙ idle) (reader ∙ read) (far ∙ on)

after_one : (r : Reader) (tape : List ℕ) (start : ℕ) (e : Event) (p : Progress) → SinceAt r tape start p → SinceAt r tape start (after_event e p)
after_one r tape start ReaderDone p since = reading_done r tape start p since
after_one r tape start PunchDone p since = since
after_one r tape start e p since =
    let left = event_leaves e p in
    same r tape start p (after_event e p) (ap (λ d. d.reader) (left.io_page.paper_tape (λ is. cc is))) left.tape (left.bytes_read (λ is. cc is)) since

after_each : (r : Reader) (tape : List ℕ) (start : ℕ) (es : List Event) (p : Progress) → SinceAt r tape start p → SinceAt r tape start (after_events es p)
after_each r tape start [] p since = since
after_each r tape start (e ∷ es) p since = after_each r tape start es (after_event e p) (after_one r tape start e p since)

after_due : (r : Reader) (tape : List ℕ) (start : ℕ) (f : Progress → Progress) (p : Progress) → (SinceAt r tape start p → SinceAt r tape start (f p))
    → (due : Bool) → SinceAt r tape start p → SinceAt r tape start (where_due due f p)
after_due r tape start f p goes true since = goes since
after_due r tape start f p goes false since = since

after_all : (r : Reader) (tape : List ℕ) (start : ℕ) (es : List Event) (p : Progress) → SinceAt r tape start p
    → SinceAt r tape start (disk_due (punch_due (reader_due (printer_due (tick_due (after_events es p))))))
after_all r tape start es p since =
    let events = after_events es p in
    let ticked = tick_due events in
    let printed = printer_due ticked in
    let read = reader_due printed in
    let punched = punch_due read in
    after_due r tape start disk_done punched (λ s. s) (is_due punched.bus.turn punched.bus.io_page.disk.operation)
    (after_due r tape start punch_done read (λ s. s) (is_due read.bus.turn read.bus.io_page.paper_tape.punch.operation)
    (after_due r tape start reader_done printed (reading_done r tape start printed) (is_due printed.bus.turn printed.bus.io_page.paper_tape.reader.operation)
    (after_due r tape start printer_done ticked (λ s. s) (is_due ticked.bus.turn ticked.bus.io_page.console.printer.operation)
    (after_due r tape start clock_ticked events (λ s. s) (is_tick events.bus.turn events.bus.io_page.delays.clock)
    (after_each r tape start es p since)))))

not_both : (busy : Bool) → (busy && not busy) ≡ true → ⊥
not_both true is = cc
not_both false is = cc

told : (r now : Reader) (tape there : List ℕ) (start far : ℕ) → Since r tape start now there far
    → (has_ended r.operation now.operation ≡ true → (now ≡ read_over (next_byte tape start) r) × (far ≡ read_on tape start))
    × (has_ended r.operation now.operation ≡ false → (now ≡ r) × (far ≡ start))
told r now tape there start far (Still still same on) = (
  λ ended. absurd (not_both (is_under_way r.operation) (ap (λ x. has_ended r.operation x.operation) (sym still) ∙ ended)),
  λ _. (still, on),
)
told r now tape there start far (Over busy idle read rest) = (λ _. (read, rest), λ goes_on. absurd (never goes_on)) where
  never : has_ended r.operation now.operation ≡ false → ⊥
  never goes_on = let ended : has_ended r.operation now.operation ≡ true = rw (busy, idle) refl in cc

pub reads_take_the_next : ReadsTakeTheNextByte
unfolding after_beginning before_disk
reads_take_the_next t events w =
    told (reader_of w) _ w.tape _ w.bytes_read _
    (after_all (reader_of w) w.tape w.bytes_read events (at_start (in_turn t w)) (Still refl refl refl))
