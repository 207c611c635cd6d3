-- What the beginning of a turn prints and punches, and when operations end in it.
use Rattle.std.proofs.Common.{◌≡◌, ◌∙◌, ◌&&◌, not, ℕ, Bool, true, false, List, [], ◌∷◌, ◌++◌, option_to_list, refl, sym, ap, if◌then◌else◌}
use Rattle.pdp_device.specs.Operation.{is_due, is_under_way}
use Rattle.pdp_device.specs.Transmitter.{byte_out, transmitter_completed}
use Rattle.pdp_device.specs.declared.operation.Operation.TheVariants.{Idle}
use Rattle.pdp_device.specs.declared.transmitter.Transmitter.{Transmitter}
use Rattle.pdp_unibus.proofs.Frame.{event_leaves}
use Rattle.pdp_unibus.specs.Handbook.Beginning.{Progress, after_event, after_events, at_start, before_disk, after_beginning, clock_ticked, disk_done, disk_due, in_turn, printer_done, printer_due, punch_done, punch_due, reader_done, reader_due, tick_due, where_due}
use Rattle.pdp_io_page.specs.Handbook.Delays.{is_tick}
use Rattle.pdp_unibus.specs.ByteLaws.{BytesArePrintedAsOperationsEnd, BytesArePunchedAsOperationsEnd, came_out}
use Rattle.pdp_io_page.specs.declared.io_page.IoPage.{IoPage}
use Rattle.pdp_unibus.specs.declared.event.Event.{Event}
use Rattle.pdp_unibus.specs.declared.event.Event.TheVariants.{Key, Tick, PrinterDone, ReaderDone, PunchDone, DiskDone}

-- what a step makes of a transmitter and of the bytes that came out of it: nothing, or a completion
data Does (o : Transmitter) (out : List ℕ) (after : Transmitter) (out_after : List ℕ) : Type 0 where
  Leaves : after ≡ o → out_after ≡ out → Does o out after out_after
  Completes : after ≡ transmitter_completed o → out_after ≡ out ++ option_to_list (byte_out o) → Does o out after out_after

-- what became of a transmitter since the turn began: nothing; or its byte came out, and it is idle
data Since (o : Transmitter) (now : Transmitter) (out : List ℕ) : Type 0 where
  Still : now ≡ o → out ≡ [] → Since o now out
  Out : is_under_way o.operation ≡ true → now.operation ≡ Idle → out ≡ o.byte ∷ [] → Since o now out

completed : (o now after : Transmitter) (out out_after : List ℕ) (busy : Bool) → is_under_way o.operation ≡ busy
    → now ≡ o → out ≡ [] → after ≡ transmitter_completed now → out_after ≡ out ++ option_to_list (byte_out now) → Since o after out_after
completed o now after out out_after true busy still none is said =
    Out busy
    (ap (λ p. p.operation) (is ∙ ap transmitter_completed still) ∙ rw busy refl)
    (said ∙ ap (λ xs. xs ++ option_to_list (byte_out now)) none ∙ ap (λ p. option_to_list (byte_out p)) still ∙ rw busy refl)
completed o now after out out_after false idle still none is said =
    Still
    (is ∙ ap transmitter_completed still ∙ rw idle refl)
    (said ∙ ap (λ xs. xs ++ option_to_list (byte_out now)) none ∙ ap (λ p. option_to_list (byte_out p)) still ∙ rw idle refl)

-- a completion if nothing is under way
at_rest : (o : Transmitter) → is_under_way o.operation ≡ false → transmitter_completed o ≡ o
at_rest o idle = rw idle refl

step : (o now after : Transmitter) (out out_after : List ℕ) → Since o now out → Does now out after out_after → Since o after out_after
step o now after out out_after (Still still none) (Leaves is said) = Still (is ∙ still) (said ∙ none)
step o now after out out_after (Still still none) (Completes is said) =
    completed o now after out out_after (is_under_way o.operation) refl still none is said
step o now after out out_after (Out busy idle byte) (Leaves is said) = Out busy (ap (λ p. p.operation) is ∙ idle) (said ∙ byte)
step o now after out out_after (Out busy idle byte) (Completes is said) =
    Out busy (ap (λ p. p.operation) (is ∙ at_rest now (ap is_under_way idle)) ∙ idle) (said ∙ ap (λ xs. xs ++ option_to_list (byte_out now)) byte ∙ rw idle refl)

-- a step that leaves a transmitter and what came out of it, or completes it, wherever it is taken
abbrev Tracks : (IoPage → Transmitter) → (Progress → List ℕ) → (Progress → Progress) → Type 0
Tracks transmitter out f = (p : Progress) → Does (transmitter p.bus.io_page) (out p) (transmitter (f p).bus.io_page) (out (f p))

-- what became of it up to here
abbrev SinceAt : (IoPage → Transmitter) → (Progress → List ℕ) → Transmitter → Progress → Type 0
SinceAt transmitter out o p = Since o (transmitter p.bus.io_page) (out p)

after_step : (transmitter : IoPage → Transmitter) (out : Progress → List ℕ) (f : Progress → Progress) → Tracks transmitter out f
    → (o : Transmitter) (p : Progress) → SinceAt transmitter out o p → SinceAt transmitter out o (f p)
after_step transmitter out f tracks o p since =
    step o (transmitter p.bus.io_page) (transmitter (f p).bus.io_page) (out p) (out (f p)) since (tracks p)

after_due : (transmitter : IoPage → Transmitter) (out : Progress → List ℕ) (f : Progress → Progress) → Tracks transmitter out f
    → (o : Transmitter) (p : Progress) (due : Bool) → SinceAt transmitter out o p → SinceAt transmitter out o (where_due due f p)
after_due transmitter out f tracks o p true since = after_step transmitter out f tracks o p since
after_due transmitter out f tracks o p false since = since

after_each : (transmitter : IoPage → Transmitter) (out : Progress → List ℕ) → ((e : Event) → Tracks transmitter out (after_event e))
    → (o : Transmitter) (es : List Event) (p : Progress) → SinceAt transmitter out o p → SinceAt transmitter out o (after_events es p)
after_each transmitter out tracks o [] p since = since
after_each transmitter out tracks o (e ∷ es) p since =
    after_each transmitter out tracks o es (after_event e p) (after_step transmitter out (after_event e) (tracks e) o p since)

after_all : (transmitter : IoPage → Transmitter) (out : Progress → List ℕ) → ((e : Event) → Tracks transmitter out (after_event e))
    → (o : Transmitter) (es : List Event) (p : Progress) → SinceAt transmitter out o p
    → SinceAt transmitter out o (disk_due (punch_due (reader_due (printer_due (tick_due (after_events es p))))))
after_all transmitter out tracks o es p since =
    let events = after_events es p in
    let ticked = tick_due events in
    let printed = printer_due ticked in
    let read = reader_due printed in
    let punched = punch_due read in
    after_due transmitter out disk_done (tracks DiskDone) o punched (is_due punched.bus.turn punched.bus.io_page.disk.operation)
    (after_due transmitter out punch_done (tracks PunchDone) o read (is_due read.bus.turn read.bus.io_page.paper_tape.punch.operation)
    (after_due transmitter out reader_done (tracks ReaderDone) o printed (is_due printed.bus.turn printed.bus.io_page.paper_tape.reader.operation)
    (after_due transmitter out printer_done (tracks PrinterDone) o ticked (is_due ticked.bus.turn ticked.bus.io_page.console.printer.operation)
    (after_due transmitter out clock_ticked (tracks Tick) o events (is_tick events.bus.turn events.bus.io_page.delays.clock)
    (after_each transmitter out tracks o es p since)))))

came : (o now : Transmitter) (out : List ℕ) → Since o now out → out ≡ came_out o now
came o now out (Still still none) = none ∙ sym (ap (λ p. came_out o p) still ∙ unmoved (is_under_way o.operation)) where
  unmoved : (busy : Bool) → (if busy && not busy then o.byte ∷ [] else []) ≡ []
  unmoved true = refl
  unmoved false = refl
came o now out (Out busy idle byte) = byte ∙ sym (rw (busy, idle) refl)

printer_tracks : (e : Event) → Tracks (λ b. b.console.printer) (λ p. p.printed) (after_event e)
printer_tracks PrinterDone p = Completes refl refl
printer_tracks (Key key) p = Leaves refl refl
printer_tracks e p =
    let left = event_leaves e p in
    Leaves (ap (λ d. d.printer) (left.io_page.console (λ is. cc is))) (left.printed (λ is. cc is))

punch_tracks : (e : Event) → Tracks (λ b. b.paper_tape.punch) (λ p. p.punched) (after_event e)
punch_tracks PunchDone p = Completes refl refl
punch_tracks ReaderDone p = Leaves refl refl
punch_tracks e p =
    let left = event_leaves e p in
    Leaves (ap (λ d. d.punch) (left.io_page.paper_tape (λ is. cc is))) (left.punched (λ is. cc is))

pub bytes_are_printed : BytesArePrintedAsOperationsEnd
unfolding after_beginning before_disk
bytes_are_printed t events w =
    came w.io_page.console.printer _ _
    (after_all (λ b. b.console.printer) (λ p. p.printed) printer_tracks w.io_page.console.printer events (at_start (in_turn t w)) (Still refl refl))

pub bytes_are_punched : BytesArePunchedAsOperationsEnd
unfolding after_beginning before_disk
bytes_are_punched t events w =
    came w.io_page.paper_tape.punch _ _
    (after_all (λ b. b.paper_tape.punch) (λ p. p.punched) punch_tracks w.io_page.paper_tape.punch events (at_start (in_turn t w)) (Still refl refl))
