-- What comes out of the printer and the punch.
use Rattle.std.proofs.Common.{◌≡◌, ◌∙◌, ◌++◌, ℕ, Bool, true, false, List, [], ◌∷◌, Some, None, option_to_list, refl, ap, sym, subst, if◌then◌else◌}
use Rattle.pdp_device.specs.Operation.{is_due, is_under_way}
use Rattle.pdp_console.specs.Kl.{kl_printed}
use Rattle.pdp_tape.specs.Pc11.{pc11_punched}
use Rattle.pdp_io_page.specs.Handbook.Delays.{is_tick}
use Rattle.pdp_unibus.specs.Handbook.Beginning.{Progress, after_beginning, after_event, after_events, at_start, before_disk, clock_ticked, disk_done, disk_due, in_turn, printer_done, printer_due, punch_done, punch_due, reader_done, reader_due, tick_due, where_due}
use Rattle.pdp_unibus.specs.Handbook.BusWorld.{BusWorld}
use Rattle.pdp_unibus.specs.declared.event.Event.{Event}
use Rattle.pdp_unibus.specs.declared.event.Event.TheVariants as event
use Rattle.pdp_operand.specs.Phases.World.{World}
use Rattle.pdp_cpu.specs.Handbook.Turn.{printed_in, punched_in}
use Rattle.pdp_made.specs.Cells.{Buffer, Printer, Punch}
use Rattle.pdp_made_run.specs.BeginningRows.{BeginAlike, BusesAlike, EventsAlike, before_printer, before_punch, before_reader}
use Rattle.pdp_made_run.specs.Origins.{event_data, with_event_data}
use Rattle.pdp_made_run.specs.RunRows.{PrintsTell, PunchesTell, RunsAlike, before_turn}
use Rattle.pdp_made_run.proofs.BeginningSteps.{completed_byte}
use Rattle.pdp_made_run.proofs.Runs.{runs}

-- TPB, and PPB
abbrev tpb : Progress → ℕ
tpb p = p.bus.io_page.console.printer.byte

abbrev ppb : Progress → ℕ
ppb p = p.bus.io_page.paper_tape.punch.byte

-- no step changes them
tpb_event : (e : Event) (p : Progress) → tpb (after_event e p) ≡ tpb p
tpb_event (event.Key key) p = refl
tpb_event event.Tick p = refl
tpb_event event.PrinterDone p = completed_byte p.bus.io_page.console.printer
tpb_event event.ReaderDone p = refl
tpb_event event.PunchDone p = refl
tpb_event event.DiskDone p = refl
tpb_event (event.Switches word) p = refl
tpb_event event.Continue p = refl

ppb_event : (e : Event) (p : Progress) → ppb (after_event e p) ≡ ppb p
ppb_event (event.Key key) p = refl
ppb_event event.Tick p = refl
ppb_event event.PrinterDone p = refl
ppb_event event.ReaderDone p = refl
ppb_event event.PunchDone p = completed_byte p.bus.io_page.paper_tape.punch
ppb_event event.DiskDone p = refl
ppb_event (event.Switches word) p = refl
ppb_event event.Continue p = refl

-- a part of it all after a step that is due, or isn't
module _ {A : Type 0} (part : Progress → A) (step : Progress → Progress) (p : Progress) (same : part (step p) ≡ part p) where
  kept_if_due : (due : Bool) → part (where_due due step p) ≡ part p
  kept_if_due true = same
  kept_if_due false = refl

-- a part that the same step makes the same
module _ {A : Type 0} (part : Progress → A) (step : Progress → Progress) (p q : Progress) (before : part q ≡ part p) (after : part (step q) ≡ part (step p)) where
  same_if_due : (due : Bool) → part (where_due due step q) ≡ part (where_due due step p)
  same_if_due true = after
  same_if_due false = before

-- the byte that comes out
module _ (p q : Progress) (alike : BusesAlike p.bus q.bus) where
  out_of_printer : tpb q ≡ tpb p → kl_printed q.bus.io_page.console ≡ kl_printed p.bus.io_page.console
  out_of_printer same =
      ap (λ (busy : Bool). if busy then Some (tpb q) else None) (ap (λ (z : BusWorld). is_under_way z.io_page.console.printer.operation) alike.same_way)
      ∙ ap (λ byte. if is_under_way p.bus.io_page.console.printer.operation then Some byte else None) same

  out_of_punch : ppb q ≡ ppb p → pc11_punched q.bus.io_page.paper_tape ≡ pc11_punched p.bus.io_page.paper_tape
  out_of_punch same =
      ap (λ (busy : Bool). if busy then Some (ppb q) else None) (ap (λ (z : BusWorld). is_under_way z.io_page.paper_tape.punch.operation) alike.same_way)
      ∙ ap (λ byte. if is_under_way p.bus.io_page.paper_tape.punch.operation then Some byte else None) same

  printed_done : tpb q ≡ tpb p → q.printed ≡ p.printed → (printer_done q).printed ≡ (printer_done p).printed
  printed_done same text = ap (λ xs. xs ++ option_to_list (kl_printed q.bus.io_page.console)) text ∙ ap (λ byte. p.printed ++ option_to_list byte) (out_of_printer same)

  punched_done : ppb q ≡ ppb p → q.punched ≡ p.punched → (punch_done q).punched ≡ (punch_done p).punched
  punched_done same text = ap (λ xs. xs ++ option_to_list (pc11_punched q.bus.io_page.paper_tape)) text ∙ ap (λ byte. p.punched ++ option_to_list byte) (out_of_punch same)

  -- an event
  event_prints : (e : Event) (value : ℕ) → tpb q ≡ tpb p → q.printed ≡ p.printed → (after_event (with_event_data value e) q).printed ≡ (after_event e p).printed
  event_prints (event.Key key) value same text = text
  event_prints event.Tick value same text = text
  event_prints event.PrinterDone value same text = printed_done same text
  event_prints event.ReaderDone value same text = text
  event_prints event.PunchDone value same text = text
  event_prints event.DiskDone value same text = text
  event_prints (event.Switches word) value same text = text
  event_prints event.Continue value same text = text

  event_punches : (e : Event) (value : ℕ) → ppb q ≡ ppb p → q.punched ≡ p.punched → (after_event (with_event_data value e) q).punched ≡ (after_event e p).punched
  event_punches (event.Key key) value same text = text
  event_punches event.Tick value same text = text
  event_punches event.PrinterDone value same text = text
  event_punches event.ReaderDone value same text = text
  event_punches event.PunchDone value same text = punched_done same text
  event_punches event.DiskDone value same text = text
  event_punches (event.Switches word) value same text = text
  event_punches event.Continue value same text = text

-- a byte and a text are the same in both
abbrev SameText : (Progress → ℕ) → (Progress → List ℕ) → Progress → Progress → Type 0
SameText byte text p q = (byte q ≡ byte p) × (text q ≡ text p)

events_print : (es fs : List Event) (p q : Progress) → EventsAlike es fs p q → SameText tpb (λ z. z.printed) p q
    → SameText tpb (λ z. z.printed) (after_events es p) (after_events fs q)
unfolding EventsAlike
events_print [] [] p q alike same = same
events_print [] (f ∷ fs) p q alike same = absurd alike
events_print (e ∷ es) [] p q alike same = absurd alike
events_print (e ∷ es) (f ∷ fs) p q alike same =
    events_print es fs (after_event e p) (after_event f q) alike.2 (
      tpb_event f q ∙ same.0 ∙ sym (tpb_event e p),
      subst (λ g. (after_event g q).printed ≡ (after_event e p).printed) (sym alike.1) (event_prints p q alike.0 e (event_data f) same.0 same.1),
    )

events_punch : (es fs : List Event) (p q : Progress) → EventsAlike es fs p q → SameText ppb (λ z. z.punched) p q
    → SameText ppb (λ z. z.punched) (after_events es p) (after_events fs q)
unfolding EventsAlike
events_punch [] [] p q alike same = same
events_punch [] (f ∷ fs) p q alike same = absurd alike
events_punch (e ∷ es) [] p q alike same = absurd alike
events_punch (e ∷ es) (f ∷ fs) p q alike same =
    events_punch es fs (after_event e p) (after_event f q) alike.2 (
      ppb_event f q ∙ same.0 ∙ sym (ppb_event e p),
      subst (λ g. (after_event g q).punched ≡ (after_event e p).punched) (sym alike.1) (event_punches p q alike.0 e (event_data f) same.0 same.1),
    )

-- what a tick, the reader, the punch and the disk leave
tick_leaves : {A : Type 0} (part : Progress → A) (p : Progress) → part (clock_ticked p) ≡ part p → part (tick_due p) ≡ part p
tick_leaves part p same = kept_if_due part clock_ticked p same (is_tick p.bus.turn p.bus.io_page.delays.clock)

printer_leaves : {A : Type 0} (part : Progress → A) (p : Progress) → part (printer_done p) ≡ part p → part (printer_due p) ≡ part p
printer_leaves part p same = kept_if_due part printer_done p same (is_due p.bus.turn p.bus.io_page.console.printer.operation)

reader_leaves : {A : Type 0} (part : Progress → A) (p : Progress) → part (reader_done p) ≡ part p → part (reader_due p) ≡ part p
reader_leaves part p same = kept_if_due part reader_done p same (is_due p.bus.turn p.bus.io_page.paper_tape.reader.operation)

punch_leaves : {A : Type 0} (part : Progress → A) (p : Progress) → part (punch_done p) ≡ part p → part (punch_due p) ≡ part p
punch_leaves part p same = kept_if_due part punch_done p same (is_due p.bus.turn p.bus.io_page.paper_tape.punch.operation)

disk_leaves : {A : Type 0} (part : Progress → A) (p : Progress) → part (disk_done p) ≡ part p → part (disk_due p) ≡ part p
disk_leaves part p same = kept_if_due part disk_done p same (is_due p.bus.turn p.bus.io_page.disk.operation)

-- the printer and the punch, if they are due
due_prints : (p q : Progress) → BusesAlike p.bus q.bus → SameText tpb (λ z. z.printed) p q → (printer_due q).printed ≡ (printer_due p).printed
due_prints p q alike same =
    subst (λ due. (where_due due printer_done q).printed ≡ (printer_due p).printed) (sym (ap (λ (z : BusWorld). is_due z.turn z.io_page.console.printer.operation) alike.same_way))
    (same_if_due (λ z. z.printed) printer_done p q same.1 (printed_done p q alike same.0 same.1) (is_due p.bus.turn p.bus.io_page.console.printer.operation))

due_punches : (p q : Progress) → BusesAlike p.bus q.bus → SameText ppb (λ z. z.punched) p q → (punch_due q).punched ≡ (punch_due p).punched
due_punches p q alike same =
    subst (λ due. (where_due due punch_done q).punched ≡ (punch_due p).punched) (sym (ap (λ (z : BusWorld). is_due z.turn z.io_page.paper_tape.punch.operation) alike.same_way))
    (same_if_due (λ z. z.punched) punch_done p q same.1 (punched_done p q alike same.0 same.1) (is_due p.bus.turn p.bus.io_page.paper_tape.punch.operation))

-- and all after the printer, before the punch, and after it
after_printing : (z : Progress) → (disk_due (punch_due (reader_due (printer_due (tick_due z))))).printed ≡ (printer_due (tick_due z)).printed
after_printing z = disk_leaves (λ y. y.printed) (punch_due (reader_due (printer_due (tick_due z)))) refl ∙ punch_leaves (λ y. y.printed) (reader_due (printer_due (tick_due z))) refl
    ∙ reader_leaves (λ y. y.printed) (printer_due (tick_due z)) refl

before_punching : {A : Type 0} (part : Progress → A) (z : Progress) → part (clock_ticked z) ≡ part z → part (printer_done (tick_due z)) ≡ part (tick_due z)
    → part (reader_done (printer_due (tick_due z))) ≡ part (printer_due (tick_due z)) → part (reader_due (printer_due (tick_due z))) ≡ part z
before_punching part z first second third = reader_leaves part (printer_due (tick_due z)) third ∙ printer_leaves part (tick_due z) second ∙ tick_leaves part z first

after_punching : (z : Progress) → (disk_due (punch_due (reader_due (printer_due (tick_due z))))).punched ≡ (punch_due (reader_due (printer_due (tick_due z)))).punched
after_punching z = disk_leaves (λ y. y.punched) (punch_due (reader_due (printer_due (tick_due z)))) refl

module _ (t : ℕ) (es fs : List Event) (w v : World) (alike : BeginAlike t es fs w v) where
  abbrev p : Progress
  p = after_events es (at_start (in_turn t w.bus))

  abbrev q : Progress
  q = after_events fs (at_start (in_turn t v.bus))

  prints : v.bus.io_page.console.printer.byte ≡ w.bus.io_page.console.printer.byte → printed_in t fs v ≡ printed_in t es w
  unfolding printed_in after_beginning before_disk before_reader before_printer before_punch
  prints same =
      let events : SameText tpb (λ z. z.printed) p q = events_print es fs (at_start (in_turn t w.bus)) (at_start (in_turn t v.bus)) alike.events (same, refl) in
      let ticked : SameText tpb (λ z. z.printed) (tick_due p) (tick_due q) = (
        tick_leaves tpb q refl ∙ events.0 ∙ sym (tick_leaves tpb p refl),
        tick_leaves (λ z. z.printed) q refl ∙ events.1 ∙ sym (tick_leaves (λ z. z.printed) p refl),
      ) in
      after_printing q ∙ due_prints (tick_due p) (tick_due q) alike.printer ticked ∙ sym (after_printing p)

  punches : v.bus.io_page.paper_tape.punch.byte ≡ w.bus.io_page.paper_tape.punch.byte → punched_in t fs v ≡ punched_in t es w
  unfolding punched_in after_beginning before_disk before_reader before_printer before_punch
  punches same =
      let events : SameText ppb (λ z. z.punched) p q = events_punch es fs (at_start (in_turn t w.bus)) (at_start (in_turn t v.bus)) alike.events (same, refl) in
      let before : SameText ppb (λ z. z.punched) (reader_due (printer_due (tick_due p))) (reader_due (printer_due (tick_due q))) = (
        before_punching ppb q refl refl refl ∙ events.0 ∙ sym (before_punching ppb p refl refl refl),
        before_punching (λ z. z.punched) q refl refl refl ∙ events.1 ∙ sym (before_punching (λ z. z.punched) p refl refl refl),
      ) in
      after_punching q ∙ due_punches (reader_due (printer_due (tick_due p))) (reader_due (printer_due (tick_due q))) alike.punch before ∙ sym (after_punching p)

pub prints_tell : PrintsTell
unfolding RunsAlike
prints_tell n given other w v way all =
    prints n (given n) (other n) (before_turn given n w) (before_turn other n v) way.1.begin (runs n given other w v way.0 (Buffer Printer) all)

pub punches_tell : PunchesTell
unfolding RunsAlike
punches_tell n given other w v way all =
    punches n (given n) (other n) (before_turn given n w) (before_turn other n v) way.1.begin (runs n given other w v way.0 (Buffer Punch) all)
