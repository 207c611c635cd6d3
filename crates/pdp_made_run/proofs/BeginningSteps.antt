-- The beginning of a turn, step by step.
use Rattle.std.proofs.Common.{◌≡◌, ◌∙◌, ℕ, suc, Bool, true, false, List, [], ◌∷◌, Option, Some, None, flat_map, refl, ap, sym, subst, if◌then◌else◌}
use Rattle.pdp_device.specs.Operation.{is_due, is_under_way}
use Rattle.pdp_device.specs.Transmitter.{transmitter_completed}
use Rattle.pdp_device.specs.declared.transmitter.Transmitter.{Transmitter}
use Rattle.pdp_tape.specs.Reader.{read_over, takes_byte}
use Rattle.pdp_tape.specs.declared.reader.Reader.{Reader as PaperReader}
use Rattle.pdp_store.specs.CycleLogs.{KeptCycles}
use Rattle.pdp_io_page.specs.Handbook.Delays.{is_tick}
use Rattle.pdp_unibus.specs.Handbook.Beginning.{Progress, after_beginning, after_event, after_events, at_start, before_disk, clock_ticked, disk_done, disk_due, in_turn, printer_done, printer_due, punch_done, punch_due, reader_done, reader_due, tick_due, where_due}
use Rattle.pdp_unibus.specs.Handbook.BusWorld.{BusWorld, disk_world_of}
use Rattle.pdp_unibus.specs.Handbook.Tape.{next_byte}
use Rattle.pdp_unibus.specs.declared.event.Event.{Event}
use Rattle.pdp_unibus.specs.declared.event.Event.TheVariants as event
use Rattle.pdp_operand.specs.Phases.World.{World}
use Rattle.pdp_operand.specs.declared.processor.Processor.{Processor}
use Rattle.pdp_cpu.specs.Handbook.Turn.{beginning, processor_after, processor_after_events}
use Rattle.pdp_made.specs.Cells.{BusData, Data, DataCell, CoreByte, DriveByte, RegisterByte, CodeNow, Buffer, Keyboard, Printer, Reader, Punch, Switches, TapeByte, ValueByte, SourceByte, ResultByte, StatusByte, CodeDue, CodeSaved, bus_with, data_on}
use Rattle.pdp_made_run.specs.BeginningRows.{BeginAlike, BusesAlike, EventsAlike, before_printer, before_reader, byte_taken, made_by_key, made_by_disk, made_by_disk_due, made_by_event, made_by_events, made_by_reader, made_by_reader_due, made_if, made_in_beginning, made_by_switches}
use Rattle.pdp_made_run.specs.DiskRows.{made_by_completion}
use Rattle.pdp_made_run.specs.Origins.{EachOrigin, Events, Held, OfEvent, Origin, SameOrigin, back_through, data_numbered, event_data, with_event_data, still_held}
use Rattle.pdp_made_run.specs.TurnRows.{data_in}
use Rattle.pdp_made_run.proofs.DiskSteps.{completion_tells}
use Rattle.pdp_made_run.proofs.Lists.{OriginsTell, both_steps, each_cell}

-- A completion of the printer or the punch leaves the byte
completed_if : (busy : Bool) (o x : Transmitter) → x.byte ≡ o.byte → (if busy then x else o).byte ≡ o.byte
completed_if true o x same = same
completed_if false o x same = refl

pub completed_byte : (o : Transmitter) → (transmitter_completed o).byte ≡ o.byte
completed_byte o = completed_if (is_under_way o.operation) o _ refl

printer_kept : (p : Progress) → data_on (printer_done p).bus ≡ data_on p.bus
printer_kept p = λ i. record (data_on p.bus) { printer = completed_byte p.bus.io_page.console.printer i }

punch_kept : (p : Progress) → data_on (punch_done p).bus ≡ data_on p.bus
punch_kept p = λ i. record (data_on p.bus) { punch = completed_byte p.bus.io_page.paper_tape.punch i }

due_kept : (due : Bool) (step : Progress → Progress) (p : Progress) → data_on (step p).bus ≡ data_on p.bus → data_on (where_due due step p).bus ≡ data_on p.bus
due_kept true step p same = same
due_kept false step p same = refl

-- a tick, and the printer's completion, if they are due
ticked_kept : (p : Progress) → data_on (printer_due (tick_due p)).bus ≡ data_on p.bus
ticked_kept p =
    due_kept (is_due (tick_due p).bus.turn (tick_due p).bus.io_page.console.printer.operation) printer_done (tick_due p) (printer_kept (tick_due p))
    ∙ due_kept (is_tick p.bus.turn p.bus.io_page.delays.clock) clock_ticked p refl

punched_kept : (p : Progress) → data_on (punch_due p).bus ≡ data_on p.bus
punched_kept p = due_kept (is_due p.bus.turn p.bus.io_page.paper_tape.punch.operation) punch_done p (punch_kept p)

-- events change no word of the processor
word_kept : (e : Event) (p : Processor) → (processor_after e p).words ≡ p.words
word_kept (event.Key key) p = refl
word_kept event.Tick p = refl
word_kept event.PrinterDone p = refl
word_kept event.ReaderDone p = refl
word_kept event.PunchDone p = refl
word_kept event.DiskDone p = refl
word_kept (event.Switches word) p = refl
word_kept event.Continue p = refl

pub words_kept : (es : List Event) (p : Processor) → (processor_after_events es p).words ≡ p.words
words_kept [] p = refl
words_kept (e ∷ es) p = words_kept es (processor_after e p) ∙ word_kept e p

-- the buses that a completion of the reader and of the disk leave
abbrev read_bus : BusWorld → BusWorld
read_bus b = (reader_done (at_start b)).bus

abbrev moved_bus : BusWorld → BusWorld
moved_bus b = (disk_done (at_start b)).bus

module _ (other given : Events) (d e : Data) where
  -- the data of two machines with these registers
  abbrev pub on_there : BusData → Data
  on_there x = record d { bus = x }

  abbrev pub on_here : BusData → Data
  on_here y = record e { bus = y }

  abbrev pub BusTells : (DataCell → List Origin) → BusData → BusData → BusData → BusData → Type 0
  BusTells made x y v w = OriginsTell other given made (on_there x) (on_here y) (on_there v) (on_here w)

  -- a step after which nothing else is made
  kept_tells : (made : DataCell → List Origin) (x y v w u t : BusData) → u ≡ v → t ≡ w → BusTells made x y v w → BusTells made x y u t
  kept_tells made x y v w u t there here tells =
      subst (λ z. BusTells made x y z t) (sym there) (subst (λ z. BusTells made x y v z) (sym here) tells)

  held_tells : (x y u t : BusData) → u ≡ x → t ≡ y → BusTells still_held x y u t
  held_tells x y u t there here = kept_tells still_held x y x y u t there here (λ c all. all.0)

  -- a key, and the switches
  key_tells : (own : Origin) (key value : ℕ) (x y : BusData) → ((u t : Data) → SameOrigin other given u t own → value ≡ key)
      → BusTells (made_by_key own) x y (record x { keyboard = value }) (record y { keyboard = key })
  key_tells own key value x y same (Buffer Keyboard) all = same (on_there x) (on_here y) all.0
  key_tells own key value x y same (Buffer Printer) all = all.0
  key_tells own key value x y same (Buffer Reader) all = all.0
  key_tells own key value x y same (Buffer Punch) all = all.0
  key_tells own key value x y same (Buffer Switches) all = all.0
  key_tells own key value x y same (CoreByte k half) all = all.0
  key_tells own key value x y same (DriveByte n k half) all = all.0
  key_tells own key value x y same (RegisterByte n half) all = all.0
  key_tells own key value x y same (CodeNow code) all = all.0
  key_tells own key value x y same (TapeByte k) all = all.0
  key_tells own key value x y same (ValueByte half) all = all.0
  key_tells own key value x y same (SourceByte half) all = all.0
  key_tells own key value x y same (ResultByte half) all = all.0
  key_tells own key value x y same (StatusByte half) all = all.0
  key_tells own key value x y same (CodeDue code) all = all.0
  key_tells own key value x y same (CodeSaved code) all = all.0

  switches_tell : (own : Origin) (word value : ℕ) (x y : BusData) → ((u t : Data) → SameOrigin other given u t own → value ≡ word)
      → BusTells (made_by_switches own) x y (record x { switches = value }) (record y { switches = word })
  switches_tell own word value x y same (Buffer Switches) all = same (on_there x) (on_here y) all.0
  switches_tell own word value x y same (Buffer Keyboard) all = all.0
  switches_tell own word value x y same (Buffer Printer) all = all.0
  switches_tell own word value x y same (Buffer Reader) all = all.0
  switches_tell own word value x y same (Buffer Punch) all = all.0
  switches_tell own word value x y same (CoreByte k half) all = all.0
  switches_tell own word value x y same (DriveByte n k half) all = all.0
  switches_tell own word value x y same (RegisterByte n half) all = all.0
  switches_tell own word value x y same (CodeNow code) all = all.0
  switches_tell own word value x y same (TapeByte k) all = all.0
  switches_tell own word value x y same (ValueByte half) all = all.0
  switches_tell own word value x y same (SourceByte half) all = all.0
  switches_tell own word value x y same (ResultByte half) all = all.0
  switches_tell own word value x y same (StatusByte half) all = all.0
  switches_tell own word value x y same (CodeDue code) all = all.0
  switches_tell own word value x y same (CodeSaved code) all = all.0

  -- the reader: the tape's next byte, or none
  byte_if : (busy : Bool) (k : ℕ) (next there : Option ℕ) (r s : PaperReader) (x y : BusData)
      → (SameOrigin other given (on_there x) (on_here y) (Held (TapeByte k)) → there ≡ next)
      → (SameOrigin other given (on_there x) (on_here y) (Held (Buffer Reader)) → s.byte ≡ r.byte)
      → EachOrigin other given (on_there x) (on_here y) (if busy then byte_taken k next else still_held (Buffer Reader))
      → (if busy then read_over there s else s).byte ≡ (if busy then read_over next r else r).byte
  byte_if true k (Some byte) there r s x y taken stays all = ap (λ o. (read_over o s).byte) (taken all.0)
  byte_if true k None there r s x y taken stays all = ap (λ o. (read_over o s).byte) (taken all.0) ∙ stays all.1.0
  byte_if false k next there r s x y taken stays all = stays all.0

  reader_tells : (b : BusWorld) (x : BusData) (log : KeptCycles) → BusTells (made_by_reader b) x (data_on b) (data_on (read_bus (bus_with x log b))) (data_on (read_bus b))
  reader_tells b x log (Buffer Reader) all =
      byte_if (takes_byte b.io_page.paper_tape.reader) b.bytes_read (next_byte b.tape b.bytes_read) (next_byte x.tape b.bytes_read)
      b.io_page.paper_tape.reader (record b.io_page.paper_tape.reader { byte = x.reader }) x (data_on b) (λ same. same) (λ same. same) all
  reader_tells b x log (Buffer Keyboard) all = all.0
  reader_tells b x log (Buffer Printer) all = all.0
  reader_tells b x log (Buffer Punch) all = all.0
  reader_tells b x log (Buffer Switches) all = all.0
  reader_tells b x log (CoreByte k half) all = all.0
  reader_tells b x log (DriveByte n k half) all = all.0
  reader_tells b x log (RegisterByte n half) all = all.0
  reader_tells b x log (CodeNow code) all = all.0
  reader_tells b x log (TapeByte k) all = all.0
  reader_tells b x log (ValueByte half) all = all.0
  reader_tells b x log (SourceByte half) all = all.0
  reader_tells b x log (ResultByte half) all = all.0
  reader_tells b x log (StatusByte half) all = all.0
  reader_tells b x log (CodeDue code) all = all.0
  reader_tells b x log (CodeSaved code) all = all.0

  -- the disk
  disk_tells : (b q : BusWorld) → BusesAlike b q → BusTells (made_by_disk b) (data_on q) (data_on b) (data_on (moved_bus (bus_with (data_on q) q.log b))) (data_on (moved_bus b))
  disk_tells b q alike c all =
      completion_tells (on_there (data_on q)) (on_here (data_on b)) b.io_page.disk b.stamps b.turn alike.core_size alike.drives_count alike.drive_sizes c
      (each_cell other given (on_there (data_on q)) (on_here (data_on b)) (made_by_completion (disk_world_of b) c) all)

  -- an operation that is due, or isn't
  if_due : (due : Bool) (made : DataCell → List Origin) (step : Progress → Progress) (p q : Progress) (x y : BusData) → data_on q.bus ≡ x → data_on p.bus ≡ y
      → BusTells made x y (data_on (step q).bus) (data_on (step p).bus)
      → BusTells (made_if due made) x y (data_on (where_due due step q).bus) (data_on (where_due due step p).bus)
  if_due true made step p q x y there here tells = tells
  if_due false made step p q x y there here tells = held_tells x y (data_on q.bus) (data_on p.bus) there here

  read_tells : (p q : Progress) → BusesAlike p.bus q.bus → BusTells (made_by_reader p.bus) (data_on q.bus) (data_on p.bus) (data_on (reader_done q).bus) (data_on (reader_done p).bus)
  read_tells p q alike =
      subst (λ z. BusTells (made_by_reader p.bus) (data_on q.bus) (data_on p.bus) (data_on (read_bus z)) (data_on (read_bus p.bus))) (sym alike.same_way) (reader_tells p.bus (data_on q.bus) q.bus.log)

  moved_tell : (p q : Progress) → BusesAlike p.bus q.bus → BusTells (made_by_disk p.bus) (data_on q.bus) (data_on p.bus) (data_on (disk_done q).bus) (data_on (disk_done p).bus)
  moved_tell p q alike =
      subst (λ z. BusTells (made_by_disk p.bus) (data_on q.bus) (data_on p.bus) (data_on (moved_bus z)) (data_on (moved_bus p.bus))) (sym alike.same_way) (disk_tells p.bus q.bus alike)

  reader_due_tells : (p q : Progress) → BusesAlike p.bus q.bus → BusTells (made_by_reader_due p.bus) (data_on q.bus) (data_on p.bus) (data_on (reader_due q).bus) (data_on (reader_due p).bus)
  reader_due_tells p q alike =
      subst (λ due. BusTells (made_by_reader_due p.bus) (data_on q.bus) (data_on p.bus) (data_on (where_due due reader_done q).bus) (data_on (reader_due p).bus))
      (sym (ap (λ (z : BusWorld). is_due z.turn z.io_page.paper_tape.reader.operation) alike.same_way))
      (if_due (is_due p.bus.turn p.bus.io_page.paper_tape.reader.operation) (made_by_reader p.bus) reader_done p q (data_on q.bus) (data_on p.bus) refl refl (read_tells p q alike))

  disk_due_tells : (p q : Progress) → BusesAlike p.bus q.bus → BusTells (made_by_disk_due p.bus) (data_on q.bus) (data_on p.bus) (data_on (disk_due q).bus) (data_on (disk_due p).bus)
  disk_due_tells p q alike =
      subst (λ due. BusTells (made_by_disk_due p.bus) (data_on q.bus) (data_on p.bus) (data_on (where_due due disk_done q).bus) (data_on (disk_due p).bus))
      (sym (ap (λ (z : BusWorld). is_due z.turn z.io_page.disk.operation) alike.same_way))
      (if_due (is_due p.bus.turn p.bus.io_page.disk.operation) (made_by_disk p.bus) disk_done p q (data_on q.bus) (data_on p.bus) refl refl (moved_tell p q alike))

  -- an event
  event_tells : (ev : Event) (value : ℕ) (own : Origin) (p q : Progress) → BusesAlike p.bus q.bus → ((u t : Data) → SameOrigin other given u t own → value ≡ event_data ev)
      → BusTells (made_by_event ev own p.bus) (data_on q.bus) (data_on p.bus) (data_on (after_event (with_event_data value ev) q).bus) (data_on (after_event ev p).bus)
  event_tells (event.Key key) value own p q alike same = key_tells own key value (data_on q.bus) (data_on p.bus) same
  event_tells (event.Switches word) value own p q alike same = switches_tell own word value (data_on q.bus) (data_on p.bus) same
  event_tells event.Tick value own p q alike same = λ c all. all.0
  event_tells event.Continue value own p q alike same = λ c all. all.0
  event_tells event.PrinterDone value own p q alike same = held_tells _ _ _ _ (printer_kept q) (printer_kept p)
  event_tells event.PunchDone value own p q alike same = held_tells _ _ _ _ (punch_kept q) (punch_kept p)
  event_tells event.ReaderDone value own p q alike same = read_tells p q alike
  event_tells event.DiskDone value own p q alike same = moved_tell p q alike

  -- events
  events_tell : (es fs : List Event) (own : ℕ → Origin) (p q : Progress) → EventsAlike es fs p q
      → ((n : ℕ) (u t : Data) → SameOrigin other given u t (own n) → data_numbered n fs ≡ data_numbered n es)
      → BusTells (made_by_events es own p) (data_on q.bus) (data_on p.bus) (data_on (after_events fs q).bus) (data_on (after_events es p).bus)
  unfolding made_by_events EventsAlike
  events_tell [] [] own p q alike same = λ c all. all.0
  events_tell [] (f ∷ fs) own p q alike same = absurd alike
  events_tell (ev ∷ es) [] own p q alike same = absurd alike
  events_tell (ev ∷ es) (f ∷ fs) own p q alike same =
      both_steps other given (made_by_event ev (own 0) p.bus) (made_by_events es (λ n. own (suc n)) (after_event ev p)) (on_there (data_on q.bus)) (on_here (data_on p.bus))
      (on_there (data_on (after_event f q).bus)) (on_here (data_on (after_event ev p).bus)) (on_there (data_on (after_events fs (after_event f q)).bus)) (on_here (data_on (after_events es (after_event ev p)).bus))
      (subst (λ g. BusTells (made_by_event ev (own 0) p.bus) (data_on q.bus) (data_on p.bus) (data_on (after_event g q).bus) (data_on (after_event ev p).bus)) (sym alike.1)
      (event_tells ev (event_data f) (own 0) p q alike.0 (λ u t is. same 0 u t is)))
      (events_tell es fs (λ n. own (suc n)) (after_event ev p) (after_event f q) alike.2 (λ n u t is. same (suc n) u t is))

-- the beginning
module _ (other given : Events) (t : ℕ) (w v : World) (alike : BeginAlike t (given t) (other t) w v) where
  abbrev d : Data
  d = data_in v

  abbrev e : Data
  e = data_in w

  abbrev there_with : Progress → Data
  there_with p = record d { bus = data_on p.bus }

  abbrev here_with : Progress → Data
  here_with p = record e { bus = data_on p.bus }

  abbrev begun : Progress
  begun = at_start (in_turn t w.bus)

  abbrev begun_there : Progress
  begun_there = at_start (in_turn t v.bus)

  to_reader : BusTells other given d e (made_by_events (given t) (OfEvent t) begun) (data_on v.bus) (data_on w.bus) (data_on (before_reader t (other t) v.bus).bus) (data_on (before_reader t (given t) w.bus).bus)
  unfolding before_reader before_printer
  to_reader = kept_tells other given d e (made_by_events (given t) (OfEvent t) begun) (data_on v.bus) (data_on w.bus) (data_on (after_events (other t) begun_there).bus) (data_on (after_events (given t) begun).bus) _ _
      (ticked_kept (after_events (other t) begun_there)) (ticked_kept (after_events (given t) begun))
      (events_tell other given d e (given t) (other t) (OfEvent t) begun begun_there alike.events (λ n u s is. is))

  to_disk : BusTells other given d e (made_by_reader_due (before_reader t (given t) w.bus).bus) (data_on (before_reader t (other t) v.bus).bus) (data_on (before_reader t (given t) w.bus).bus)
      (data_on (before_disk t (other t) v.bus).bus) (data_on (before_disk t (given t) w.bus).bus)
  unfolding before_reader before_printer before_disk
  to_disk = kept_tells other given d e (made_by_reader_due (before_reader t (given t) w.bus).bus) (data_on (before_reader t (other t) v.bus).bus) (data_on (before_reader t (given t) w.bus).bus)
      (data_on (reader_due (before_reader t (other t) v.bus)).bus) (data_on (reader_due (before_reader t (given t) w.bus)).bus) _ _
      (punched_kept (reader_due (before_reader t (other t) v.bus))) (punched_kept (reader_due (before_reader t (given t) w.bus)))
      (reader_due_tells other given d e (before_reader t (given t) w.bus) (before_reader t (other t) v.bus) alike.reader)

  to_act : BusTells other given d e (made_by_disk_due (before_disk t (given t) w.bus).bus) (data_on (before_disk t (other t) v.bus).bus) (data_on (before_disk t (given t) w.bus).bus)
      (data_on (after_beginning t (other t) v.bus).bus) (data_on (after_beginning t (given t) w.bus).bus)
  unfolding after_beginning
  to_act = disk_due_tells other given d e (before_disk t (given t) w.bus) (before_disk t (other t) v.bus) alike.disk

  on_bus : BusTells other given d e (made_in_beginning t (given t) w.bus) (data_on v.bus) (data_on w.bus) (data_on (after_beginning t (other t) v.bus).bus) (data_on (after_beginning t (given t) w.bus).bus)
  unfolding made_in_beginning
  on_bus = both_steps other given (made_by_events (given t) (OfEvent t) begun)
      (λ c. flat_map (back_through (made_by_reader_due (before_reader t (given t) w.bus).bus)) (made_by_disk_due (before_disk t (given t) w.bus).bus c)) d e
      (there_with (before_reader t (other t) v.bus)) (here_with (before_reader t (given t) w.bus)) (there_with (after_beginning t (other t) v.bus)) (here_with (after_beginning t (given t) w.bus)) to_reader
      (both_steps other given (made_by_reader_due (before_reader t (given t) w.bus).bus) (made_by_disk_due (before_disk t (given t) w.bus).bus)
      (there_with (before_reader t (other t) v.bus)) (here_with (before_reader t (given t) w.bus)) (there_with (before_disk t (other t) v.bus)) (here_with (before_disk t (given t) w.bus))
      (there_with (after_beginning t (other t) v.bus)) (here_with (after_beginning t (given t) w.bus)) to_disk to_act)

  pub beginning_tells : OriginsTell other given (made_in_beginning t (given t) w.bus) d e (data_in (beginning t (other t) v)) (data_in (beginning t (given t) w))
  beginning_tells =
      subst (λ ws. OriginsTell other given (made_in_beginning t (given t) w.bus) d e (record (data_in (beginning t (other t) v)) { words = ws }) (data_in (beginning t (given t) w))) (sym (words_kept (other t) v.processor))
      (subst (λ ws. OriginsTell other given (made_in_beginning t (given t) w.bus) d e (record (data_in (beginning t (other t) v)) { words = v.processor.words }) (record (data_in (beginning t (given t) w)) { words = ws })) (sym (words_kept (given t) w.processor))
      on_bus)
