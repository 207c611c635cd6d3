-- A turn does the same whatever first touches and last stamps are kept, and its trace changes them.
use Rattle.std.proofs.Common.{◌≡◌, ℕ, List, Option, ◌++◌, sym, ap, ap₂, ◌∙◌}
use Rattle.pdp_store.specs.FirstTouches.{FirstTouches, first_touches_after, no_first_touches}
use Rattle.pdp_store.specs.Stamps.{stamps_after_trace}
use Rattle.pdp_store.specs.declared.Stamp.{Stamp}
use Rattle.pdp_store.proofs.FirstTouches.{no_first_touches_after}
use Rattle.pdp_unibus.proofs.AccessNotes.{AccessNotes, access_notes, notes_after, notes_after-append, notes_of, with_notes}
use Rattle.pdp_unibus.proofs.Carried.{begun_carried}
use Rattle.pdp_unibus.specs.Handbook.BusWorld.{BusWorld}
use Rattle.pdp_unibus.specs.Trace.{begun_touches}
use Rattle.pdp_unibus.specs.declared.event.Event.{Event}
use Rattle.pdp_operand.proofs.Carried.{carried_course}
use Rattle.pdp_operand.specs.Laws.Trace.{trace_of}
use Rattle.pdp_operand.specs.Phases.Course.{follow}
use Rattle.pdp_operand.specs.Phases.Phase.{inner_of, state_of}
use Rattle.pdp_operand.specs.Phases.World.{World, world}
use Rattle.pdp_operand.specs.declared.processor.Processor.{Processor}
use Rattle.pdp_cpu.specs.declared.due.Due.{Due}
use Rattle.pdp_cpu.specs.Laws.TurnLaws.{StampsDisturbNothing}
use Rattle.pdp_cpu.specs.Handbook.Due.{act_of, course_of, due_now, due_of}
use Rattle.pdp_cpu.specs.Handbook.MachineState.{MachineState, after_turn, without_first_touches}
use Rattle.pdp_cpu.specs.Handbook.MachineState.{world_with_first_touches}
use Rattle.pdp_cpu.specs.Handbook.Turn.{act_end, beginning, clear_latch, course_at, one_turn}
use Rattle.pdp_cpu.specs.Handbook.Turn.{printed_in, processor_after_events, punched_in, initial_state}
use Rattle.pdp_cpu.specs.Handbook.Turn.{turn_act, turn_trace}
use Rattle.pdp_cpu.specs.Handbook.TurnDisk.{disk_begun}
use Rattle.pdp_cpu.specs.Handbook.TurnTrap.{trap_of_due, turn_trap}
use Rattle.pdp_cpu.proofs.CarriedTraps.{trap_carried}

-- the same world with other notes of accesses
abbrev world_noting : World → AccessNotes → World
world_noting w notes = world w.processor (with_notes w.bus notes)

-- turn t in a world, and the same over other notes of accesses
record TurnNoted (t : ℕ) (events : List Event) (w : World) (notes : AccessNotes) : Type 0 where
  world_is : one_turn t events (world_noting w notes) ≡ world_noting (one_turn t events w) (notes_after (turn_trace t events w) notes)
  trace : turn_trace t events (world_noting w notes) ≡ turn_trace t events w
  act : turn_act t events (world_noting w notes) ≡ turn_act t events w
  trap : turn_trap t events (world_noting w notes) ≡ turn_trap t events w
  disk : disk_begun t events (world_noting w notes) ≡ disk_begun t events w
  printed : printed_in t events (world_noting w notes) ≡ printed_in t events w
  punched : punched_in t events (world_noting w notes) ≡ punched_in t events w

turn_noted : (t : ℕ) (events : List Event) (w : World) (notes : AccessNotes) → TurnNoted t events w notes
unfolding one_turn turn_trace turn_act turn_trap disk_begun printed_in punched_in
turn_noted t events w notes =
    let xs = begun_touches t events w.bus in
    let first = begun_carried t events w.bus notes in
    let v = beginning t events w in
    let begins : beginning t events (world_noting w notes) ≡ world_noting v (notes_after xs notes)
    = ap (λ q. world (processor_after_events events w.processor) q.bus) first.is in
    let course = carried_course (course_at (initial_state v)) (initial_state v) (notes_after xs notes) in
    let acts = trace_of (course_at (initial_state v)) (initial_state v) in
    record {
      world_is = ap act_end begins ∙ ap (λ s. s.world) course.is
          ∙ ap (world_noting (act_end v)) (sym (notes_after-append xs acts notes));
      trace = ap₂ ◌++◌ first.trace
          (ap (λ u. trace_of (course_at (initial_state u)) (initial_state u)) begins ∙ course.trace);
      act = ap (λ u. act_of (due_of (inner_of (initial_state u)))) begins;
      trap = ap (λ u. trap_of_due (due_of (inner_of (initial_state u))) (initial_state u)) begins
          ∙ trap_carried (due_of (inner_of (initial_state v))) (initial_state v) (notes_after xs notes);
      disk = ap (λ q. q.bus.io_page.disk) first.is;
      printed = ap (λ q. q.printed) first.is;
      punched = ap (λ q. q.punched) first.is;
    }

-- a turn changes its own notes by its trace
pub notes_next : (t : ℕ) (events : List Event) (w : World) → notes_of (one_turn t events w).bus ≡ notes_after (turn_trace t events w) (notes_of w.bus)
notes_next t events w = ap (λ u. notes_of u.bus) (turn_noted t events w (notes_of w.bus)).world_is

-- turn t in a world, and the same over other first touches
pub record TurnCarried (t : ℕ) (events : List Event) (w : World) (first_touches : FirstTouches) : Type 0 where
  pub world_is : one_turn t events (world_with_first_touches w first_touches)
      ≡ world_with_first_touches (one_turn t events w) (first_touches_after (turn_trace t events w) first_touches)
  pub trace : turn_trace t events (world_with_first_touches w first_touches) ≡ turn_trace t events w
  pub act : turn_act t events (world_with_first_touches w first_touches) ≡ turn_act t events w
  pub trap : turn_trap t events (world_with_first_touches w first_touches) ≡ turn_trap t events w
  pub disk : disk_begun t events (world_with_first_touches w first_touches) ≡ disk_begun t events w
  pub printed : printed_in t events (world_with_first_touches w first_touches) ≡ printed_in t events w
  pub punched : punched_in t events (world_with_first_touches w first_touches) ≡ punched_in t events w

pub turn_carried : (t : ℕ) (events : List Event) (w : World) (first_touches : FirstTouches)
    → TurnCarried t events w first_touches
turn_carried t events w first_touches =
    let so = turn_noted t events w (access_notes w.bus.stamps first_touches) in
    let left = first_touches_after (turn_trace t events w) first_touches in
    record {
      world_is = so.world_is
          ∙ ap (λ (n : AccessNotes). world_noting (one_turn t events w) (access_notes n.stamps left)) (sym (notes_next t events w));
      trace = so.trace;
      act = so.act;
      trap = so.trap;
      disk = so.disk;
      printed = so.printed;
      punched = so.punched;
    }

-- and over other stamps
pub stamps_disturb_nothing : (t : ℕ) (events : List Event) (w : World) (stamps : List (Option Stamp))
    → StampsDisturbNothing t events w stamps
stamps_disturb_nothing t events w stamps =
    let so = turn_noted t events w (access_notes stamps w.bus.first_touches) in
    let left = stamps_after_trace (turn_trace t events w) stamps in
    record {
      world_is = so.world_is
          ∙ ap (λ (n : AccessNotes). world_noting (one_turn t events w) (access_notes left n.first_touches)) (sym (notes_next t events w));
      trace = so.trace;
      act = so.act;
      printed = so.printed;
      punched = so.punched;
    }

none_stay : (t : ℕ) (events : List Event) (w : World) → w.bus.first_touches ≡ no_first_touches
    → (one_turn t events w).bus.first_touches ≡ no_first_touches
none_stay t events w none =
    let so = turn_carried t events w no_first_touches in
    let same : world_with_first_touches w no_first_touches ≡ w = ap (world_with_first_touches w) (sym none) in
    ap (λ u. u.bus.first_touches) (sym (ap (one_turn t events) same) ∙ so.world_is)
    ∙ no_first_touches_after (turn_trace t events w)

-- what is seen of a turn if first touches are seen apart from the world
pub turn_seen : (t : ℕ) (events : List Event) (w v : World) (first_touches now : FirstTouches)
    → w.bus.first_touches ≡ no_first_touches → v.bus.first_touches ≡ no_first_touches
    → world_with_first_touches v now ≡ one_turn t events (world_with_first_touches w first_touches)
    → v ≡ one_turn t events w
turn_seen t events w v first_touches now none nothing is =
    let so = turn_carried t events w first_touches in
    ap (world_with_first_touches v) nothing ∙ ap without_first_touches (is ∙ so.world_is)
    ∙ ap (world_with_first_touches (one_turn t events w)) (sym (none_stay t events w none))

pub first_touches_seen : (t : ℕ) (events : List Event) (w v : World) (first_touches now : FirstTouches)
    → world_with_first_touches v now ≡ one_turn t events (world_with_first_touches w first_touches)
    → now ≡ first_touches_after (turn_trace t events w) first_touches
first_touches_seen t events w v first_touches now is =
    ap (λ u. u.bus.first_touches) (is ∙ (turn_carried t events w first_touches).world_is)

-- a state with these first touches in its world
abbrev pub touched_state : MachineState → FirstTouches → MachineState
touched_state m first_touches = record m { world = world_with_first_touches m.world first_touches }

pub state_seen : (events : List Event) (m now : MachineState) (first_touches left : FirstTouches)
    → m.world.bus.first_touches ≡ no_first_touches → now.world.bus.first_touches ≡ no_first_touches
    → touched_state now left ≡ after_turn events (touched_state m first_touches)
    → now ≡ after_turn events m
state_seen events m now first_touches left none nothing is =
    let so = turn_carried m.turn events m.world first_touches in
    same_state now _ _ _ _ (ap (λ s. s.turn) is)
    (turn_seen m.turn events m.world now.world first_touches left none nothing (ap (λ s. s.world) is))
    (ap (λ s. s.text) is ∙ ap (λ out. m.text ++ out) so.printed)
    (ap (λ s. s.punched) is ∙ ap (λ out. m.punched ++ out) so.punched)
  where
    same_state : (s : MachineState) (t : ℕ) (w : World) (xs ys : List ℕ)
        → s.turn ≡ t → s.world ≡ w → s.text ≡ xs → s.punched ≡ ys
        → s ≡ record { turn = t; world = w; text = xs; punched = ys }
    same_state s t w xs ys turn world text punched =
        λ i. record { turn = turn i; world = world i; text = text i; punched = punched i }

-- what an act comes to, by what was due
pub act_is : (p now : Processor) (b after : BusWorld) (due : Due) → due_now p b.io_page ≡ due
    → (follow (course_of due) (state_of p b clear_latch)).world ≡ world now after
    → world now after ≡ act_end (world p b)
act_is p now b after due is follows =
    sym follows ∙ ap (λ d. (follow (course_of d) (state_of p b clear_latch)).world) (sym is)
