-- The laws of turns, as instances of those of courses.
use Rattle.std.proofs.Common.{◌≡◌, ◌∙◌, ◌++◌, ℕ, ◌<◌, ◌≤◌, None, All, List, ap, ap₂, subst, sym, Bool, true, false, arith, length, slice_index_or}
use Rattle.std.proofs.lemmas.List.Elements.{All-append}
use Rattle.pdp_unibus.specs.Handbook.BusWorld.{BusWorld}
use Rattle.pdp_store.proofs.Traces.{Avoids-first, Avoids-second}
use Rattle.pdp_store.specs.Parts.{AlikeWords}
use Rattle.pdp_store.specs.TracedAccess.{Avoids, TracedAccess, is_core, last_write}
use Rattle.pdp_store.specs.declared.part.Part.{Part}
use Rattle.pdp_unibus.proofs.Kept.{KeepsStamps, begun_keeps_page, begun_keeps_stamps, begun_keeps_tape, begun_keeps_turn, keeps_stamps}
use Rattle.pdp_unibus.proofs.Pairs.{begun_alike}
use Rattle.pdp_unibus.specs.Handbook.Beginning.{after_beginning, in_turn}
use Rattle.pdp_unibus.specs.Page.{AlikeOutside, SamePage, words_of_part, bus_with_words}
use Rattle.pdp_unibus.specs.Touched.{IsOfTurn}
use Rattle.pdp_unibus.specs.Trace.{begun_touches}
use Rattle.pdp_unibus.specs.declared.event.Event.{Event}
use Rattle.pdp_operand.specs.Laws.Touched.{IsByProcessor}
use Rattle.pdp_operand.specs.Laws.Trace.{trace_of}
use Rattle.pdp_operand.specs.declared.processor.Processor.{Processor}
use Rattle.pdp_action.specs.declared.trap.Trap.{Trap}
use Rattle.pdp_operand.specs.Phases.Phase.{Inner, Phase, inner_of}
use Rattle.pdp_operand.proofs.Bound.{AtMost, course_length_le}
use Rattle.pdp_instruction.proofs.PlanSizes.{size_of_plan}
use Rattle.pdp_operand.proofs.Kept.{course_touches, course_keeps_tape, course_keeps_turn, course_keeps_stamps}
use Rattle.pdp_operand.proofs.Outside.{course_undisturbed}
use Rattle.pdp_instruction.specs.Handbook.Instruction.{instruction_course, instruction, trace_note_course}
use Rattle.pdp_instruction.specs.Handbook.TrapSequence.{trap_course, saved_context_of, push_plan, red, red_plan, sequence, trap_plan}
use Rattle.pdp_cpu.specs.Handbook.Due.{course_of, due_of, serve, serving, take_stack, take_trace}
use Rattle.pdp_operand.specs.Phases.World.{World, world}
use Rattle.pdp_cpu.specs.Handbook.Turn.{beginning, clear_latch, course_at, initial_state, act_end, at_turn, one_turn, printed_in, punched_in, turn_trace}
use Rattle.pdp_cpu.specs.Laws.TurnLaws.{turn_phases, Undisturbed}
use Rattle.pdp_cpu.specs.declared.due.Due.{Due}
use Rattle.pdp_cpu.specs.declared.due.Due.TheVariants as due
use Rattle.pdp_instruction.specs.declared.saved_context.SavedContext.{SavedContext}
use Rattle.pdp_decode.specs.declared.instruction.Instr.{Instr}
use Rattle.pdp_operand.specs.Phases.Course.{Course, End, Go, ends, follow}
use Rattle.pdp_action.specs.declared.trap.Trap.TheVariants.{OddAddress, MappingAbort, BusTimeout, Reserved, JumpToRegister, StackLimit, Breakpoint, InputOutput, Emulator, TrapInstruction}
use Rattle.pdp_io_page.specs.Handbook.Source.{vector_of}

ends_at_most : (n : ℕ) → (i : Inner) → AtMost (ends i) n
ends_at_most n i = tt

-- the red sequence has six phases, and one more if it can't go on
red_at_most : (context : SavedContext) → AtMost (red context) 7
unfolding red red_plan
red_at_most context = (1, omega arith, ends_at_most 1, λ _ _. (0, omega arith, λ _. tt, λ _ _. tt))

-- the sequence of a trap has seven
sequence_at_most : (marks : Bool) (vector : ℕ) (context : SavedContext) → AtMost (sequence marks vector context) 14
unfolding sequence trap_plan push_plan
sequence_at_most marks vector context = (7, omega arith, ends_at_most 7, λ _ _. red_at_most context)

more : (course : Course) (m n : ℕ) → m ≤ n → AtMost course m → AtMost course n
more End m n room bound = tt
more (Go plan next caught) m n room bound = (bound.0, omega (arith, room, bound.1), bound.2, bound.3)

handled_at_most : (trap : Trap) (i : Inner) → AtMost (trap_course trap i) 14
handled_at_most StackLimit i = more (red (saved_context_of i)) 7 14 (omega arith) (red_at_most (saved_context_of i))
handled_at_most OddAddress i = sequence_at_most true _ (saved_context_of i)
handled_at_most MappingAbort i = sequence_at_most true _ (saved_context_of i)
handled_at_most BusTimeout i = sequence_at_most true _ (saved_context_of i)
handled_at_most JumpToRegister i = sequence_at_most true _ (saved_context_of i)
handled_at_most Reserved i = sequence_at_most true _ (saved_context_of i)
handled_at_most Breakpoint i = sequence_at_most true _ (saved_context_of i)
handled_at_most InputOutput i = sequence_at_most true _ (saved_context_of i)
handled_at_most Emulator i = sequence_at_most true _ (saved_context_of i)
handled_at_most TrapInstruction i = sequence_at_most true _ (saved_context_of i)

noted_at_most : (instr : Instr) (i : Inner) → AtMost (trace_note_course instr) 14
unfolding trace_note_course
noted_at_most instr i = (0, omega arith, λ _. tt, λ _ _. tt)

-- the plan of an instruction has at most twelve
executed_at_most : (instr : Instr) → AtMost (instruction_course instr) 26
unfolding instruction_course
executed_at_most instr = (14, omega (arith, size_of_plan instr), noted_at_most instr, handled_at_most)

serving_at_most : (taken : Phase) (marks : Bool) (vector : ℕ) → AtMost (serving taken marks vector) 32
unfolding serving
serving_at_most taken marks vector =
    (14, omega arith, λ i. sequence_at_most marks vector (saved_context_of i), λ _ _. tt)

course_at_most : (d : Due) → AtMost (course_of d) 32
unfolding instruction
course_at_most due.Nothing = tt
course_at_most due.TraceTrap = serving_at_most take_trace true 0o14
course_at_most due.StackTrap = serving_at_most take_stack false 0o4
course_at_most (due.Interrupt source) = serving_at_most (serve source) true (vector_of source)
course_at_most due.Instruction = (
  31,
  omega arith,
  λ i. more (instruction_course i.latch.instr) 26 31 (omega arith) (executed_at_most i.latch.instr),
  λ trap i. more (trap_course trap i) 14 31 (omega arith) (handled_at_most trap i),
)

pub turn_at_most_32 : (t : ℕ) (events : List Event) (w : World) → turn_phases t events w ≤ 32
unfolding turn_phases
turn_at_most_32 t events w = course_length_le (course_at (at_turn t events w)) 32 (at_turn t events w) (course_at_most (due_of (inner_of (at_turn t events w))))

abbrev act_trace : ℕ → List Event → World → List TracedAccess
act_trace t events w = trace_of (course_at (at_turn t events w)) (at_turn t events w)

of_turn : (turn words : ℕ) (x : TracedAccess) → IsByProcessor turn words x → IsOfTurn turn words x
of_turn turn words x so = record {
  turn_is = so.turn_is;
  in_core = λ _. so.in_core;
  by_disk = λ elsewhere. let no : true ≡ false = sym (ap is_core so.of_core) ∙ elsewhere in cc;
}

pub turn_touches : (t : ℕ) (events : List Event) (w : World) → All (IsOfTurn t (length w.bus.core)) (turn_trace t events w)
unfolding turn_trace
turn_touches t events w =
    let after_beginning = begun_keeps_turn t events w.bus in
    let course = course_touches (course_at (at_turn t events w)) (at_turn t events w) in
    All-append (IsOfTurn t (length w.bus.core)) (begun_touches t events w.bus) (act_trace t events w) after_beginning.touches
    (λ k d below. of_turn t (length w.bus.core) _ (rw (after_beginning.turn, after_beginning.words) at (course k d below)))

turn_keeps_last_stamps : (t : ℕ) (events : List Event) (w : World)
    → KeepsStamps (turn_trace t events w) (in_turn t w.bus) (one_turn t events w).bus
unfolding one_turn turn_trace
turn_keeps_last_stamps t events w =
    keeps_stamps.joins (begun_touches t events w.bus) (act_trace t events w) (in_turn t w.bus) (beginning t events w).bus
    (act_end (beginning t events w)).bus (begun_keeps_stamps t events w.bus)
    (course_keeps_stamps (course_at (at_turn t events w)) (at_turn t events w))

pub turn_stamps : (t : ℕ) (events : List Event) (w : World) (k : ℕ) → k < length w.bus.stamps
    → slice_index_or (one_turn t events w).bus.stamps k None ≡ last_write (turn_trace t events w) k (slice_index_or w.bus.stamps k None)
turn_stamps t events w = (turn_keeps_last_stamps t events w).stamps

pub turn_keeps_words : (t : ℕ) (events : List Event) (w : World) → length (one_turn t events w).bus.core ≡ length w.bus.core
unfolding one_turn
turn_keeps_words t events w =
    (course_keeps_turn (course_at (at_turn t events w)) (at_turn t events w)).words ∙ (begun_keeps_turn t events w.bus).words

pub turn_keeps_tape : (t : ℕ) (events : List Event) (w : World) → (one_turn t events w).bus.tape ≡ w.bus.tape
unfolding one_turn
turn_keeps_tape t events w =
    course_keeps_tape (course_at (at_turn t events w)) (at_turn t events w) ∙ begun_keeps_tape t events w.bus

pub turn_keeps_stamps : (t : ℕ) (events : List Event) (w : World) → length (one_turn t events w).bus.stamps ≡ length w.bus.stamps
turn_keeps_stamps t events w = (turn_keeps_last_stamps t events w).size

-- the act of a turn in world v, and a course on the same processor and bus c: they end in the same way, with the same
-- trace, and leave each its own words of the page
record UndisturbedAct (part : Part) (page : ℕ) (v w : World) (course : Course) : Type 0 where
  processor : (act_end v).processor ≡ (follow course (initial_state w)).world.processor
  bus : AlikeOutside part page (act_end v).bus (follow course (initial_state w)).world.bus
  trace : trace_of (course_at (initial_state v)) (initial_state v) ≡ trace_of course (initial_state w)
  page_of_one : SamePage part page v.bus (act_end v).bus
  page_of_other : SamePage part page w.bus (follow course (initial_state w)).world.bus

same_course : (v : World) (c : BusWorld) → v.bus.io_page ≡ c.io_page → course_at (initial_state v) ≡ course_at (initial_state (world v.processor c))
same_course v c is = ap (λ io_page. course_of (due_of (record { processor = v.processor; io_page = io_page; latch = clear_latch }))) is

undisturbed_act : (part : Part) (page : ℕ) (v : World) (c : BusWorld) → AlikeOutside part page v.bus c
    → Avoids part page (trace_of (course_at (initial_state v)) (initial_state v))
    → UndisturbedAct part page v (world v.processor c) (course_at (initial_state (world v.processor c)))
undisturbed_act part page v c alike avoids =
    let so = course_undisturbed part page (course_at (initial_state v)) (initial_state v) c alike avoids in
    subst (UndisturbedAct part page v (world v.processor c)) (same_course v c (ap (λ b. b.io_page) (sym alike.is))) (record {
      processor = so.processor;
      bus = so.bus;
      trace = so.trace;
      page_of_one = so.page_of_one;
      page_of_other = so.page_of_other;
    })

undisturbed_by : (part : Part) (page t : ℕ) (events : List Event) (p : Processor) (b : BusWorld) (words : List ℕ)
    → AlikeWords page (words_of_part part b) words → Avoids part page (turn_trace t events (world p b))
    → Undisturbed part page t events p b (bus_with_words part words b)
unfolding one_turn turn_trace printed_in punched_in
undisturbed_by part page t events p b words alike avoids =
    let v = beginning t events (world p b) in
    let begun_avoids = Avoids-first part page (begun_touches t events b) _ avoids in
    let pair = begun_alike part page t events b words alike begun_avoids in
    let so =
    undisturbed_act part page v (after_beginning t events (bus_with_words part words b)).bus
    (record { words = pair.words; is = ap (λ q. q.bus) pair.is; alike = pair.alike })
    (Avoids-second part page (begun_touches t events b) _ avoids)
    in
    record {
      processor = so.processor;
      bus = so.bus;
      trace = ap₂ ◌++◌ (sym pair.trace) so.trace;
      printed = sym (ap (λ q. q.printed) pair.is);
      punched = sym (ap (λ q. q.punched) pair.is);
      page_of_one = λ k inside. begun_keeps_page part page t events b begun_avoids k inside ∙ so.page_of_one k inside;
      page_of_other = λ k inside.
          begun_keeps_page part page t events (bus_with_words part words b) (rw pair.trace begun_avoids) k inside
          ∙ so.page_of_other k inside;
    }

pub turn_undisturbed : (part : Part) (page t : ℕ) (events : List Event) (p : Processor) (b c : BusWorld) → AlikeOutside part page b c
    → Avoids part page (turn_trace t events (world p b)) → Undisturbed part page t events p b c
turn_undisturbed part page t events p b c alike avoids =
    subst (Undisturbed part page t events p b) (sym alike.is) (undisturbed_by part page t events p b alike.words alike.alike avoids)
