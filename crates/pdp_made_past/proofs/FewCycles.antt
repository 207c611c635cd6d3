-- An act runs at most 32 cycles on the bus, so a list of the first 257 has them all.
use Rattle.std.proofs.Common.{◌≡◌, ◌∙◌, ℕ, suc, ◌+◌, ◌≤◌, Bool, true, false, List, [], ◌∷◌, Some, None, Ok, Err, Result, refl, sym, ap, arith, length, length-append}
use Rattle.pdp_word.specs.declared.codes.Codes.{Codes}
use Rattle.pdp_action.specs.Action.{action_of}
use Rattle.pdp_action.specs.declared.trap.Trap.{Trap}
use Rattle.pdp_action.specs.declared.trap.Trap.TheVariants.{StackLimit, OddAddress, MappingAbort, BusTimeout, Reserved, JumpToRegister, Breakpoint, InputOutput, Emulator, TrapInstruction}
use Rattle.pdp_decode.specs.declared.instruction.Instr.{Instr}
use Rattle.pdp_store.specs.declared.cycle_log.BusCycle.{BusCycle}
use Rattle.pdp_io_page.specs.Handbook.Source.{vector_of}
use Rattle.pdp_unibus.specs.Handbook.BusWorld.{BusWorld}
use Rattle.pdp_operand.specs.Phases.Course.{caught_in}
use Rattle.pdp_operand.specs.Phases.Phase.{Inner, Latch, Phase, State, Stop, Request, Nothing, Ask, Raise, inner_of, run, step}
use Rattle.pdp_operand.specs.Phases.Plan.{Plan, Do, ◌▸◌, phases_of}
use Rattle.pdp_operand.proofs.Bound.{size_of}
use Rattle.pdp_operand.proofs.Shape.{Shape, shape_of}
use Rattle.pdp_operand.proofs.Shape.Shape.{Apart, Looked, Wrote}
use Rattle.pdp_instruction.specs.Handbook.Action.{plan_of_action}
use Rattle.pdp_instruction.specs.Handbook.TrapSequence.{saved_context_of, trap_vector}
use Rattle.pdp_instruction.specs.declared.saved_context.SavedContext.{SavedContext}
use Rattle.pdp_instruction.proofs.PlanSizes.{size_of_plan}
use Rattle.pdp_cpu.specs.Handbook.Due.{serve, take_stack, take_trace}
use Rattle.pdp_cpu.specs.declared.due.Due.{Due}
use Rattle.pdp_cpu.specs.declared.due.Due.TheVariants as due
use Rattle.pdp_made.specs.Cells.{no_saved_codes}
use Rattle.pdp_made.specs.CourseRows.{CourseRows, Finished, Along, Saving, codes_at, instruction_course_rows, red_course_rows, sequence_rows, trap_course_rows}
use Rattle.pdp_made.specs.InstructionRows.{rows_of_action}
use Rattle.pdp_made.specs.PhaseRows.{PhaseRow, phases_in}
use Rattle.pdp_made.proofs.ActionRows.{rows_phases}
use Rattle.pdp_made_run.specs.TurnRows.{rows_of_due, serving_rows}
use Rattle.pdp_made_past.proofs.KeptCourses.{cycles_after, cycles_along, cycles_through, next_cycles}
use Rattle.pdp_made_past.proofs.RowCycles.{cycles_of_phase, cycles_of_request, cycles_told}

-- a phase runs at most one
shape_one : (shape : Shape) (b : BusWorld) → length (cycles_told shape b) ≤ 1
shape_one (Apart None io_page value) b = omega arith
shape_one (Apart (Some cycle) io_page value) b = omega arith
shape_one (Looked io_page f k) b = omega arith
shape_one (Wrote cycle io_page told f k) b = omega arith

request_one : (request : Request) (b : BusWorld) → length (cycles_of_request request b) ≤ 1
request_one Nothing b = omega arith
request_one (Raise trap) b = omega arith
request_one (Ask r) b = shape_one (shape_of r b) b

next_few : (n : ℕ) (cycles : State → List BusCycle) (one : Result State Stop) → ((t : State) → length (cycles t) ≤ n) → length (next_cycles cycles one) ≤ n
next_few n cycles (Ok t) rest = rest t
next_few n cycles (Err stop) rest = omega arith

through_few : (rows : List PhaseRow) (saved : Codes) (s : State) → length (cycles_through rows saved s) ≤ length rows
unfolding cycles_through
through_few [] saved s = omega arith
through_few (row ∷ rows) saved s =
    let first = cycles_of_phase (row.phase saved) s in
    let next = next_cycles (λ t. cycles_through rows saved t) (step (row.phase saved) s) in
    let size = length-append first next in
    let one = request_one ((row.phase saved).request (inner_of s)) s.world.bus in
    let few = next_few (length rows) (λ t. cycles_through rows saved t) (step (row.phase saved) s) (λ t. through_few rows saved t) in
    omega (arith, size, one, few)

-- a course has at most so many rows, whatever its phases meet
abbrev pub RowsAtMost : CourseRows → ℕ → Type 0
RowsAtMost Finished n = Unit {0}
RowsAtMost (Along rows next caught) n =
    (m : ℕ) × (length rows + m ≤ n) × ((i : Inner) → RowsAtMost (next i) m) × ((trap : Trap) (i : Inner) → RowsAtMost (caught trap i) m)
RowsAtMost (Saving rest) n = RowsAtMost rest n

after_few : (n : ℕ) (next : State → List BusCycle) (caught : Trap → State → List BusCycle) (latch : Latch) (one : Result State Stop)
    → ((t : State) → length (next t) ≤ n) → ((trap : Trap) (t : State) → length (caught trap t) ≤ n) → length (cycles_after next caught latch one) ≤ n
after_few n next caught latch (Ok t) goes_on catches = goes_on t
after_few n next caught latch (Err stop) goes_on catches = catches stop.trap (caught_in latch stop)

pub along_few : (rows : CourseRows) (n : ℕ) → RowsAtMost rows n → (saved : Codes) (s : State) → length (cycles_along rows saved s) ≤ n
unfolding cycles_along
along_few Finished n bound saved s = omega arith
along_few (Along rows next caught) n bound saved s =
    let goes_on : State → List BusCycle = λ t. cycles_along (next (inner_of t)) saved t in
    let catches : Trap → State → List BusCycle = λ trap t. cycles_along (caught trap (inner_of t)) saved t in
    let first = through_few rows saved s in
    let size = length-append (cycles_through rows saved s) (cycles_after goes_on catches s.latch (run (phases_in rows saved) s)) in
    let rest = after_few bound.0 goes_on catches s.latch (run (phases_in rows saved) s)
    (λ t. along_few (next (inner_of t)) bound.0 (bound.2 (inner_of t)) saved t)
    (λ trap t. along_few (caught trap (inner_of t)) bound.0 (bound.3 trap (inner_of t)) saved t) in
    omega (arith, first, size, rest, bound.1)
along_few (Saving rest) n bound saved s = along_few rest n bound (codes_at s) s

-- Rows are as many as the phases of their plan
length-phases_in : (rows : List PhaseRow) (saved : Codes) → length (phases_in rows saved) ≡ length rows
length-phases_in [] saved = refl
length-phases_in (row ∷ rows) saved = ap (λ n. suc n) (length-phases_in rows saved)

length-phases_of : (plan : Plan) → length (phases_of plan) ≡ size_of plan
length-phases_of (Do ps) = refl
length-phases_of (a ▸ b) = rw (length-append (phases_of a) (phases_of b), length-phases_of a, length-phases_of b) refl

length-rows : (instr : Instr) → length (rows_of_action (action_of instr)) ≤ 12
length-rows instr =
    let rows : length (rows_of_action (action_of instr)) ≡ size_of (plan_of_action (action_of instr))
    = sym (length-phases_in (rows_of_action (action_of instr)) no_saved_codes) ∙ ap length (rows_phases no_saved_codes (action_of instr)) ∙ length-phases_of (plan_of_action (action_of instr)) in
    let few = size_of_plan instr in
    omega (arith, rows, few)

-- The red sequence has six phases and one more if it can't go on, and the sequence of a trap seven
red_at_most : (context : SavedContext) → RowsAtMost (red_course_rows context) 7
red_at_most context = (1, omega arith, λ _. tt, λ _ _. (0, omega arith, λ _. tt, λ _ _. tt))

sequence_at_most : (marks : Bool) (vector : ℕ) (context : SavedContext) → RowsAtMost (sequence_rows marks vector context) 14
sequence_at_most marks vector context = (7, omega arith, λ _. tt, λ _ _. red_at_most context)

more : (rows : CourseRows) (m n : ℕ) → m ≤ n → RowsAtMost rows m → RowsAtMost rows n
more Finished m n room bound = tt
more (Along rows next caught) m n room bound = (bound.0, omega (arith, room, bound.1), bound.2, bound.3)
more (Saving rest) m n room bound = more rest m n room bound

handled_at_most : (trap : Trap) (i : Inner) → RowsAtMost (trap_course_rows trap i) 14
handled_at_most StackLimit i = more (red_course_rows (saved_context_of i)) 7 14 (omega arith) (red_at_most (saved_context_of i))
handled_at_most OddAddress i = sequence_at_most true (trap_vector OddAddress) (saved_context_of i)
handled_at_most MappingAbort i = sequence_at_most true (trap_vector MappingAbort) (saved_context_of i)
handled_at_most BusTimeout i = sequence_at_most true (trap_vector BusTimeout) (saved_context_of i)
handled_at_most Reserved i = sequence_at_most true (trap_vector Reserved) (saved_context_of i)
handled_at_most JumpToRegister i = sequence_at_most true (trap_vector JumpToRegister) (saved_context_of i)
handled_at_most Breakpoint i = sequence_at_most true (trap_vector Breakpoint) (saved_context_of i)
handled_at_most InputOutput i = sequence_at_most true (trap_vector InputOutput) (saved_context_of i)
handled_at_most Emulator i = sequence_at_most true (trap_vector Emulator) (saved_context_of i)
handled_at_most TrapInstruction i = sequence_at_most true (trap_vector TrapInstruction) (saved_context_of i)

executed_at_most : (instr : Instr) → RowsAtMost (instruction_course_rows instr) 26
executed_at_most instr = (14, omega (arith, length-rows instr), λ i. (0, omega arith, λ _. tt, λ _ _. tt), handled_at_most)

serving_at_most : (taken : Phase) (marks : Bool) (vector : ℕ) → RowsAtMost (serving_rows taken marks vector) 32
serving_at_most taken marks vector = (14, omega arith, λ i. sequence_at_most marks vector (saved_context_of i), λ _ _. tt)

pub due_at_most : (act : Due) → RowsAtMost (rows_of_due act) 32
due_at_most due.Nothing = tt
due_at_most due.TraceTrap = serving_at_most take_trace true 0o14
due_at_most due.StackTrap = serving_at_most take_stack false 0o4
due_at_most (due.Interrupt source) = serving_at_most (serve source) true (vector_of source)
due_at_most due.Instruction = (
  31,
  omega arith,
  λ i. more (instruction_course_rows i.latch.instr) 26 31 (omega arith) (executed_at_most i.latch.instr),
  λ trap i. more (trap_course_rows trap i) 14 31 (omega arith) (handled_at_most trap i),
)
