-- What is due, and the rows of it.
use Rattle.std.proofs.Common.{◌≡◌, ◌∙◌, ℕ, Bool, true, false, List, [], ◌∷◌, Result, Ok, Err, refl}
use Rattle.pdp_word.specs.declared.codes.Codes.{Codes}
use Rattle.pdp_io_page.specs.Handbook.Source.{io_page_served, vector_of}
use Rattle.pdp_io_page.specs.declared.source.Source.{Source}
use Rattle.pdp_unibus.specs.Handbook.BusWorld.{BusWorld, with_io_page}
use Rattle.pdp_operand.specs.Handbook.Processor.{with_run}
use Rattle.pdp_operand.specs.declared.processor.Processor.{Processor}
use Rattle.pdp_operand.specs.declared.processor.RunState.TheVariants.{Run}
use Rattle.pdp_operand.specs.Phases.Course.{follow, go_on}
use Rattle.pdp_operand.specs.Phases.Phase.{Latch, Phase, State, Stop, inner_of, state_of, step}
use Rattle.pdp_operand.specs.Phases.Plan.{one, run_plan}
use Rattle.pdp_instruction.specs.Handbook.Instruction.{instruction}
use Rattle.pdp_instruction.specs.Handbook.TrapSequence.{saved_context_of, sequence}
use Rattle.pdp_cpu.specs.Handbook.Due.{course_of, serve, serving, take_stack, take_trace, without_stack_trap, without_trace_trap}
use Rattle.pdp_cpu.specs.declared.due.Due.{Due}
use Rattle.pdp_cpu.specs.declared.due.Due.TheVariants as due
use Rattle.pdp_made.specs.Cells.{DataCell}
use Rattle.pdp_made.specs.CourseRows.{Finished, Saving, follow_rows, instruction_rows, made_along, sequence_rows}
use Rattle.pdp_made.specs.PhaseRows.{of_itself}
use Rattle.pdp_made.proofs.Courses.{instruction_followed, sequence_followed}
use Rattle.pdp_made_run.specs.TurnRows.{rows_of_due, serving_rows}
use Rattle.pdp_moves.specs.CourseMoves.{IsNoted}
use Rattle.pdp_moves.proofs.CourseMoves.{finished, keeps_on, noted_as}

-- what is served goes first, and then its sequence
pub served : (taken : Phase) (marks : Bool) (vector : ℕ) (saved : Codes) (s t end : State) (sources : DataCell → List DataCell) → step taken s ≡ Ok t
    → IsNoted (Saving (sequence_rows marks vector (saved_context_of (inner_of t)))) saved t end sources → IsNoted (serving_rows taken marks vector) saved s end sources
served taken marks vector saved s t end sources is rest =
    keeps_on taken (λ i. Saving (sequence_rows marks vector (saved_context_of i))) (λ _ _. Finished) saved s t end sources is rest

-- and changes no data
pub trace_step : (p q : Processor) (b : BusWorld) (latch : Latch) → q ≡ without_trace_trap p → step take_trace (state_of p b latch) ≡ Ok (state_of q b latch)
unfolding take_trace
trace_step p q b latch is = rw is refl

pub stack_step : (p q : Processor) (b : BusWorld) (latch : Latch) → q ≡ without_stack_trap p → step take_stack (state_of p b latch) ≡ Ok (state_of q b latch)
unfolding take_stack
stack_step p q b latch is = rw is refl

pub serve_step : (from : Source) (p q : Processor) (b d : BusWorld) (latch : Latch) → q ≡ with_run p Run → d ≡ with_io_page b (io_page_served from b.io_page)
    → step (serve from) (state_of p b latch) ≡ Ok (state_of q d latch)
unfolding serve
serve_step from p q b d latch is bus_is = rw (is, bus_is) refl

-- nothing is due
pub nothing : (saved : Codes) (s : State) (sources : DataCell → List DataCell) → ((c : DataCell) → sources c ≡ c ∷ []) → IsNoted (rows_of_due due.Nothing) saved s s sources
nothing saved s sources same = noted_as _ _ _ _ of_itself sources (finished saved s) same

-- an instruction is
pub instructed : (saved : Codes) (s t : State) (sources : DataCell → List DataCell) → follow instruction s ≡ t → ((c : DataCell) → sources c ≡ made_along instruction_rows saved s c)
    → IsNoted (rows_of_due due.Instruction) saved s t sources
instructed saved s t sources is made = record { follows = instruction_followed saved s ∙ is; made = made }

-- The rows follow the course of what is due
serving_followed : (taken : Phase) (marks : Bool) (vector : ℕ) (saved : Codes) (s : State) → follow_rows (serving_rows taken marks vector) saved s ≡ follow (serving taken marks vector) s
unfolding follow_rows follow serving
serving_followed taken marks vector saved s = after_one (run_plan (one taken) s) where
  after_one : (end : Result State Stop)
      → go_on (λ t. follow_rows (Saving (sequence_rows marks vector (saved_context_of (inner_of t)))) saved t) (λ trap t. t) s.latch end
      ≡ go_on (λ t. follow (sequence marks vector (saved_context_of (inner_of t))) t) (λ trap t. t) s.latch end
  after_one (Ok t) = sequence_followed marks vector (saved_context_of (inner_of t)) (saved_context_of (inner_of t)).status.codes t
  after_one (Err stop) = refl

nothing_followed : (saved : Codes) (s : State) → follow_rows (rows_of_due due.Nothing) saved s ≡ follow (course_of due.Nothing) s
unfolding follow_rows follow
nothing_followed saved s = refl

pub due_followed : (what : Due) (saved : Codes) (s : State) → follow_rows (rows_of_due what) saved s ≡ follow (course_of what) s
due_followed due.Instruction saved s = instruction_followed saved s
due_followed due.TraceTrap saved s = serving_followed take_trace true 0o14 saved s
due_followed due.StackTrap saved s = serving_followed take_stack false 0o4 saved s
due_followed (due.Interrupt from) saved s = serving_followed (serve from) true (vector_of from) saved s
due_followed due.Nothing saved s = nothing_followed saved s
