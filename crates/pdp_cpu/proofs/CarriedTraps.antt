-- What is due comes to the same trap whatever notes of accesses are kept. A course shows it: one
-- that does what an instruction does, and leaves in the latch which trap it came to.
use Rattle.std.proofs.Common.{◌≡◌, ◌∙◌, ℕ, zero, suc, Option, None, Some, Ok, Err, Result, ap, option_map, refl, sym}
use Rattle.pdp_unibus.proofs.AccessNotes.{AccessNotes}
use Rattle.pdp_operand.proofs.Carried.{carried_course, holding}
use Rattle.pdp_operand.specs.Phases.Phase.{Inner, Latch, State, Stop, and_then, inner_of, internal_phase, run, with_value}
use Rattle.pdp_operand.specs.Phases.Plan.{one, run_plan}
use Rattle.pdp_operand.specs.Phases.Course.{Course, Go, ends, follow, go_on, nothing_after}
use Rattle.pdp_action.specs.declared.trap.Trap.{Trap}
use Rattle.pdp_instruction.specs.Handbook.Action.{plan_of}
use Rattle.pdp_instruction.specs.Handbook.Instruction.{fetch_instruction, instruction_trap, trap_left}
use Rattle.pdp_instruction.specs.Handbook.TrapSequence.{trap_vector}
use Rattle.pdp_cpu.specs.Handbook.TurnTrap.{trap_of_due}
use Rattle.pdp_cpu.specs.declared.due.Due.{Due}
use Rattle.pdp_cpu.specs.declared.due.Due.TheVariants as due

-- a vector that there may be, as a number, and back
abbrev number_of : Option ℕ → ℕ
number_of None = 0
number_of (Some vector) = suc vector

abbrev vector_in : ℕ → Option ℕ
vector_in zero = None
vector_in (suc vector) = Some vector

back : (found : Option ℕ) → vector_in (number_of found) ≡ found
back None = refl
back (Some vector) = refl

-- the same number is of the same vector
same_vector : (a b : Option ℕ) → number_of a ≡ number_of b → a ≡ b
same_vector a b is = sym (back a) ∙ ap vector_in is ∙ back b

-- leaves this number in the latch
abbrev leaves : ℕ → Course
leaves n = Go (one (internal_phase (λ i. with_value i n))) ends nothing_after

abbrev leaves_vector : Trap → Inner → Course
leaves_vector trap _ = leaves (suc (trap_vector trap))

abbrev executing : Inner → Course
executing i = Go (plan_of i.latch.instr) (λ _. leaves 0) leaves_vector

-- fetches and executes an instruction, and leaves the number of its trap's vector
abbrev marking : Course
marking = Go (one fetch_instruction) executing leaves_vector

executed_marks : (latch : Latch) (r : Result State Stop)
    → (go_on (λ t. follow (leaves 0) t) (λ trap t. follow (leaves_vector trap (inner_of t)) t) latch r).latch.value
    ≡ number_of (option_map trap_vector (trap_left r))
unfolding follow run
executed_marks latch (Ok t) = refl
executed_marks latch (Err stop) = refl

fetched_marks : (latch : Latch) (r : Result State Stop)
    → (go_on (λ t. follow (executing (inner_of t)) t) (λ trap t. follow (leaves_vector trap (inner_of t)) t) latch r).latch.value
    ≡ number_of (option_map trap_vector (trap_left (and_then r (λ t. run_plan (plan_of t.latch.instr) t))))
unfolding follow run
fetched_marks latch (Ok t) = executed_marks t.latch (run_plan (plan_of t.latch.instr) t)
fetched_marks latch (Err stop) = refl

marks : (s : State) → (follow marking s).latch.value ≡ number_of (option_map trap_vector (instruction_trap s))
unfolding follow instruction_trap
marks s = fetched_marks s.latch (run_plan (one fetch_instruction) s)

instruction_carried : (s : State) (notes : AccessNotes)
    → option_map trap_vector (instruction_trap (holding s notes)) ≡ option_map trap_vector (instruction_trap s)
instruction_carried s notes =
    same_vector _ _
    (sym (marks (holding s notes)) ∙ ap (λ t. t.latch.value) (carried_course marking s notes).is ∙ marks s)

pub trap_carried : (d : Due) (s : State) (notes : AccessNotes) → trap_of_due d (holding s notes) ≡ trap_of_due d s
trap_carried due.Instruction s notes = instruction_carried s notes
trap_carried due.TraceTrap s notes = refl
trap_carried due.StackTrap s notes = refl
trap_carried (due.Interrupt source) s notes = refl
trap_carried due.Nothing s notes = refl
