-- What attributes cite: lemmas by their subject, and definitions that are opened together, as an
-- `unfolding` of a name opens all that stands on the name's own line.
use Rattle.pdp_operand.proofs.Steps.{run_name_register}
use Rattle.pdp_operand.specs.Handbook.Operand.{find, lower, read_operand}
use Rattle.pdp_operand.specs.Phases.Course.{follow}
use Rattle.pdp_operand.specs.Phases.Phase.{run}
use Rattle.pdp_instruction.proofs.Endings.{after_caught, after_done}
use Rattle.pdp_instruction.proofs.Steps.{run_comparison, run_cross, run_execute_combination}
use Rattle.pdp_instruction.proofs.Steps.{run_execute_modification, run_execute_mov}
use Rattle.pdp_instruction.proofs.Steps.{run_execute_replacement, run_execute_tst}
use Rattle.pdp_instruction.proofs.Steps.{run_keep_counter, run_keep_source, run_link, run_return_by}
use Rattle.pdp_instruction.proofs.Steps.{run_return_from_trap, run_set_register, run_store_codes}
use Rattle.pdp_instruction.proofs.Steps.{run_store_none, run_take_link, run_take_register}
use Rattle.pdp_instruction.specs.Handbook.Control.{halt, halt_plan, reset, reset_plan, wait}
use Rattle.pdp_instruction.specs.Handbook.Control.{wait_plan}
use Rattle.pdp_instruction.specs.Handbook.Instruction.{instruction, instruction_course, note_trace}
use Rattle.pdp_instruction.specs.Handbook.Instruction.{trace_note_course}
use Rattle.pdp_instruction.specs.Handbook.Operands.{source_first}
use Rattle.pdp_instruction.specs.Handbook.TrapSequence.{push_plan, put_word, red, sequence}

-- for goals on the operands that are kept before the place of a result is found
pub ruleset sources = (run_keep_source, run_take_register, run_name_register)

-- for goals on an instruction of one operand
pub ruleset unary_steps = (
  run_execute_tst,
  run_execute_modification,
  run_execute_replacement,
  run_store_codes,
)

-- for goals on an instruction of two operands
pub ruleset binary_steps = (run_comparison, run_execute_combination)

-- for goals on the codes that an instruction stores, or doesn't
pub ruleset code_stores = (run_store_codes, run_store_none)

-- for goals on MFPI and MTPI, which cross from one space to the other
pub ruleset crossings = (run_cross, run_keep_source, run_execute_mov)

-- for goals on the register that links a subroutine to its caller
pub ruleset links = (run_take_link, run_link)

-- for goals on the return from a subroutine
pub ruleset returns = (run_return_by, run_set_register)

-- for goals on RTI and RTT
pub ruleset trap_returns = (run_keep_counter, run_return_from_trap)

-- for goals on how a course goes on, after a plan that was done or whose trap is caught
pub ruleset endings = (after_done, after_caught)

-- opens the plans of HALT, WAIT and RESET
unfoldable pub control_plans : Type 0
unfolding halt_plan halt wait_plan wait reset_plan reset run
control_plans = Unit {0}

-- opens how a source operand is found and read
unfoldable pub source_read : Type 0
unfolding source_first find read_operand run
source_read = Unit {0}

-- opens how the old PC and PS are pushed
unfoldable pub trap_pushes : Type 0
unfolding push_plan put_word lower run
trap_pushes = Unit {0}

-- opens the course of the red zone
unfoldable pub red_course : Type 0
unfolding red follow
red_course = Unit {0}

-- opens the course of a trap sequence
unfoldable pub sequences : Type 0
unfolding sequence follow
sequences = Unit {0}

-- opens the course that notes the T bit
unfoldable pub trace_notes : Type 0
unfolding trace_note_course note_trace run follow
trace_notes = Unit {0}

-- opens the course of an instruction word
unfoldable pub courses : Type 0
unfolding instruction_course follow
courses = Unit {0}

-- opens the whole course of an instruction
unfoldable pub whole_course : Type 0
unfolding instruction follow
whole_course = Unit {0}
