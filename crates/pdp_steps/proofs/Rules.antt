-- What attributes cite: definitions that are opened together, as an `unfolding` of a name opens all
-- that stands on the name's own line.
use Rattle.pdp_operand.specs.Handbook.Operand.{grow, index, indirect, lower, name_register, point}
use Rattle.pdp_operand.specs.Phases.Phase.{run}
use Rattle.pdp_instruction.specs.Handbook.Branch.{branch_phase, subtract_one}
use Rattle.pdp_instruction.specs.Handbook.ChangeCodes.{clear_codes, set_codes}
use Rattle.pdp_instruction.specs.Handbook.Control.{halt, reset, wait}
use Rattle.pdp_instruction.specs.Handbook.Execute.{store_codes}
use Rattle.pdp_instruction.specs.Handbook.Extended.{divide, multiply, shift, shift_pair}
use Rattle.pdp_instruction.specs.Handbook.Instruction.{fetch_instruction, note_trace}
use Rattle.pdp_instruction.specs.Handbook.Jump.{aim, jump, link, return_by, set_register}
use Rattle.pdp_instruction.specs.Handbook.Jump.{take_link, take_mark}
use Rattle.pdp_instruction.specs.Handbook.Moves.{execute_mov}
use Rattle.pdp_instruction.specs.Handbook.OneOperand.{execute_modification, execute_replacement}
use Rattle.pdp_instruction.specs.Handbook.OneOperand.{execute_tst}
use Rattle.pdp_instruction.specs.Handbook.Operands.{keep_source, take_register}
use Rattle.pdp_instruction.specs.Handbook.PreviousMode.{cross}
use Rattle.pdp_instruction.specs.Handbook.ReturnFromTrap.{keep_counter, return_from_trap}
use Rattle.pdp_instruction.specs.Handbook.TrapSequence.{bare_stack, enter, enter_red, give_up}
use Rattle.pdp_instruction.specs.Handbook.TrapSequence.{push_plan, put_word, red_plan, save}
use Rattle.pdp_instruction.specs.Handbook.TrapSequence.{trap_plan, vector_counter, vector_status}
use Rattle.pdp_instruction.specs.Handbook.TwoOperands.{execute_combination, execute_comparison}

-- opens the fetch, and what notes a trace trap
unfoldable pub fetches : Type 0
unfolding run fetch_instruction note_trace
fetches = Unit {0}

-- opens how an operand is found
unfoldable pub finding : Type 0
unfolding run name_register point grow lower index indirect
finding = Unit {0}

-- opens operations, and the store of their codes
unfoldable pub executing : Type 0
unfolding run keep_source take_register execute_mov execute_comparison execute_combination execute_tst execute_modification execute_replacement store_codes
executing = Unit {0}

-- opens the operations of the extended instruction set
unfoldable pub extending : Type 0
unfolding run multiply divide shift shift_pair
extending = Unit {0}

-- opens instructions of one phase
unfoldable pub controlling : Type 0
unfolding run branch_phase subtract_one clear_codes set_codes halt wait reset
controlling = Unit {0}

-- opens jumps and returns
unfoldable pub jumping : Type 0
unfolding run aim jump take_link link set_register return_by take_mark cross keep_counter return_from_trap
jumping = Unit {0}

-- opens the sequences of traps
unfoldable pub trapping : Type 0
unfolding run lower vector_counter vector_status put_word enter bare_stack save enter_red give_up
trapping = Unit {0}

-- opens the plans of these sequences
unfoldable pub sequence_plans : Type 0
unfolding trap_plan push_plan red_plan
sequence_plans = Unit {0}
