-- The microcode as data: the phase of each step. No rule of the handbook is here.
use Rattle.std.specs.Prelude.{ℕ, ◌<◌, None, Some}
use Rattle.pdp_word.specs.Size.{span}
use Rattle.pdp_word.specs.declared.size.Size.{Size}
use Rattle.pdp_word.specs.declared.size.Size.TheVariants.{Word}
use Rattle.pdp_action.specs.Operation.{size_of_combination}
use Rattle.pdp_action.specs.Operation.{size_of_modification, size_of_replacement}
use Rattle.pdp_alu.specs.declared.effect.Effect.{Effect}
use Rattle.pdp_decode.specs.declared.instruction.Instr.TheVariants.{Reserved}
use Rattle.pdp_io_page.specs.Handbook.Status.{status_of_word}
use Rattle.pdp_io_page.specs.declared.status.Status.{Status}
use Rattle.pdp_operand.specs.Handbook.Operand.{grow, index, indirect, lower, mode_now}
use Rattle.pdp_operand.specs.Handbook.Operand.{name_register, point, read_before_write}
use Rattle.pdp_operand.specs.Handbook.Operand.{read_operand, size_of_fill, write_operand}
use Rattle.pdp_operand.specs.Phases.Phase.{Latch, Phase, raising}
use Rattle.pdp_operand.specs.declared.place.Place.TheVariants.{Reg}
use Rattle.pdp_operand.specs.declared.processor.RegisterId.TheVariants.{R0}
use Rattle.pdp_instruction.specs.Handbook.Branch.{branch_phase, subtract_one}
use Rattle.pdp_instruction.specs.Handbook.ChangeCodes.{clear_codes, set_codes}
use Rattle.pdp_instruction.specs.Handbook.Control.{halt, reset, wait}
use Rattle.pdp_instruction.specs.Handbook.Execute.{store_codes}
use Rattle.pdp_instruction.specs.Handbook.Extended.{divide, multiply, shift, shift_pair}
use Rattle.pdp_instruction.specs.Handbook.Instruction.{fetch_instruction, note_trace}
use Rattle.pdp_instruction.specs.Handbook.Jump.{aim, jump, link, return_by, set_register}
use Rattle.pdp_instruction.specs.Handbook.Jump.{take_link, take_mark}
use Rattle.pdp_instruction.specs.Handbook.Moves.{execute_mov}
use Rattle.pdp_instruction.specs.Handbook.OneOperand.{execute_modification, execute_replacement}
use Rattle.pdp_instruction.specs.Handbook.OneOperand.{execute_tst}
use Rattle.pdp_instruction.specs.Handbook.Operands.{keep_source, take_register}
use Rattle.pdp_instruction.specs.Handbook.PreviousMode.{cross}
use Rattle.pdp_instruction.specs.Handbook.ReturnFromTrap.{keep_counter, return_from_trap}
use Rattle.pdp_instruction.specs.Handbook.TrapSequence.{bare_stack, enter, enter_red, give_up}
use Rattle.pdp_instruction.specs.Handbook.TrapSequence.{new_mode, put_word, save, vector_counter}
use Rattle.pdp_instruction.specs.Handbook.TrapSequence.{vector_status}
use Rattle.pdp_instruction.specs.Handbook.TwoOperands.{execute_combination, execute_comparison}
use Rattle.pdp_instruction.specs.declared.saved_context.SavedContext.{SavedContext}
use Rattle.pdp_steps.specs.declared.control_step.ControlStep.{ControlStep}
use Rattle.pdp_steps.specs.declared.control_step.ControlStep.TheVariants as control
use Rattle.pdp_steps.specs.declared.execute_step.ExecuteStep.{ExecuteStep}
use Rattle.pdp_steps.specs.declared.execute_step.ExecuteStep.TheVariants as execute
use Rattle.pdp_steps.specs.declared.extended_step.ExtendedStep.{ExtendedStep}
use Rattle.pdp_steps.specs.declared.extended_step.ExtendedStep.TheVariants as extended
use Rattle.pdp_steps.specs.declared.jump_step.JumpStep.{JumpStep}
use Rattle.pdp_steps.specs.declared.jump_step.JumpStep.TheVariants as jumping
use Rattle.pdp_steps.specs.declared.operand_step.OperandStep.{OperandStep}
use Rattle.pdp_steps.specs.declared.operand_step.OperandStep.TheVariants as operand
use Rattle.pdp_steps.specs.declared.step.Microstep.{Microstep}
use Rattle.pdp_steps.specs.declared.step.Microstep.TheVariants as step
use Rattle.pdp_steps.specs.declared.step_latch.StepLatch.{StepLatch}
use Rattle.pdp_steps.specs.declared.trap_step.TrapStep.{TrapStep}
use Rattle.pdp_steps.specs.declared.trap_step.TrapStep.TheVariants as trapping

-- The latch of phases that a step's latch is.
abbrev pub latch_of : StepLatch → Latch
latch_of latch = record {
  place = latch.place;
  value = latch.value;
  source = latch.source;
  result = latch.result;
  codes = latch.codes;
  instr = latch.instr;
  counter = latch.counter;
  status = latch.status;
}

-- The latch before the first phase.
abbrev pub empty_latch : Latch
empty_latch = record {
  place = Reg R0;
  value = 0;
  source = 0;
  result = 0;
  codes = None;
  instr = Reserved;
  counter = 0;
  status = 0;
}

abbrev pub latch_with_source : StepLatch → ℕ → StepLatch
latch_with_source latch word = record latch { value = word; source = word }

abbrev pub latch_with_effect : StepLatch → Effect → StepLatch
latch_with_effect latch effect = record latch { result = effect.value; codes = Some effect.codes }

-- the program status that a trap's word gives
abbrev pub entered_status : SavedContext → ℕ → Status
entered_status context word = record (status_of_word word) { previous = context.status.mode }

-- The phases.
abbrev pub phase_of_operand_step : OperandStep → Phase
phase_of_operand_step (operand.NameRegister r) = name_register r
phase_of_operand_step (operand.Point r) = point r
phase_of_operand_step (operand.Grow r step) = grow r step
phase_of_operand_step (operand.Shrink r step) = lower mode_now r step
phase_of_operand_step (operand.Index r) = index r
phase_of_operand_step operand.Indirect = indirect
phase_of_operand_step (operand.Read size) = read_operand size
phase_of_operand_step (operand.ReadBeforeWrite size) = read_before_write size
phase_of_operand_step (operand.Write how) = write_operand how

abbrev pub phase_of_execute_step : ExecuteStep → Phase
phase_of_execute_step execute.KeepSource = keep_source
phase_of_execute_step (execute.TakeRegister size r) = take_register size r
phase_of_execute_step (execute.Move size) = execute_mov size
phase_of_execute_step (execute.Compare comparison) = execute_comparison comparison
phase_of_execute_step (execute.Combine combination) = execute_combination combination
phase_of_execute_step (execute.Test size) = execute_tst size
phase_of_execute_step (execute.Modify modification) = execute_modification modification
phase_of_execute_step (execute.Replace replacement) = execute_replacement replacement
phase_of_execute_step execute.StoreCodes = store_codes

abbrev pub phase_of_extended_step : ExtendedStep → Phase
phase_of_extended_step (extended.Multiply r) = multiply r
phase_of_extended_step (extended.Divide r) = divide r
phase_of_extended_step (extended.Shift r) = shift r
phase_of_extended_step (extended.ShiftPair r) = shift_pair r

abbrev pub phase_of_control_step : ControlStep → Phase
phase_of_control_step (control.Branch condition offset) = branch_phase condition offset
phase_of_control_step (control.SubtractOne r words) = subtract_one r words
phase_of_control_step (control.ClearCodes mask) = clear_codes mask
phase_of_control_step (control.SetCodes mask) = set_codes mask
phase_of_control_step control.Halt = halt
phase_of_control_step control.Wait = wait
phase_of_control_step control.Reset = reset
phase_of_control_step (control.Raise trap) = raising trap

abbrev pub phase_of_jump_step : JumpStep → Phase
phase_of_jump_step jumping.Aim = aim
phase_of_jump_step jumping.Jump = jump
phase_of_jump_step (jumping.TakeLink r) = take_link r
phase_of_jump_step (jumping.Link r) = link r
phase_of_jump_step (jumping.SetRegister r) = set_register r
phase_of_jump_step (jumping.ReturnBy r) = return_by r
phase_of_jump_step (jumping.TakeMark words) = take_mark words
phase_of_jump_step jumping.Cross = cross
phase_of_jump_step jumping.KeepCounter = keep_counter
phase_of_jump_step jumping.ReturnFromTrap = return_from_trap

abbrev pub phase_of_trap_step : TrapStep → Phase
phase_of_trap_step (trapping.ReadCounter vector) = vector_counter vector
phase_of_trap_step (trapping.ReadStatus vector) = vector_status vector
phase_of_trap_step trapping.LowerStack = lower new_mode 6 2
phase_of_trap_step (trapping.PutWord marks word) = put_word marks word
phase_of_trap_step (trapping.Enter context) = enter context
phase_of_trap_step trapping.BareStack = bare_stack
phase_of_trap_step (trapping.Save address word) = save address word
phase_of_trap_step (trapping.EnterRed context) = enter_red context
phase_of_trap_step (trapping.GiveUp context) = give_up context

abbrev pub phase_of : Microstep → Phase
phase_of step.Fetch = fetch_instruction
phase_of (step.Operand s) = phase_of_operand_step s
phase_of (step.Execute s) = phase_of_execute_step s
phase_of (step.Extended s) = phase_of_extended_step s
phase_of (step.Control s) = phase_of_control_step s
phase_of (step.Jump s) = phase_of_jump_step s
phase_of (step.Trap s) = phase_of_trap_step s
phase_of (step.NoteTrace instr) = note_trace instr

-- What is needed so that a step can be run: what is written fits, and the word after a vector has
-- an address.
abbrev pub CanWrite : OperandStep → StepLatch → Type 0
CanWrite (operand.Write how) latch = latch.result < span (size_of_fill how)
CanWrite step latch = Unit {0}

abbrev pub HasStatus : TrapStep → Type 0
HasStatus (trapping.ReadStatus vector) = vector < 0o1000
HasStatus step = Unit {0}

abbrev pub CanRun : Microstep → StepLatch → Type 0
CanRun (step.Operand s) latch = CanWrite s latch
CanRun (step.Trap s) latch = HasStatus s
CanRun s latch = Unit {0}

-- the size of what is to be written after a step: that of the operation, or that from before
abbrev pub size_after_execute_step : ExecuteStep → Size → Size
size_after_execute_step (execute.Move size) old = size
size_after_execute_step (execute.Compare comparison) old = Word
size_after_execute_step (execute.Combine combination) old = size_of_combination combination
size_after_execute_step (execute.Test size) old = size
size_after_execute_step (execute.Modify modification) old = size_of_modification modification
size_after_execute_step (execute.Replace replacement) old = size_of_replacement replacement
size_after_execute_step step old = old

abbrev pub size_after_jump_step : JumpStep → Size → Size
size_after_jump_step (jumping.TakeLink r) old = Word
size_after_jump_step step old = old

abbrev pub size_after : Microstep → Size → Size
size_after (step.Execute s) old = size_after_execute_step s old
size_after (step.Jump s) old = size_after_jump_step s old
size_after s old = old
