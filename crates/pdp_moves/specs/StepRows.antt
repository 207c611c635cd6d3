-- Of which cells before a step each cell after it is made: by the row of the step's phase. No rule
-- of the handbook is here.
use Rattle.std.specs.Prelude.{List}
use Rattle.pdp_operand.specs.Handbook.Operand.{mode_now}
use Rattle.pdp_operand.specs.Phases.Phase.{State}
use Rattle.pdp_instruction.specs.Handbook.TrapSequence.{new_mode}
use Rattle.pdp_made.specs.Cells.{DataCell}
use Rattle.pdp_made.specs.EffectRows.{combination_cells, comparison_cells, modification_cells}
use Rattle.pdp_made.specs.EffectRows.{mov_cells, replacement_cells, tst_cells}
use Rattle.pdp_made.specs.InstructionRows.{aim_row, clear_codes_row, divide_row, effect_changed}
use Rattle.pdp_made.specs.InstructionRows.{keep_source_row, link_row, multiply_row}
use Rattle.pdp_made.specs.InstructionRows.{return_from_trap_row, set_codes_row, set_register_row}
use Rattle.pdp_made.specs.InstructionRows.{shift_pair_row, shift_row, store_codes_row}
use Rattle.pdp_made.specs.InstructionRows.{subtract_one_row, take_link_row, take_mark_row}
use Rattle.pdp_made.specs.InstructionRows.{take_register_row}
use Rattle.pdp_made.specs.OperandRows.{grow_row, lower_row, read_before_write_row, read_row}
use Rattle.pdp_made.specs.OperandRows.{write_row}
use Rattle.pdp_made.specs.PhaseRows.{of_itself}
use Rattle.pdp_made.specs.ReferenceRows.{Halves}
use Rattle.pdp_made.specs.TrapRows.{bare_stack_row, enter_red_row, enter_row, give_up_row}
use Rattle.pdp_made.specs.TrapRows.{put_word_row, save_row, vector_status_row}
use Rattle.pdp_steps.specs.declared.control_step.ControlStep.{ControlStep}
use Rattle.pdp_steps.specs.declared.control_step.ControlStep.TheVariants as control
use Rattle.pdp_steps.specs.declared.execute_step.ExecuteStep.{ExecuteStep}
use Rattle.pdp_steps.specs.declared.execute_step.ExecuteStep.TheVariants as execute
use Rattle.pdp_steps.specs.declared.extended_step.ExtendedStep.{ExtendedStep}
use Rattle.pdp_steps.specs.declared.extended_step.ExtendedStep.TheVariants as extended
use Rattle.pdp_steps.specs.declared.jump_step.JumpStep.{JumpStep}
use Rattle.pdp_steps.specs.declared.jump_step.JumpStep.TheVariants as jumping
use Rattle.pdp_steps.specs.declared.operand_step.OperandStep.{OperandStep}
use Rattle.pdp_steps.specs.declared.operand_step.OperandStep.TheVariants as operand
use Rattle.pdp_steps.specs.declared.step.Microstep.{Microstep}
use Rattle.pdp_steps.specs.declared.step.Microstep.TheVariants as step
use Rattle.pdp_steps.specs.declared.trap_step.TrapStep.{TrapStep}
use Rattle.pdp_steps.specs.declared.trap_step.TrapStep.TheVariants as trapping

abbrev pub made_of_operand_step : OperandStep → State → DataCell → List DataCell
made_of_operand_step (operand.Grow r step) s = (grow_row r step).made s
made_of_operand_step (operand.Shrink r step) s = (lower_row mode_now r step).made s
made_of_operand_step (operand.Read size) s = (read_row size).made s
made_of_operand_step (operand.ReadBeforeWrite size) s = (read_before_write_row size).made s
made_of_operand_step (operand.Write how) s = (write_row how).made s
made_of_operand_step (operand.NameRegister r) s = of_itself
made_of_operand_step (operand.Point r) s = of_itself
made_of_operand_step (operand.Index r) s = of_itself
made_of_operand_step operand.Indirect s = of_itself

abbrev pub made_of_execute_step : ExecuteStep → State → DataCell → List DataCell
made_of_execute_step execute.KeepSource s = keep_source_row.made s
made_of_execute_step (execute.TakeRegister size r) s = (take_register_row size r).made s
made_of_execute_step (execute.Move size) s = effect_changed (mov_cells size)
made_of_execute_step (execute.Compare c) s = effect_changed (comparison_cells c)
made_of_execute_step (execute.Combine c) s = effect_changed (combination_cells c)
made_of_execute_step (execute.Test size) s = effect_changed (tst_cells size)
made_of_execute_step (execute.Modify m) s = effect_changed (modification_cells m)
made_of_execute_step (execute.Replace r) s = effect_changed (replacement_cells r)
made_of_execute_step execute.StoreCodes s = store_codes_row.made s

abbrev pub made_of_extended_step : ExtendedStep → State → DataCell → List DataCell
made_of_extended_step (extended.Multiply r) s = (multiply_row r).made s
made_of_extended_step (extended.Divide r) s = (divide_row r).made s
made_of_extended_step (extended.Shift r) s = (shift_row r).made s
made_of_extended_step (extended.ShiftPair r) s = (shift_pair_row r).made s

abbrev pub made_of_control_step : ControlStep → State → DataCell → List DataCell
made_of_control_step (control.SubtractOne r words) s = (subtract_one_row r words).made s
made_of_control_step (control.ClearCodes mask) s = (clear_codes_row mask).made s
made_of_control_step (control.SetCodes mask) s = (set_codes_row mask).made s
made_of_control_step (control.Branch condition offset) s = of_itself
made_of_control_step control.Halt s = of_itself
made_of_control_step control.Wait s = of_itself
made_of_control_step control.Reset s = of_itself
made_of_control_step (control.Raise trap) s = of_itself

abbrev pub made_of_jump_step : JumpStep → State → DataCell → List DataCell
made_of_jump_step jumping.Aim s = aim_row.made s
made_of_jump_step (jumping.TakeLink r) s = (take_link_row r).made s
made_of_jump_step (jumping.Link r) s = (link_row r).made s
made_of_jump_step (jumping.SetRegister r) s = (set_register_row r).made s
made_of_jump_step (jumping.TakeMark words) s = (take_mark_row words).made s
made_of_jump_step jumping.ReturnFromTrap s = return_from_trap_row.made s
made_of_jump_step jumping.Jump s = of_itself
made_of_jump_step (jumping.ReturnBy r) s = of_itself
made_of_jump_step jumping.Cross s = of_itself
made_of_jump_step jumping.KeepCounter s = of_itself

-- A step that writes a word has no name for what the word is made of: a sequence writes the program
-- status word, whose codes are data, and PC, which is none.
abbrev pub made_of_trap_step : Halves → TrapStep → State → DataCell → List DataCell
made_of_trap_step from (trapping.ReadStatus vector) s = (vector_status_row vector).made s
made_of_trap_step from trapping.LowerStack s = (lower_row new_mode 6 2).made s
made_of_trap_step from (trapping.PutWord marks word) s =
    (put_word_row marks (λ _. word) from).made s
made_of_trap_step from (trapping.Save address word) s = (save_row address (λ _. word) from).made s
made_of_trap_step from (trapping.Enter context) s = (enter_row context).made s
made_of_trap_step from trapping.BareStack s = bare_stack_row.made s
made_of_trap_step from (trapping.EnterRed context) s = (enter_red_row context).made s
made_of_trap_step from (trapping.GiveUp context) s = (give_up_row context).made s
made_of_trap_step from (trapping.ReadCounter vector) s = of_itself

abbrev pub made_of_step : Halves → Microstep → State → DataCell → List DataCell
made_of_step from step.Fetch s = of_itself
made_of_step from (step.Operand taken) s = made_of_operand_step taken s
made_of_step from (step.Execute taken) s = made_of_execute_step taken s
made_of_step from (step.Extended taken) s = made_of_extended_step taken s
made_of_step from (step.Control taken) s = made_of_control_step taken s
made_of_step from (step.Jump taken) s = made_of_jump_step taken s
made_of_step from (step.Trap taken) s = made_of_trap_step from taken s
made_of_step from (step.NoteTrace instr) s = of_itself
