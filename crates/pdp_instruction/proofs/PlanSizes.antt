-- How many phases the plan of each action has.
use Rattle.std.proofs.Common.{ℕ, ◌≤◌, arith, Bool, true, false, if◌then◌else◌}
use Rattle.pdp_decode.specs.declared.instruction.Instr.{Instr}
use Rattle.pdp_decode.specs.declared.instruction.Specifier.{Specifier}
use Rattle.pdp_word.specs.declared.size.Size.{Size}
use Rattle.pdp_word.specs.declared.size.Size.TheVariants.{Word, Byte}
use Rattle.pdp_operand.specs.Phases.Plan.{Plan}
use Rattle.pdp_operand.proofs.Bound.{size_of, size_of_find}
use Rattle.pdp_instruction.specs.Handbook.Branch.{branch_plan, sob_plan}
use Rattle.pdp_instruction.specs.Handbook.ChangeCodes.{clear_plan, set_plan}
use Rattle.pdp_instruction.specs.Handbook.Control.{halt_plan, wait_plan, reset_plan, raise_plan}
use Rattle.pdp_instruction.specs.Handbook.ReturnFromTrap.{return_plan}
use Rattle.pdp_instruction.specs.Handbook.TwoOperands.{compare_plan, combine_plan}
use Rattle.pdp_instruction.specs.Handbook.Execute.{finish_plan}
use Rattle.pdp_instruction.specs.Handbook.Extended.{mul_plan, div_plan, ash_plan, ashc_plan}
use Rattle.pdp_instruction.specs.Handbook.Action.{plan_of_action, plan_of}
use Rattle.pdp_action.specs.Action.{action_of}
use Rattle.pdp_action.specs.declared.action.Action.{Action}
use Rattle.pdp_action.specs.declared.action.Action.TheVariants as action
use Rattle.pdp_instruction.specs.Handbook.Jump.{jmp_plan, jsr_plan, rts_plan, mark_plan, pop_register, push, pop}
use Rattle.pdp_instruction.specs.Handbook.Moves.{mov_plan, movb_plan}
use Rattle.pdp_instruction.specs.Handbook.PreviousMode.{mfpi_plan, mtpi_plan}
use Rattle.pdp_instruction.specs.Handbook.Operands.{operands_plan, source_first, place_first, is_late}
use Rattle.pdp_action.specs.Operation.{size_of_comparison, size_of_combination, size_of_modification, size_of_replacement}
use Rattle.pdp_instruction.specs.Handbook.OneOperand.{tst_plan, modify_plan, replace_plan}
use Rattle.pdp_action.specs.declared.operation.Combination.{Combination}
use Rattle.pdp_action.specs.declared.operation.Comparison.{Comparison}
use Rattle.pdp_action.specs.declared.operation.Modification.{Modification}
use Rattle.pdp_action.specs.declared.operation.Replacement.{Replacement}

size_when : (late : Bool) (a b : Plan) (n : ℕ) → size_of a ≤ n → size_of b ≤ n → size_of (if late then a else b) ≤ n
size_when true a b n first second = first
size_when false a b n first second = second

size_of_operands : (size : Size) (source destination : Specifier) → size_of (operands_plan size source destination) ≤ 8
unfolding operands_plan source_first place_first
size_of_operands size source destination =
    size_when (is_late source destination) _ _ 8
    (omega (arith, size_of_find size destination))
    (omega (arith, size_of_find size source, size_of_find size destination))

size_of_mov : (source destination : Specifier) → size_of (mov_plan source destination) ≤ 12
unfolding mov_plan finish_plan
size_of_mov source destination = omega (arith, size_of_operands Word source destination)

size_of_movb : (source destination : Specifier) → size_of (movb_plan source destination) ≤ 12
unfolding movb_plan finish_plan
size_of_movb source destination = omega (arith, size_of_operands Byte source destination)

size_of_compare : (c : Comparison) (source destination : Specifier) → size_of (compare_plan c source destination) ≤ 12
unfolding compare_plan
size_of_compare c source destination = omega (arith, size_of_operands (size_of_comparison c) source destination)

size_of_combine : (c : Combination) (source destination : Specifier) → size_of (combine_plan c source destination) ≤ 12
unfolding combine_plan finish_plan
size_of_combine c source destination = omega (arith, size_of_operands (size_of_combination c) source destination)

size_of_modify : (m : Modification) (destination : Specifier) → size_of (modify_plan m destination) ≤ 12
unfolding modify_plan finish_plan
size_of_modify m destination = omega (arith, size_of_find (size_of_modification m) destination)

size_of_replace : (r : Replacement) (destination : Specifier) → size_of (replace_plan r destination) ≤ 12
unfolding replace_plan finish_plan
size_of_replace r destination = omega (arith, size_of_find (size_of_replacement r) destination)

size_of_tst : (size : Size) (destination : Specifier) → size_of (tst_plan size destination) ≤ 12
unfolding tst_plan
size_of_tst size destination = omega (arith, size_of_find size destination)

size_of_jmp : (destination : Specifier) → size_of (jmp_plan destination) ≤ 12
unfolding jmp_plan
size_of_jmp destination = omega (arith, size_of_find Word destination)

size_of_jsr : (register : ℕ) (destination : Specifier) → size_of (jsr_plan register destination) ≤ 12
unfolding jsr_plan
size_of_jsr register destination = omega (arith, size_of_find Word destination, size_of_find Word push)

size_of_rts : (register : ℕ) → size_of (rts_plan register) ≤ 12
unfolding rts_plan pop_register
size_of_rts register = omega (arith, size_of_find Word pop)

size_of_mark : (words : ℕ) → size_of (mark_plan words) ≤ 12
unfolding mark_plan pop_register
size_of_mark words = omega (arith, size_of_find Word pop)

size_of_mul : (register : ℕ) (source : Specifier) → size_of (mul_plan register source) ≤ 12
unfolding mul_plan
size_of_mul register source = omega (arith, size_of_find Word source)

size_of_div : (register : ℕ) (source : Specifier) → size_of (div_plan register source) ≤ 12
unfolding div_plan
size_of_div register source = omega (arith, size_of_find Word source)

size_of_ash : (register : ℕ) (source : Specifier) → size_of (ash_plan register source) ≤ 12
unfolding ash_plan
size_of_ash register source = omega (arith, size_of_find Word source)

size_of_ashc : (register : ℕ) (source : Specifier) → size_of (ashc_plan register source) ≤ 12
unfolding ashc_plan
size_of_ashc register source = omega (arith, size_of_find Word source)

size_of_return : size_of return_plan ≤ 12
unfolding return_plan
size_of_return = omega (arith, size_of_find Word pop)

size_of_mfpi : (source : Specifier) → size_of (mfpi_plan source) ≤ 12
unfolding mfpi_plan finish_plan
size_of_mfpi source = omega (arith, size_of_find Word source, size_of_find Word push)

size_of_mtpi : (destination : Specifier) → size_of (mtpi_plan destination) ≤ 12
unfolding mtpi_plan finish_plan
size_of_mtpi destination = omega (arith, size_of_find Word pop, size_of_find Word destination)

-- the plan of an action has at most twelve phases
size_of_action : (a : Action) → size_of (plan_of_action a) ≤ 12
unfolding halt_plan wait_plan reset_plan raise_plan branch_plan sob_plan clear_plan set_plan
size_of_action action.Halt = omega arith
size_of_action action.Wait = omega arith
size_of_action action.Reset = omega arith
size_of_action action.ReturnFromTrap = size_of_return
size_of_action (action.Raise trap) = omega arith
size_of_action (action.Jump destination) = size_of_jmp destination
size_of_action (action.JumpToSubroutine register destination) = size_of_jsr register destination
size_of_action (action.ReturnFromSubroutine register) = size_of_rts register
size_of_action (action.Mark words) = size_of_mark words
size_of_action (action.SubtractOne register words) = omega arith
size_of_action (action.ClearCodes mask) = omega arith
size_of_action (action.SetCodes mask) = omega arith
size_of_action (action.Branch condition offset) = omega arith
size_of_action (action.Move source destination) = size_of_mov source destination
size_of_action (action.MoveByte source destination) = size_of_movb source destination
size_of_action (action.Compare c source destination) = size_of_compare c source destination
size_of_action (action.Combine c source destination) = size_of_combine c source destination
size_of_action (action.Modify m destination) = size_of_modify m destination
size_of_action (action.Replace r destination) = size_of_replace r destination
size_of_action (action.Test size destination) = size_of_tst size destination
size_of_action (action.MoveFromPrevious source) = size_of_mfpi source
size_of_action (action.MoveToPrevious destination) = size_of_mtpi destination
size_of_action (action.Multiply register source) = size_of_mul register source
size_of_action (action.Divide register source) = size_of_div register source
size_of_action (action.Shift register source) = size_of_ash register source
size_of_action (action.ShiftPair register source) = size_of_ashc register source

pub size_of_plan : (instr : Instr) → size_of (plan_of instr) ≤ 12
size_of_plan instr = size_of_action (action_of instr)
