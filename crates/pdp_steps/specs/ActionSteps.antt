-- The steps of each action, in the order of its plan. No rule of the handbook is here.
use Rattle.std.specs.Prelude.{ℕ, List, [], ◌∷◌, ◌++◌, if◌then◌else◌}
use Rattle.pdp_word.specs.declared.size.Size.{Size}
use Rattle.pdp_word.specs.declared.size.Size.TheVariants.{Word, Byte}
use Rattle.pdp_action.specs.Operation.{size_of_combination, size_of_comparison}
use Rattle.pdp_action.specs.Operation.{size_of_modification, size_of_replacement}
use Rattle.pdp_action.specs.declared.action.Action.{Action}
use Rattle.pdp_action.specs.declared.action.Action.TheVariants as action
use Rattle.pdp_decode.specs.Fields.{register_number}
use Rattle.pdp_decode.specs.declared.instruction.Specifier.{Specifier}
use Rattle.pdp_decode.specs.declared.instruction.Specifier.TheVariants as mode
use Rattle.pdp_operand.specs.Handbook.Operand.{fill_of, step_of}
use Rattle.pdp_operand.specs.declared.place.Fill.{Fill}
use Rattle.pdp_operand.specs.declared.place.Fill.TheVariants.{Whole, Extended}
use Rattle.pdp_instruction.specs.Handbook.Jump.{pop, push}
use Rattle.pdp_instruction.specs.Handbook.Operands.{is_late}
use Rattle.pdp_steps.specs.declared.control_step.ControlStep.{ControlStep}
use Rattle.pdp_steps.specs.declared.control_step.ControlStep.TheVariants as control
use Rattle.pdp_steps.specs.declared.execute_step.ExecuteStep.{ExecuteStep}
use Rattle.pdp_steps.specs.declared.execute_step.ExecuteStep.TheVariants as execute
use Rattle.pdp_steps.specs.declared.extended_step.ExtendedStep.{ExtendedStep}
use Rattle.pdp_steps.specs.declared.extended_step.ExtendedStep.TheVariants as extended
use Rattle.pdp_steps.specs.declared.jump_step.JumpStep.{JumpStep}
use Rattle.pdp_steps.specs.declared.jump_step.JumpStep.TheVariants as jumping
use Rattle.pdp_steps.specs.declared.operand_step.OperandStep.TheVariants as operand
use Rattle.pdp_steps.specs.declared.step.Microstep.{Microstep}
use Rattle.pdp_steps.specs.declared.step.Microstep.TheVariants as step

-- an operand is found
abbrev pub find_steps : Size → Specifier → List Microstep
find_steps size (mode.Register r) = step.Operand (operand.NameRegister r) ∷ []
find_steps size (mode.Deferred r) = step.Operand (operand.Point r) ∷ []
find_steps size (mode.Autoincrement r) = step.Operand (operand.Grow r (step_of size r)) ∷ []
find_steps size (mode.AutoincrementDeferred r) =
    step.Operand (operand.Grow r 2) ∷ step.Operand operand.Indirect ∷ []
find_steps size (mode.Autodecrement r) = step.Operand (operand.Shrink r (step_of size r)) ∷ []
find_steps size (mode.AutodecrementDeferred r) =
    step.Operand (operand.Shrink r 2) ∷ step.Operand operand.Indirect ∷ []
find_steps size (mode.Index r) = step.Operand (operand.Index r) ∷ []
find_steps size (mode.IndexDeferred r) =
    step.Operand (operand.Index r) ∷ step.Operand operand.Indirect ∷ []

-- single steps
abbrev pub read_step : Size → Microstep
read_step size = step.Operand (operand.Read size)

abbrev pub read_first_step : Size → Microstep
read_first_step size = step.Operand (operand.ReadBeforeWrite size)

abbrev pub write_step : Fill → Microstep
write_step how = step.Operand (operand.Write how)

abbrev pub keep_step : Microstep
keep_step = step.Execute execute.KeepSource

abbrev pub store_step : Microstep
store_step = step.Execute execute.StoreCodes

abbrev pub take_step : Size → Specifier → Microstep
take_step size source = step.Execute (execute.TakeRegister size (register_number source))

abbrev pub source_first_steps : Size → Specifier → Specifier → List Microstep
source_first_steps size source destination =
    find_steps size source ++ read_step size ∷ keep_step ∷ find_steps size destination

-- the source is read, and the destination's place is found
abbrev pub operands_steps : Size → Specifier → Specifier → List Microstep
operands_steps size source destination =
    if is_late source destination
    then find_steps size destination ++ take_step size source ∷ []
    else source_first_steps size source destination

-- an operation, whose result is written, and whose codes are stored
abbrev pub finish_steps : ExecuteStep → Fill → List Microstep
finish_steps operation how = step.Execute operation ∷ write_step how ∷ store_step ∷ []

abbrev pub move_steps : Size → Fill → Specifier → Specifier → List Microstep
move_steps size how source destination =
    operands_steps size source destination ++ finish_steps (execute.Move size) how

-- the operand is read, and an operation leaves codes alone
abbrev pub test_steps : Size → Microstep → List Microstep
test_steps size operation = read_step size ∷ operation ∷ store_step ∷ []

-- the operand is read, and the result of an operation is written in its place
abbrev pub change_steps : Size → ExecuteStep → List Microstep
change_steps size operation = read_first_step size ∷ finish_steps operation (fill_of size)

-- a register is popped
abbrev pub pop_steps : ℕ → List Microstep
pop_steps r = find_steps Word pop ++ read_step Word ∷ step.Jump (jumping.SetRegister r) ∷ []

abbrev pub jump_to_subroutine_steps : ℕ → Specifier → List Microstep
jump_to_subroutine_steps r destination =
    find_steps Word destination
    ++ (step.Jump jumping.Aim ∷ find_steps Word push
    ++ (step.Jump (jumping.TakeLink r) ∷ write_step Whole ∷ step.Jump (jumping.Link r) ∷ []))

abbrev pub from_previous_steps : Specifier → List Microstep
from_previous_steps source =
    find_steps Word source
    ++ (step.Jump jumping.Cross ∷ read_step Word ∷ keep_step ∷ find_steps Word push
    ++ finish_steps (execute.Move Word) Whole)

abbrev pub to_previous_steps : Specifier → List Microstep
to_previous_steps destination =
    find_steps Word pop ++ (read_step Word ∷ keep_step ∷ find_steps Word destination
    ++ (step.Jump jumping.Cross ∷ finish_steps (execute.Move Word) Whole))

abbrev pub return_steps : List Microstep
return_steps =
    find_steps Word pop ++ (read_step Word ∷ step.Jump jumping.KeepCounter ∷ find_steps Word pop
    ++ (read_step Word ∷ step.Jump jumping.ReturnFromTrap ∷ []))

abbrev pub extended_steps : ExtendedStep → Specifier → List Microstep
extended_steps operation source =
    find_steps Word source ++ test_steps Word (step.Extended operation)

abbrev pub control_steps : ControlStep → List Microstep
control_steps s = step.Control s ∷ []

-- the steps of each action
abbrev pub steps_of_action : Action → List Microstep
steps_of_action action.Halt = control_steps control.Halt
steps_of_action action.Wait = control_steps control.Wait
steps_of_action action.Reset = control_steps control.Reset
steps_of_action action.ReturnFromTrap = return_steps
steps_of_action (action.Raise trap) = control_steps (control.Raise trap)
steps_of_action (action.Jump destination) =
    find_steps Word destination ++ step.Jump jumping.Aim ∷ step.Jump jumping.Jump ∷ []
steps_of_action (action.JumpToSubroutine r destination) = jump_to_subroutine_steps r destination
steps_of_action (action.ReturnFromSubroutine r) = step.Jump (jumping.ReturnBy r) ∷ pop_steps r
steps_of_action (action.Mark words) = step.Jump (jumping.TakeMark words) ∷ pop_steps 5
steps_of_action (action.SubtractOne r words) = control_steps (control.SubtractOne r words)
steps_of_action (action.ClearCodes mask) = control_steps (control.ClearCodes mask)
steps_of_action (action.SetCodes mask) = control_steps (control.SetCodes mask)
steps_of_action (action.Branch condition offset) =
    control_steps (control.Branch condition offset)
steps_of_action (action.Move source destination) = move_steps Word Whole source destination
steps_of_action (action.MoveByte source destination) = move_steps Byte Extended source destination
steps_of_action (action.Compare c source destination) =
    operands_steps (size_of_comparison c) source destination
    ++ test_steps (size_of_comparison c) (step.Execute (execute.Compare c))
steps_of_action (action.Combine c source destination) =
    operands_steps (size_of_combination c) source destination
    ++ change_steps (size_of_combination c) (execute.Combine c)
steps_of_action (action.Modify m destination) =
    find_steps (size_of_modification m) destination
    ++ change_steps (size_of_modification m) (execute.Modify m)
steps_of_action (action.Replace r destination) =
    find_steps (size_of_replacement r) destination
    ++ finish_steps (execute.Replace r) (fill_of (size_of_replacement r))
steps_of_action (action.Test size destination) =
    find_steps size destination ++ test_steps size (step.Execute (execute.Test size))
steps_of_action (action.MoveFromPrevious source) = from_previous_steps source
steps_of_action (action.MoveToPrevious destination) = to_previous_steps destination
steps_of_action (action.Multiply r source) = extended_steps (extended.Multiply r) source
steps_of_action (action.Divide r source) = extended_steps (extended.Divide r) source
steps_of_action (action.Shift r source) = extended_steps (extended.Shift r) source
steps_of_action (action.ShiftPair r source) = extended_steps (extended.ShiftPair r) source
