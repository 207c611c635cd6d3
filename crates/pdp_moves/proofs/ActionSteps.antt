-- The rows of the steps of an action are the rows of the action.
use Rattle.std.proofs.Common.{◌≡◌, ◌∙◌, ◌+◌, ℕ, Bool, true, false, List, [], ◌∷◌, ◌++◌, None, map, refl, ap, if◌then◌else◌}
use Rattle.pdp_word.specs.declared.size.Size.{Size}
use Rattle.pdp_word.specs.declared.size.Size.TheVariants.{Word, Byte}
use Rattle.pdp_action.specs.Operation.{size_of_combination, size_of_comparison, size_of_modification, size_of_replacement}
use Rattle.pdp_action.specs.declared.action.Action.{Action}
use Rattle.pdp_action.specs.declared.action.Action.TheVariants as action
use Rattle.pdp_decode.specs.Fields.{register_number}
use Rattle.pdp_decode.specs.declared.instruction.Specifier.{Specifier}
use Rattle.pdp_decode.specs.declared.instruction.Specifier.TheVariants.{Register, Deferred, Autoincrement, AutoincrementDeferred, Autodecrement, AutodecrementDeferred, Index, IndexDeferred}
use Rattle.pdp_operand.specs.declared.place.Fill.TheVariants.{Whole}
use Rattle.pdp_instruction.specs.Handbook.Jump.{pop, push}
use Rattle.pdp_instruction.specs.Handbook.Operands.{is_late}
use Rattle.pdp_made.specs.InstructionRows.{keep_source_row, operands_rows, rows_of_action, take_register_row}
use Rattle.pdp_made.specs.OperandRows.{find_rows, read_row}
use Rattle.pdp_made.specs.PhaseRows.{PhaseRow}
use Rattle.pdp_made.specs.ReferenceRows.{of_nothing}
use Rattle.pdp_steps.specs.ActionSteps.{find_steps, finish_steps, keep_step, operands_steps, read_step, source_first_steps, steps_of_action, take_step, write_step}
use Rattle.pdp_steps.specs.declared.execute_step.ExecuteStep.TheVariants as execute
use Rattle.pdp_steps.specs.declared.jump_step.JumpStep.TheVariants as jumping
use Rattle.pdp_steps.specs.declared.step.Microstep.{Microstep}
use Rattle.pdp_steps.specs.declared.step.Microstep.TheVariants as step
use Rattle.pdp_moves.specs.PlanRows.{row_of_step, rows_from, rows_of_steps}

-- none of the steps writes what a sequence saves
abbrev rows_alone : List Microstep → List PhaseRow
rows_alone steps = map (row_of_step of_nothing) steps

alone : (n : ℕ) (steps : List Microstep) → rows_from None n steps ≡ rows_alone steps
alone n [] = refl
alone n (step ∷ steps) = ap (λ rows. row_of_step of_nothing step ∷ rows) (alone (n + 1) steps)

append_rows : (xs ys : List Microstep) → rows_alone (xs ++ ys) ≡ rows_alone xs ++ rows_alone ys
append_rows [] ys = refl
append_rows (x ∷ xs) ys = ap (λ rows. row_of_step of_nothing x ∷ rows) (append_rows xs ys)

found : (size : Size) (spec : Specifier) → rows_alone (find_steps size spec) ≡ find_rows size spec
found size (Register r) = refl
found size (Deferred r) = refl
found size (Autoincrement r) = refl
found size (AutoincrementDeferred r) = refl
found size (Autodecrement r) = refl
found size (AutodecrementDeferred r) = refl
found size (Index r) = refl
found size (IndexDeferred r) = refl

-- an operand is found, and then these
found_first : (size : Size) (spec : Specifier) (steps : List Microstep)
    → rows_alone (find_steps size spec ++ steps) ≡ find_rows size spec ++ rows_alone steps
found_first size spec steps = append_rows (find_steps size spec) steps ∙ ap (λ rows. rows ++ rows_alone steps) (found size spec)

operands_if : (late : Bool) (size : Size) (source destination : Specifier)
    → rows_alone (if late then find_steps size destination ++ take_step size source ∷ [] else source_first_steps size source destination)
    ≡ (if late then find_rows size destination ++ take_register_row size (register_number source) ∷ []
    else find_rows size source ++ read_row size ∷ keep_source_row ∷ find_rows size destination)
operands_if true size source destination = found_first size destination (take_step size source ∷ [])
operands_if false size source destination =
    found_first size source (read_step size ∷ keep_step ∷ find_steps size destination)
    ∙ ap (λ rows. find_rows size source ++ read_row size ∷ keep_source_row ∷ rows) (found size destination)

operands : (size : Size) (source destination : Specifier) (steps : List Microstep)
    → rows_alone (operands_steps size source destination ++ steps) ≡ operands_rows size source destination ++ rows_alone steps
operands size source destination steps =
    append_rows (operands_steps size source destination) steps
    ∙ ap (λ rows. rows ++ rows_alone steps) (operands_if (is_late source destination) size source destination)

each_action : (a : Action) → rows_alone (steps_of_action a) ≡ rows_of_action a
each_action action.Halt = refl
each_action action.Wait = refl
each_action action.Reset = refl
each_action action.ReturnFromTrap = refl
each_action (action.Raise cause) = refl
each_action (action.Jump destination) = found_first Word destination (step.Jump jumping.Aim ∷ step.Jump jumping.Jump ∷ [])
each_action (action.JumpToSubroutine register destination) =
    found_first Word destination (step.Jump jumping.Aim ∷ find_steps Word push ++ (step.Jump (jumping.TakeLink register) ∷ write_step Whole ∷ step.Jump (jumping.Link register) ∷ []))
each_action (action.ReturnFromSubroutine register) = refl
each_action (action.Mark words) = refl
each_action (action.SubtractOne register words) = refl
each_action (action.ClearCodes mask) = refl
each_action (action.SetCodes mask) = refl
each_action (action.Branch condition offset) = refl
each_action (action.Move source destination) = operands Word source destination _
each_action (action.MoveByte source destination) = operands Byte source destination _
each_action (action.Compare c source destination) = operands (size_of_comparison c) source destination _
each_action (action.Combine c source destination) = operands (size_of_combination c) source destination _
each_action (action.Modify m destination) = found_first (size_of_modification m) destination _
each_action (action.Replace r destination) = found_first (size_of_replacement r) destination _
each_action (action.Test size destination) = found_first size destination _
each_action (action.MoveFromPrevious source) =
    found_first Word source (step.Jump jumping.Cross ∷ read_step Word ∷ keep_step ∷ find_steps Word push ++ finish_steps (execute.Move Word) Whole)
each_action (action.MoveToPrevious destination) =
    ap (λ rows. find_rows Word pop ++ (read_row Word ∷ keep_source_row ∷ rows))
    (found_first Word destination (step.Jump jumping.Cross ∷ finish_steps (execute.Move Word) Whole))
each_action (action.Multiply register source) = found_first Word source _
each_action (action.Divide register source) = found_first Word source _
each_action (action.Shift register source) = found_first Word source _
each_action (action.ShiftPair register source) = found_first Word source _

pub action_rows : (a : Action) → rows_of_steps None (steps_of_action a) ≡ rows_of_action a
action_rows a = alone 0 (steps_of_action a) ∙ each_action a
