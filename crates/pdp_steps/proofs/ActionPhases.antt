-- The steps of each action are the phases of its plan, and can be run in their order.
use Rattle.std.proofs.Common.{◌≡◌, ◌∙◌, ℕ, Bool, true, false, List, [], ◌∷◌, ◌++◌, refl, ap, map, if◌then◌else◌}
use Rattle.pdp_word.specs.declared.size.Size.{Size}
use Rattle.pdp_word.specs.declared.size.Size.TheVariants.{Word, Byte}
use Rattle.pdp_action.specs.Operation.{size_of_combination, size_of_comparison, size_of_modification, size_of_replacement}
use Rattle.pdp_action.specs.declared.action.Action.{Action}
use Rattle.pdp_action.specs.declared.action.Action.TheVariants as action
use Rattle.pdp_decode.specs.declared.instruction.Specifier.{Specifier}
use Rattle.pdp_decode.specs.declared.instruction.Specifier.TheVariants.{Register, Deferred, Autoincrement, AutoincrementDeferred, Autodecrement, AutodecrementDeferred, Index, IndexDeferred}
use Rattle.pdp_operand.specs.Handbook.Operand.{fill_of, find, read_operand}
use Rattle.pdp_operand.specs.Phases.Plan.{phases_of}
use Rattle.pdp_operand.specs.declared.place.Fill.TheVariants.{Whole}
use Rattle.pdp_instruction.specs.Handbook.Action.{plan_of_action}
use Rattle.pdp_instruction.specs.Handbook.Branch.{branch_plan, sob_plan}
use Rattle.pdp_instruction.specs.Handbook.ChangeCodes.{clear_plan, set_plan}
use Rattle.pdp_instruction.specs.Handbook.Control.{halt_plan, raise_plan, reset_plan, wait_plan}
use Rattle.pdp_instruction.specs.Handbook.Execute.{finish_plan}
use Rattle.pdp_instruction.specs.Handbook.Extended.{ash_plan, ashc_plan, div_plan, mul_plan}
use Rattle.pdp_instruction.specs.Handbook.Jump.{jmp_plan, jsr_plan, mark_plan, pop, pop_register, push, rts_plan}
use Rattle.pdp_instruction.specs.Handbook.Moves.{mov_plan, movb_plan}
use Rattle.pdp_instruction.specs.Handbook.OneOperand.{modify_plan, replace_plan, tst_plan}
use Rattle.pdp_instruction.specs.Handbook.Operands.{is_late, keep_source, operands_plan, place_first, source_first}
use Rattle.pdp_instruction.specs.Handbook.PreviousMode.{mfpi_plan, mtpi_plan}
use Rattle.pdp_instruction.specs.Handbook.ReturnFromTrap.{return_plan}
use Rattle.pdp_instruction.specs.Handbook.TwoOperands.{combine_plan, compare_plan}
use Rattle.pdp_steps.specs.ActionSteps.{find_steps, finish_steps, keep_step, operands_steps, read_step, source_first_steps, steps_of_action, take_step, write_step}
use Rattle.pdp_steps.specs.Contract.{CanRunAt, CanRunInOrder}
use Rattle.pdp_steps.specs.Steps.{phase_of}
use Rattle.pdp_steps.specs.declared.execute_step.ExecuteStep.TheVariants as execute
use Rattle.pdp_steps.specs.declared.jump_step.JumpStep.TheVariants as jumping
use Rattle.pdp_steps.specs.declared.step.Microstep.{Microstep}
use Rattle.pdp_steps.specs.declared.step.Microstep.TheVariants as step

append_phases : (xs ys : List Microstep) → map phase_of (xs ++ ys) ≡ map phase_of xs ++ map phase_of ys
append_phases [] ys = refl
append_phases (x ∷ xs) ys = ap (λ ps. phase_of x ∷ ps) (append_phases xs ys)

find_phases : (size : Size) (spec : Specifier) → map phase_of (find_steps size spec) ≡ phases_of (find size spec)
unfolding find
find_phases size (Register r) = refl
find_phases size (Deferred r) = refl
find_phases size (Autoincrement r) = refl
find_phases size (AutoincrementDeferred r) = refl
find_phases size (Autodecrement r) = refl
find_phases size (AutodecrementDeferred r) = refl
find_phases size (Index r) = refl
find_phases size (IndexDeferred r) = refl

-- an operand is found, and then these
found : (size : Size) (spec : Specifier) (steps : List Microstep)
    → map phase_of (find_steps size spec ++ steps) ≡ phases_of (find size spec) ++ map phase_of steps
found size spec steps = append_phases (find_steps size spec) steps ∙ ap (λ ps. ps ++ map phase_of steps) (find_phases size spec)

operands_phases_if : (late : Bool) (size : Size) (source destination : Specifier)
    → map phase_of (if late then find_steps size destination ++ take_step size source ∷ [] else source_first_steps size source destination)
    ≡ phases_of (if late then place_first size source destination else source_first size source destination)
unfolding place_first source_first
operands_phases_if true size source destination = found size destination _
operands_phases_if false size source destination = found size source _ ∙ ap (λ ps. phases_of (find size source) ++ (read_operand size ∷ keep_source ∷ ps)) (find_phases size destination)

operands : (size : Size) (source destination : Specifier) (steps : List Microstep)
    → map phase_of (operands_steps size source destination ++ steps) ≡ phases_of (operands_plan size source destination) ++ map phase_of steps
unfolding operands_plan
operands size source destination steps =
    append_phases (operands_steps size source destination) steps ∙ ap (λ ps. ps ++ map phase_of steps) (operands_phases_if (is_late source destination) size source destination)

pub action_phases : (a : Action) → map phase_of (steps_of_action a) ≡ phases_of (plan_of_action a)
unfolding find branch_plan sob_plan clear_plan set_plan halt_plan raise_plan reset_plan wait_plan finish_plan ash_plan ashc_plan div_plan mul_plan jmp_plan jsr_plan mark_plan pop_register rts_plan mov_plan movb_plan modify_plan replace_plan tst_plan mfpi_plan mtpi_plan return_plan combine_plan compare_plan
action_phases action.Halt = refl
action_phases action.Wait = refl
action_phases action.Reset = refl
action_phases action.ReturnFromTrap = refl
action_phases (action.Raise cause) = refl
action_phases (action.Jump destination) = found Word destination _
action_phases (action.JumpToSubroutine register destination) =
    found Word destination (step.Jump jumping.Aim ∷ find_steps Word push ++ (step.Jump (jumping.TakeLink register) ∷ write_step Whole ∷ step.Jump (jumping.Link register) ∷ []))
action_phases (action.ReturnFromSubroutine register) = refl
action_phases (action.Mark words) = refl
action_phases (action.SubtractOne register words) = refl
action_phases (action.ClearCodes mask) = refl
action_phases (action.SetCodes mask) = refl
action_phases (action.Branch condition offset) = refl
action_phases (action.Move source destination) = operands Word source destination _
action_phases (action.MoveByte source destination) = operands Byte source destination _
action_phases (action.Compare c source destination) = operands (size_of_comparison c) source destination _
action_phases (action.Combine c source destination) = operands (size_of_combination c) source destination _
action_phases (action.Modify m destination) = found (size_of_modification m) destination _
action_phases (action.Replace r destination) = found (size_of_replacement r) destination _
action_phases (action.Test size destination) = found size destination _
action_phases (action.MoveFromPrevious source) =
    found Word source (step.Jump jumping.Cross ∷ read_step Word ∷ keep_step ∷ find_steps Word push ++ finish_steps (execute.Move Word) Whole)
action_phases (action.MoveToPrevious destination) = ap (λ ps. phases_of (find Word pop) ++ (read_operand Word ∷ keep_source ∷ ps)) (found Word destination _)
action_phases (action.Multiply register source) = found Word source _
action_phases (action.Divide register source) = found Word source _
action_phases (action.Shift register source) = found Word source _
action_phases (action.ShiftPair register source) = found Word source _

-- What is written fits

find_ready : (size : Size) (spec : Specifier) (rest : List Microstep) (now : Size) → CanRunInOrder rest now
    → CanRunInOrder (find_steps size spec ++ rest) now
find_ready size (Register r) rest now ready = (tt, ready)
find_ready size (Deferred r) rest now ready = (tt, ready)
find_ready size (Autoincrement r) rest now ready = (tt, ready)
find_ready size (AutoincrementDeferred r) rest now ready = (tt, (tt, ready))
find_ready size (Autodecrement r) rest now ready = (tt, ready)
find_ready size (AutodecrementDeferred r) rest now ready = (tt, (tt, ready))
find_ready size (Index r) rest now ready = (tt, ready)
find_ready size (IndexDeferred r) rest now ready = (tt, (tt, ready))

late_ready : (size : Size) (source destination : Specifier) (rest : List Microstep) (now : Size) → CanRunInOrder rest now
    → CanRunInOrder ((find_steps size destination ++ take_step size source ∷ []) ++ rest) now
late_ready size source (Register r) rest now ready = (tt, (tt, ready))
late_ready size source (Deferred r) rest now ready = (tt, (tt, ready))
late_ready size source (Autoincrement r) rest now ready = (tt, (tt, ready))
late_ready size source (AutoincrementDeferred r) rest now ready = (tt, (tt, (tt, ready)))
late_ready size source (Autodecrement r) rest now ready = (tt, (tt, ready))
late_ready size source (AutodecrementDeferred r) rest now ready = (tt, (tt, (tt, ready)))
late_ready size source (Index r) rest now ready = (tt, (tt, ready))
late_ready size source (IndexDeferred r) rest now ready = (tt, (tt, (tt, ready)))

kept_ready : (size : Size) (destination : Specifier) (rest : List Microstep) (now : Size) → CanRunInOrder rest now
    → CanRunInOrder (read_step size ∷ keep_step ∷ find_steps size destination ++ rest) now
kept_ready size destination rest now ready = (tt, (tt, find_ready size destination rest now ready))

first_ready : (size : Size) (source destination : Specifier) (rest : List Microstep) (now : Size) → CanRunInOrder rest now
    → CanRunInOrder (source_first_steps size source destination ++ rest) now
first_ready size (Register r) destination rest now ready = (tt, kept_ready size destination rest now ready)
first_ready size (Deferred r) destination rest now ready = (tt, kept_ready size destination rest now ready)
first_ready size (Autoincrement r) destination rest now ready = (tt, kept_ready size destination rest now ready)
first_ready size (AutoincrementDeferred r) destination rest now ready = (tt, (tt, kept_ready size destination rest now ready))
first_ready size (Autodecrement r) destination rest now ready = (tt, kept_ready size destination rest now ready)
first_ready size (AutodecrementDeferred r) destination rest now ready = (tt, (tt, kept_ready size destination rest now ready))
first_ready size (Index r) destination rest now ready = (tt, kept_ready size destination rest now ready)
first_ready size (IndexDeferred r) destination rest now ready = (tt, (tt, kept_ready size destination rest now ready))

operands_ready_if : (late : Bool) (size : Size) (source destination : Specifier) (rest : List Microstep) (now : Size) → CanRunInOrder rest now
    → CanRunInOrder ((if late then find_steps size destination ++ take_step size source ∷ [] else source_first_steps size source destination) ++ rest) now
operands_ready_if true size source destination rest now ready = late_ready size source destination rest now ready
operands_ready_if false size source destination rest now ready = first_ready size source destination rest now ready

operands_ready : (size : Size) (source destination : Specifier) (rest : List Microstep) (now : Size) → CanRunInOrder rest now
    → CanRunInOrder (operands_steps size source destination ++ rest) now
operands_ready size source destination rest now ready = operands_ready_if (is_late source destination) size source destination rest now ready

-- a result of a size can be written at it
writes : (size : Size) → CanRunAt (write_step (fill_of size)) size
writes Word = tt
writes Byte = refl

pub action_ready : (a : Action) (now : Size) → CanRunInOrder (steps_of_action a) now
action_ready action.Halt now = (tt, tt)
action_ready action.Wait now = (tt, tt)
action_ready action.Reset now = (tt, tt)
action_ready action.ReturnFromTrap now = (tt, (tt, (tt, (tt, (tt, (tt, tt))))))
action_ready (action.Raise cause) now = (tt, tt)
action_ready (action.Jump destination) now = find_ready Word destination _ now (tt, (tt, tt))
action_ready (action.JumpToSubroutine register destination) now =
    find_ready Word destination _ now (tt, (tt, (tt, (tt, (tt, tt)))))
action_ready (action.ReturnFromSubroutine register) now = (tt, (tt, (tt, (tt, tt))))
action_ready (action.Mark words) now = (tt, (tt, (tt, (tt, tt))))
action_ready (action.SubtractOne register words) now = (tt, tt)
action_ready (action.ClearCodes mask) now = (tt, tt)
action_ready (action.SetCodes mask) now = (tt, tt)
action_ready (action.Branch condition offset) now = (tt, tt)
action_ready (action.Move source destination) now = operands_ready Word source destination _ now (tt, (tt, (tt, tt)))
action_ready (action.MoveByte source destination) now = operands_ready Byte source destination _ now (tt, (refl, (tt, tt)))
action_ready (action.Compare c source destination) now =
    operands_ready (size_of_comparison c) source destination _ now (tt, (tt, (tt, tt)))
action_ready (action.Combine c source destination) now =
    operands_ready (size_of_combination c) source destination _ now (tt, (tt, (writes (size_of_combination c), (tt, tt))))
action_ready (action.Modify m destination) now =
    find_ready (size_of_modification m) destination _ now (tt, (tt, (writes (size_of_modification m), (tt, tt))))
action_ready (action.Replace r destination) now =
    find_ready (size_of_replacement r) destination _ now (tt, (writes (size_of_replacement r), (tt, tt)))
action_ready (action.Test size destination) now = find_ready size destination _ now (tt, (tt, (tt, tt)))
action_ready (action.MoveFromPrevious source) now =
    find_ready Word source _ now (tt, (tt, (tt, (tt, (tt, (tt, (tt, tt)))))))
action_ready (action.MoveToPrevious destination) now =
    (tt, (tt, (tt, find_ready Word destination _ now (tt, (tt, (tt, (tt, tt)))))))
action_ready (action.Multiply register source) now = find_ready Word source _ now (tt, (tt, (tt, tt)))
action_ready (action.Divide register source) now = find_ready Word source _ now (tt, (tt, (tt, tt)))
action_ready (action.Shift register source) now = find_ready Word source _ now (tt, (tt, (tt, tt)))
action_ready (action.ShiftPair register source) now = find_ready Word source _ now (tt, (tt, (tt, tt)))
