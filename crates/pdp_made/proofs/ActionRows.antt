-- The rows of each action are those of its plan, and each is sound.
use Rattle.std.proofs.Common.{◌≡◌, ◌∙◌, ℕ, Bool, true, false, List, [], ◌∷◌, ◌++◌, refl, ap, if◌then◌else◌}
use Rattle.pdp_word.specs.declared.codes.Codes.{Codes}
use Rattle.pdp_word.specs.declared.size.Size.{Size}
use Rattle.pdp_word.specs.declared.size.Size.TheVariants.{Word, Byte}
use Rattle.pdp_action.specs.Operation.{size_of_combination, size_of_comparison, size_of_modification, size_of_replacement}
use Rattle.pdp_action.specs.declared.action.Action.{Action}
use Rattle.pdp_action.specs.declared.action.Action.TheVariants as action
use Rattle.pdp_decode.specs.Fields.{register_number}
use Rattle.pdp_decode.specs.declared.instruction.Specifier.{Specifier}
use Rattle.pdp_decode.specs.declared.instruction.Specifier.TheVariants.{Register, Deferred, Autoincrement, AutoincrementDeferred, Autodecrement, AutodecrementDeferred, Index, IndexDeferred}
use Rattle.pdp_operand.specs.Handbook.Operand.{fill_of, find, read_operand}
use Rattle.pdp_operand.specs.Phases.Plan.{phases_of}
use Rattle.pdp_operand.specs.declared.place.Fill.{Fill}
use Rattle.pdp_operand.specs.declared.place.Fill.TheVariants.{Whole, Extended}
use Rattle.pdp_instruction.specs.Handbook.Action.{plan_of_action}
use Rattle.pdp_instruction.specs.Handbook.Branch.{branch_plan, sob_plan}
use Rattle.pdp_instruction.specs.Handbook.ChangeCodes.{clear_plan, set_plan}
use Rattle.pdp_instruction.specs.Handbook.Control.{halt_plan, raise_plan, reset_plan, wait_plan}
use Rattle.pdp_instruction.specs.Handbook.Execute.{finish_plan}
use Rattle.pdp_instruction.specs.Handbook.Extended.{ash_plan, ashc_plan, div_plan, mul_plan}
use Rattle.pdp_instruction.specs.Handbook.Jump.{jmp_plan, jsr_plan, mark_plan, pop, pop_register, push, rts_plan}
use Rattle.pdp_instruction.specs.Handbook.Moves.{execute_mov, mov_plan, movb_plan}
use Rattle.pdp_instruction.specs.Handbook.OneOperand.{modify_plan, replace_plan, tst_plan}
use Rattle.pdp_instruction.specs.Handbook.Operands.{is_late, keep_source, operands_plan, place_first, source_first}
use Rattle.pdp_instruction.specs.Handbook.PreviousMode.{cross, mfpi_plan, mtpi_plan}
use Rattle.pdp_instruction.specs.Handbook.ReturnFromTrap.{return_plan}
use Rattle.pdp_instruction.specs.Handbook.TwoOperands.{combine_plan, compare_plan}
use Rattle.pdp_made.specs.EffectRows.{mov_cells}
use Rattle.pdp_made.specs.InstructionRows.{aim_row, effect_row, finish_rows, keep_source_row, link_row, operands_rows, pop_register_rows, rows_of_action, store_codes_row, take_link_row, take_register_row}
use Rattle.pdp_made.specs.OperandRows.{find_rows, keeps_data, read_row, write_row}
use Rattle.pdp_made.specs.PhaseRows.{AreSoundRows, PhaseRow, phases_in}
use Rattle.pdp_made.proofs.ExtendedSteps.{divides, keeps_counter, multiplies, resets, returns_from_trap, shifts, shifts_pair}
use Rattle.pdp_made.proofs.InstructionSteps.{aims, branches, clears, combines, compares, crosses, halts, jumps, keeps_source, links, loops, modifies, moves, raises, replaces, returns_by, sets, sets_register, stores_codes, takes_link, takes_mark, takes_register, tests, waits}
use Rattle.pdp_made.proofs.OperandSteps.{find_sound, reads_before_write, reads_operand, writes_operand}

-- Each row is sound
pub append_sound : (xs ys : List PhaseRow) → AreSoundRows xs → AreSoundRows ys → AreSoundRows (xs ++ ys)
append_sound [] ys first second = second
append_sound (x ∷ xs) ys first second = (first.0, append_sound xs ys first.1 second)

operands_if : (late : Bool) (size : Size) (source destination : Specifier)
    → AreSoundRows (if late then find_rows size destination ++ take_register_row size (register_number source) ∷ []
    else find_rows size source ++ read_row size ∷ keep_source_row ∷ find_rows size destination)
operands_if true size source destination = append_sound _ _ (find_sound size destination) (takes_register size (register_number source), tt)
operands_if false size source destination = append_sound _ _ (find_sound size source) (reads_operand size, (keeps_source, find_sound size destination))

operands_sound : (size : Size) (source destination : Specifier) → AreSoundRows (operands_rows size source destination)
operands_sound size source destination = operands_if (is_late source destination) size source destination

finish_sound : (how : Fill) → AreSoundRows (finish_rows how)
finish_sound how = (writes_operand how, (stores_codes, tt))

extended_sound : (row : PhaseRow) (source : Specifier) → AreSoundRows (row ∷ []) → AreSoundRows (find_rows Word source ++ read_row Word ∷ row ∷ store_codes_row ∷ [])
extended_sound row source sound = append_sound _ _ (find_sound Word source) (reads_operand Word, (sound.0, (stores_codes, tt)))

pop_register_sound : (r : ℕ) → AreSoundRows (pop_register_rows r)
pop_register_sound r = ((find_sound Word pop).0, (reads_operand Word, (sets_register r, tt)))

pub rows_sound : (a : Action) → AreSoundRows (rows_of_action a)
rows_sound action.Halt = (halts, tt)
rows_sound action.Wait = (waits, tt)
rows_sound action.Reset = (resets, tt)
rows_sound action.ReturnFromTrap =
    ((find_sound Word pop).0, (reads_operand Word, (keeps_counter, ((find_sound Word pop).0, (reads_operand Word, (returns_from_trap, tt))))))
rows_sound (action.Raise cause) = (raises cause, tt)
rows_sound (action.Jump destination) = append_sound _ _ (find_sound Word destination) (aims, (jumps, tt))
rows_sound (action.JumpToSubroutine register destination) =
    append_sound _ _ (find_sound Word destination) (aims, ((find_sound Word push).0, (takes_link register, (writes_operand Whole, (links register, tt)))))
rows_sound (action.ReturnFromSubroutine register) = (returns_by register, pop_register_sound register)
rows_sound (action.Mark words) = (takes_mark words, pop_register_sound 5)
rows_sound (action.SubtractOne register words) = (loops register words, tt)
rows_sound (action.ClearCodes mask) = (clears mask, tt)
rows_sound (action.SetCodes mask) = (sets mask, tt)
rows_sound (action.Branch condition offset) = (branches condition offset, tt)
rows_sound (action.Move source destination) = append_sound _ _ (operands_sound Word source destination) (moves Word, finish_sound Whole)
rows_sound (action.MoveByte source destination) = append_sound _ _ (operands_sound Byte source destination) (moves Byte, finish_sound Extended)
rows_sound (action.Compare c source destination) =
    append_sound _ _ (operands_sound (size_of_comparison c) source destination) (reads_operand (size_of_comparison c), (compares c, (stores_codes, tt)))
rows_sound (action.Combine c source destination) =
    append_sound _ _ (operands_sound (size_of_combination c) source destination) (reads_before_write (size_of_combination c), (combines c, finish_sound (fill_of (size_of_combination c))))
rows_sound (action.Modify m destination) =
    append_sound _ _ (find_sound (size_of_modification m) destination) (reads_before_write (size_of_modification m), (modifies m, finish_sound (fill_of (size_of_modification m))))
rows_sound (action.Replace r destination) = append_sound _ _ (find_sound (size_of_replacement r) destination) (replaces r, finish_sound (fill_of (size_of_replacement r)))
rows_sound (action.Test size destination) = append_sound _ _ (find_sound size destination) (reads_operand size, (tests size, (stores_codes, tt)))
rows_sound (action.MoveFromPrevious source) =
    append_sound _ _ (find_sound Word source) (crosses, (reads_operand Word, (keeps_source, ((find_sound Word push).0, (moves Word, finish_sound Whole)))))
rows_sound (action.MoveToPrevious destination) =
    ((find_sound Word pop).0, (reads_operand Word, (keeps_source, append_sound _ _ (find_sound Word destination) (crosses, (moves Word, finish_sound Whole)))))
rows_sound (action.Multiply register source) = extended_sound _ source (multiplies register, tt)
rows_sound (action.Divide register source) = extended_sound _ source (divides register, tt)
rows_sound (action.Shift register source) = extended_sound _ source (shifts register, tt)
rows_sound (action.ShiftPair register source) = extended_sound _ source (shifts_pair register, tt)

-- The rows are those of the plan
module _ (saved : Codes) where
  append_phases : (xs ys : List PhaseRow) → phases_in (xs ++ ys) saved ≡ phases_in xs saved ++ phases_in ys saved
  append_phases [] ys = refl
  append_phases (x ∷ xs) ys = ap (λ ps. x.phase saved ∷ ps) (append_phases xs ys)

  find_phases : (size : Size) (spec : Specifier) → phases_in (find_rows size spec) saved ≡ phases_of (find size spec)
  unfolding find
  find_phases size (Register r) = refl
  find_phases size (Deferred r) = refl
  find_phases size (Autoincrement r) = refl
  find_phases size (AutoincrementDeferred r) = refl
  find_phases size (Autodecrement r) = refl
  find_phases size (AutodecrementDeferred r) = refl
  find_phases size (Index r) = refl
  find_phases size (IndexDeferred r) = refl

  -- an operand is found, and then these
  found : (size : Size) (spec : Specifier) (rows : List PhaseRow) → phases_in (find_rows size spec ++ rows) saved ≡ phases_of (find size spec) ++ phases_in rows saved
  found size spec rows = append_phases (find_rows size spec) rows ∙ ap (λ ps. ps ++ phases_in rows saved) (find_phases size spec)

  operands_phases_if : (late : Bool) (size : Size) (source destination : Specifier)
      → phases_in (if late then find_rows size destination ++ take_register_row size (register_number source) ∷ []
      else find_rows size source ++ read_row size ∷ keep_source_row ∷ find_rows size destination) saved
      ≡ phases_of (if late then place_first size source destination else source_first size source destination)
  unfolding place_first source_first
  operands_phases_if true size source destination = found size destination _
  operands_phases_if false size source destination = found size source _ ∙ ap (λ ps. phases_of (find size source) ++ (read_operand size ∷ keep_source ∷ ps)) (find_phases size destination)

  operands : (size : Size) (source destination : Specifier) (rows : List PhaseRow)
      → phases_in (operands_rows size source destination ++ rows) saved ≡ phases_of (operands_plan size source destination) ++ phases_in rows saved
  unfolding operands_plan
  operands size source destination rows =
      append_phases (operands_rows size source destination) rows ∙ ap (λ ps. ps ++ phases_in rows saved) (operands_phases_if (is_late source destination) size source destination)

  pub rows_phases : (a : Action) → phases_in (rows_of_action a) saved ≡ phases_of (plan_of_action a)
  unfolding find branch_plan sob_plan clear_plan set_plan halt_plan raise_plan reset_plan wait_plan finish_plan ash_plan ashc_plan div_plan mul_plan jmp_plan jsr_plan mark_plan pop_register rts_plan mov_plan movb_plan modify_plan replace_plan tst_plan mfpi_plan mtpi_plan return_plan combine_plan compare_plan
  rows_phases action.Halt = refl
  rows_phases action.Wait = refl
  rows_phases action.Reset = refl
  rows_phases action.ReturnFromTrap = refl
  rows_phases (action.Raise cause) = refl
  rows_phases (action.Jump destination) = found Word destination _
  rows_phases (action.JumpToSubroutine register destination) =
      found Word destination (aim_row ∷ find_rows Word push ++ (take_link_row register ∷ write_row Whole ∷ link_row register ∷ []))
  rows_phases (action.ReturnFromSubroutine register) = refl
  rows_phases (action.Mark words) = refl
  rows_phases (action.SubtractOne register words) = refl
  rows_phases (action.ClearCodes mask) = refl
  rows_phases (action.SetCodes mask) = refl
  rows_phases (action.Branch condition offset) = refl
  rows_phases (action.Move source destination) = operands Word source destination _
  rows_phases (action.MoveByte source destination) = operands Byte source destination _
  rows_phases (action.Compare c source destination) = operands (size_of_comparison c) source destination _
  rows_phases (action.Combine c source destination) = operands (size_of_combination c) source destination _
  rows_phases (action.Modify m destination) = found (size_of_modification m) destination _
  rows_phases (action.Replace r destination) = found (size_of_replacement r) destination _
  rows_phases (action.Test size destination) = found size destination _
  rows_phases (action.MoveFromPrevious source) =
      found Word source (keeps_data cross ∷ read_row Word ∷ keep_source_row ∷ find_rows Word push ++ (effect_row (execute_mov Word) (mov_cells Word) ∷ finish_rows Whole))
  rows_phases (action.MoveToPrevious destination) = ap (λ ps. phases_of (find Word pop) ++ (read_operand Word ∷ keep_source ∷ ps)) (found Word destination _)
  rows_phases (action.Multiply register source) = found Word source _
  rows_phases (action.Divide register source) = found Word source _
  rows_phases (action.Shift register source) = found Word source _
  rows_phases (action.ShiftPair register source) = found Word source _
