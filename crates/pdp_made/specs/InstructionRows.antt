-- Rows of each action: DEC PDP-11/40 Processor Handbook (1972), Instruction set, Extended
-- instruction set and Memory management.
use Rattle.std.specs.Prelude.{ℕ, List, [], ◌∷◌, ◌++◌, Option, Some, None}
use Rattle.std.specs.Prelude.{if◌then◌else◌}
use Rattle.pdp_word.specs.declared.codes.Codes.{Codes}
use Rattle.pdp_word.specs.declared.size.Size.{Size}
use Rattle.pdp_word.specs.declared.size.Size.TheVariants.{Word, Byte}
use Rattle.pdp_action.specs.Operation.{size_of_combination, size_of_comparison}
use Rattle.pdp_action.specs.Operation.{size_of_modification, size_of_replacement}
use Rattle.pdp_action.specs.declared.action.Action.{Action}
use Rattle.pdp_action.specs.declared.action.Action.TheVariants as action
use Rattle.pdp_action.specs.declared.operation.Combination.{Combination}
use Rattle.pdp_action.specs.declared.operation.Combination.TheVariants.{Add}
use Rattle.pdp_action.specs.declared.operation.Comparison.{Comparison}
use Rattle.pdp_action.specs.declared.operation.Modification.{Modification}
use Rattle.pdp_action.specs.declared.operation.Replacement.{Replacement}
use Rattle.pdp_decode.specs.Fields.{register_number}
use Rattle.pdp_decode.specs.declared.instruction.Specifier.{Specifier}
use Rattle.pdp_decode.specs.declared.instruction.Specifier.TheVariants.{Register}
use Rattle.pdp_operand.specs.Handbook.Operand.{fill_of, named_register_id}
use Rattle.pdp_operand.specs.Phases.Phase.{Phase, State, inner_of, raising}
use Rattle.pdp_operand.specs.declared.place.Fill.{Fill}
use Rattle.pdp_operand.specs.declared.place.Fill.TheVariants.{Whole, Extended}
use Rattle.pdp_operand.specs.declared.processor.RegisterId.{RegisterId}
use Rattle.pdp_instruction.specs.Handbook.Branch.{branch_phase, subtract_one}
use Rattle.pdp_instruction.specs.Handbook.ChangeCodes.{clear_codes, set_codes}
use Rattle.pdp_instruction.specs.Handbook.Control.{halt, reset, wait}
use Rattle.pdp_instruction.specs.Handbook.Execute.{store_codes}
use Rattle.pdp_instruction.specs.Handbook.Extended.{divide, multiply, named_pair, shift}
use Rattle.pdp_instruction.specs.Handbook.Extended.{shift_pair}
use Rattle.pdp_instruction.specs.Handbook.Jump.{aim, jump, link, pop, push, return_by}
use Rattle.pdp_instruction.specs.Handbook.Jump.{set_register, take_link, take_mark}
use Rattle.pdp_instruction.specs.Handbook.Moves.{execute_mov}
use Rattle.pdp_instruction.specs.Handbook.OneOperand.{execute_modification, execute_replacement}
use Rattle.pdp_instruction.specs.Handbook.OneOperand.{execute_tst}
use Rattle.pdp_instruction.specs.Handbook.Operands.{is_late, keep_source, take_register}
use Rattle.pdp_instruction.specs.Handbook.PreviousMode.{cross}
use Rattle.pdp_instruction.specs.Handbook.ReturnFromTrap.{keep_counter, return_from_trap}
use Rattle.pdp_instruction.specs.Handbook.TwoOperands.{execute_combination, execute_comparison}
use Rattle.pdp_instruction.specs.declared.pair.Pair.{Pair}
use Rattle.pdp_made.specs.Cells.{Low, DataCell, CodeDue, CodeNow, ConditionCode}
use Rattle.pdp_made.specs.Cells.{ResultByte, SourceByte, ValueByte, flag_in}
use Rattle.pdp_made.specs.EffectRows.{EffectCells, combination_cells, comparison_cells, mov_cells}
use Rattle.pdp_made.specs.EffectRows.{modification_cells, replacement_cells, tst_cells}
use Rattle.pdp_made.specs.EffectRows.{value_halves}
use Rattle.pdp_made.specs.OperandRows.{find_rows, keeps_data, read_before_write_row, read_row}
use Rattle.pdp_made.specs.OperandRows.{register_stepped, value_changed, write_row}
use Rattle.pdp_made.specs.PhaseRows.{PhaseRow, of_itself}
use Rattle.pdp_made.specs.ReferenceRows.{Halves, cut_to, halves_of, of_each, of_nothing}
use Rattle.pdp_made.specs.ReferenceRows.{register_changed, whole_of}

-- The two operands

-- the operand that was read is the source
abbrev pub source_changed : DataCell → List DataCell
source_changed (SourceByte half) = ValueByte half ∷ []
source_changed c = c ∷ []

abbrev pub keep_source_row : PhaseRow
keep_source_row = record { phase = λ _. keep_source; made = λ s c. source_changed c }

-- a register is the operand and the source
abbrev pub both_changed : Halves → DataCell → List DataCell
both_changed from (ValueByte half) = from half
both_changed from (SourceByte half) = from half
both_changed from c = c ∷ []

abbrev pub take_register_row : Size → ℕ → PhaseRow
take_register_row size r = record {
  phase = λ _. take_register size r;
  made = λ s c. both_changed (cut_to size (halves_of (named_register_id (inner_of s) r))) c;
}

abbrev pub operands_rows : Size → Specifier → Specifier → List PhaseRow
operands_rows size source destination =
    if is_late source destination
    then find_rows size destination ++ take_register_row size (register_number source) ∷ []
    else find_rows size source ++ read_row size ∷ keep_source_row ∷ find_rows size destination

-- What is executed

abbrev pub effect_changed : EffectCells → DataCell → List DataCell
effect_changed cells (ResultByte half) = cells.value half
effect_changed cells (CodeDue code) = cells.codes code
effect_changed cells c = c ∷ []

abbrev pub effect_row : Phase → EffectCells → PhaseRow
effect_row p cells = record { phase = λ _. p; made = λ s c. effect_changed cells c }

-- codes that are due are stored; if none are, the codes stay
abbrev pub codes_if_due : Option Codes → ConditionCode → List DataCell
codes_if_due (Some codes) code = CodeDue code ∷ []
codes_if_due None code = CodeNow code ∷ []

abbrev pub codes_changed : (ConditionCode → List DataCell) → DataCell → List DataCell
codes_changed from (CodeNow code) = from code
codes_changed from c = c ∷ []

abbrev pub store_codes_row : PhaseRow
store_codes_row = record {
  phase = λ _. store_codes;
  made = λ s c. codes_changed (codes_if_due s.latch.codes) c;
}

abbrev pub finish_rows : Fill → List PhaseRow
finish_rows how = write_row how ∷ store_codes_row ∷ []

-- MOV and MOVB, CMP and BIT, BIC to XOR, COM to SWAB, CLR and SXT, TST
abbrev pub mov_rows : Size → Fill → Specifier → Specifier → List PhaseRow
mov_rows size how source destination = operands_rows size source destination
    ++ effect_row (execute_mov size) (mov_cells size) ∷ finish_rows how

abbrev pub compare_rows : Comparison → Specifier → Specifier → List PhaseRow
compare_rows c source destination = operands_rows (size_of_comparison c) source destination
    ++ read_row (size_of_comparison c) ∷ effect_row (execute_comparison c) (comparison_cells c)
    ∷ store_codes_row ∷ []

abbrev pub combine_rows : Combination → Specifier → Specifier → List PhaseRow
combine_rows c source destination = operands_rows (size_of_combination c) source destination
    ++ read_before_write_row (size_of_combination c)
    ∷ effect_row (execute_combination c) (combination_cells c)
    ∷ finish_rows (fill_of (size_of_combination c))

abbrev pub modify_rows : Modification → Specifier → List PhaseRow
modify_rows m destination = find_rows (size_of_modification m) destination
    ++ read_before_write_row (size_of_modification m)
    ∷ effect_row (execute_modification m) (modification_cells m)
    ∷ finish_rows (fill_of (size_of_modification m))

abbrev pub replace_rows : Replacement → Specifier → List PhaseRow
replace_rows r destination = find_rows (size_of_replacement r) destination
    ++ effect_row (execute_replacement r) (replacement_cells r)
    ∷ finish_rows (fill_of (size_of_replacement r))

abbrev pub tst_rows : Size → Specifier → List PhaseRow
tst_rows size destination = find_rows size destination
    ++ read_row size ∷ effect_row (execute_tst size) (tst_cells size) ∷ store_codes_row ∷ []

-- Branches, SOB, and the condition code operators

abbrev pub subtract_one_row : ℕ → ℕ → PhaseRow
subtract_one_row r words = record {
  phase = λ _. subtract_one r words;
  made = λ s c. register_stepped (named_register_id (inner_of s) r) c;
}

-- a code of the mask is made of nothing
abbrev pub codes_outside : Codes → ConditionCode → List DataCell
codes_outside mask code = if flag_in code mask then [] else CodeNow code ∷ []

abbrev pub clear_codes_row : Codes → PhaseRow
clear_codes_row mask = record {
  phase = λ _. clear_codes mask;
  made = λ s c. codes_changed (codes_outside mask) c;
}

abbrev pub set_codes_row : Codes → PhaseRow
set_codes_row mask = record {
  phase = λ _. set_codes mask;
  made = λ s c. codes_changed (codes_outside mask) c;
}

-- Jumps: an address and PC are no data

abbrev pub aim_row : PhaseRow
aim_row = record { phase = λ _. aim; made = λ s c. value_changed of_nothing c }

abbrev pub result_changed : Halves → DataCell → List DataCell
result_changed from (ResultByte half) = from half
result_changed from c = c ∷ []

abbrev pub take_link_row : ℕ → PhaseRow
take_link_row r = record {
  phase = λ _. take_link r;
  made = λ s c. result_changed (halves_of (named_register_id (inner_of s) r)) c;
}

abbrev pub named_changed : ℕ → Halves → State → DataCell → List DataCell
named_changed r from s c = register_changed (named_register_id (inner_of s) r) from of_itself c

abbrev pub link_row : ℕ → PhaseRow
link_row r = record { phase = λ _. link r; made = λ s c. named_changed r of_nothing s c }

abbrev pub set_register_row : ℕ → PhaseRow
set_register_row r = record {
  phase = λ _. set_register r;
  made = λ s c. named_changed r value_halves s c;
}

abbrev pub take_mark_row : ℕ → PhaseRow
take_mark_row words = record {
  phase = λ _. take_mark words;
  made = λ s c. named_changed 6 of_nothing s c;
}

abbrev pub pop_register_rows : ℕ → List PhaseRow
pop_register_rows r = find_rows Word pop ++ read_row Word ∷ set_register_row r ∷ []

abbrev pub jsr_rows : ℕ → Specifier → List PhaseRow
jsr_rows r destination = find_rows Word destination
    ++ (aim_row ∷ find_rows Word push
    ++ (take_link_row r ∷ write_row Whole ∷ link_row r ∷ []))

-- MFPI and MTPI, RTI and RTT

abbrev pub mfpi_rows : Specifier → List PhaseRow
mfpi_rows source = find_rows Word source
    ++ (keeps_data cross ∷ read_row Word ∷ keep_source_row ∷ find_rows Word push
    ++ (effect_row (execute_mov Word) (mov_cells Word) ∷ finish_rows Whole))

abbrev pub mtpi_rows : Specifier → List PhaseRow
mtpi_rows destination = find_rows Word pop
    ++ (read_row Word ∷ keep_source_row ∷ find_rows Word destination
    ++ (keeps_data cross ∷ effect_row (execute_mov Word) (mov_cells Word) ∷ finish_rows Whole))

-- the codes of the popped word
abbrev pub return_from_trap_row : PhaseRow
return_from_trap_row = record {
  phase = λ _. return_from_trap;
  made = λ s c. codes_changed (λ code. ValueByte Low ∷ []) c;
}

abbrev pub return_rows : List PhaseRow
return_rows = find_rows Word pop ++ (read_row Word ∷ keeps_data keep_counter ∷ find_rows Word pop
    ++ (read_row Word ∷ return_from_trap_row ∷ []))

-- MUL, DIV, ASH and ASHC: the registers and the codes are made of these

abbrev pub due_changed : List DataCell → DataCell → List DataCell
due_changed from (CodeDue code) = from
due_changed from c = c ∷ []

abbrev pub pair_changed : Pair → List DataCell → DataCell → List DataCell
pair_changed pair from c = register_changed pair.low (of_each from) (register_changed pair.high
    (of_each from) (due_changed from)) c

abbrev pub with_operand_cells : Halves → List DataCell
with_operand_cells from = whole_of from ++ whole_of value_halves

abbrev pub pair_cells : Pair → List DataCell
pair_cells pair = whole_of (halves_of pair.high) ++ with_operand_cells (halves_of pair.low)

abbrev pub multiply_row : ℕ → PhaseRow
multiply_row r = record {
  phase = λ _. multiply r;
  made = λ s c. pair_changed (named_pair (inner_of s) r) (with_operand_cells (halves_of
      (named_register_id (inner_of s) r))) c;
}

abbrev pub divide_row : ℕ → PhaseRow
divide_row r = record {
  phase = λ _. divide r;
  made = λ s c. pair_changed (named_pair (inner_of s) r) (pair_cells (named_pair (inner_of
      s) r)) c;
}

-- the count is in the low half of the operand [4.30]
abbrev pub shift_cells : RegisterId → List DataCell
shift_cells id = whole_of (halves_of id) ++ ValueByte Low ∷ []

abbrev pub shift_row : ℕ → PhaseRow
shift_row r = record {
  phase = λ _. shift r;
  made = λ s c. register_changed (named_register_id (inner_of s) r) (of_each (shift_cells
      (named_register_id (inner_of s) r))) (due_changed (shift_cells (named_register_id (inner_of
      s) r))) c;
}

abbrev pub shift_pair_cells : Pair → List DataCell
shift_pair_cells pair = whole_of (halves_of pair.high) ++ shift_cells pair.low

abbrev pub shift_pair_row : ℕ → PhaseRow
shift_pair_row r = record {
  phase = λ _. shift_pair r;
  made = λ s c. pair_changed (named_pair (inner_of s) r) (shift_pair_cells (named_pair (inner_of
      s) r)) c;
}

abbrev pub extended_rows : PhaseRow → Specifier → List PhaseRow
extended_rows row source = find_rows Word source ++ read_row Word ∷ row ∷ store_codes_row ∷ []

-- the rows of each action
abbrev pub rows_of_action : Action → List PhaseRow
rows_of_action action.Halt = keeps_data halt ∷ []
rows_of_action action.Wait = keeps_data wait ∷ []
rows_of_action action.Reset = keeps_data reset ∷ []
rows_of_action action.ReturnFromTrap = return_rows
rows_of_action (action.Raise cause) = keeps_data (raising cause) ∷ []
rows_of_action (action.Jump destination) = find_rows Word destination
    ++ aim_row ∷ keeps_data jump ∷ []
rows_of_action (action.JumpToSubroutine register destination) = jsr_rows register destination
rows_of_action (action.ReturnFromSubroutine register) = keeps_data (return_by register)
    ∷ pop_register_rows register
rows_of_action (action.Mark words) = take_mark_row words ∷ pop_register_rows 5
rows_of_action (action.SubtractOne register words) = subtract_one_row register words ∷ []
rows_of_action (action.ClearCodes mask) = clear_codes_row mask ∷ []
rows_of_action (action.SetCodes mask) = set_codes_row mask ∷ []
rows_of_action (action.Branch condition offset) = keeps_data (branch_phase condition offset) ∷ []
rows_of_action (action.Move source destination) = mov_rows Word Whole source destination
rows_of_action (action.MoveByte source destination) = mov_rows Byte Extended source destination
rows_of_action (action.Compare comparison source destination) = compare_rows comparison source
    destination
rows_of_action (action.Combine combination source destination) = combine_rows combination source
    destination
rows_of_action (action.Modify modification destination) = modify_rows modification destination
rows_of_action (action.Replace replacement destination) = replace_rows replacement destination
rows_of_action (action.Test size destination) = tst_rows size destination
rows_of_action (action.MoveFromPrevious source) = mfpi_rows source
rows_of_action (action.MoveToPrevious destination) = mtpi_rows destination
rows_of_action (action.Multiply register source) = extended_rows (multiply_row register) source
rows_of_action (action.Divide register source) = extended_rows (divide_row register) source
rows_of_action (action.Shift register source) = extended_rows (shift_row register) source
rows_of_action (action.ShiftPair register source) = extended_rows (shift_pair_row register) source

-- ADD R0,R1
abbrev pub add_registers : Action
add_registers = action.Combine Add (Register 0) (Register 1)
