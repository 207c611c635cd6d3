-- Rows of the phases that find, read and write operands: DEC PDP-11/40 Processor Handbook (1972),
-- Addressing modes. An operand's place is no data: an address and an index word are named by no
-- row, and a phase that finds an operand changes no cell but a register that steps.
use Rattle.std.specs.Prelude.{ℕ, List, [], ◌∷◌}
use Rattle.pdp_word.specs.declared.size.Size.{Size}
use Rattle.pdp_kt11.specs.declared.mode.Mode.{Mode}
use Rattle.pdp_decode.specs.declared.instruction.Specifier.{Specifier}
use Rattle.pdp_decode.specs.declared.instruction.Specifier.TheVariants.{Register, Deferred}
use Rattle.pdp_decode.specs.declared.instruction.Specifier.TheVariants.{Autoincrement}
use Rattle.pdp_decode.specs.declared.instruction.Specifier.TheVariants.{AutoincrementDeferred}
use Rattle.pdp_decode.specs.declared.instruction.Specifier.TheVariants.{Autodecrement}
use Rattle.pdp_decode.specs.declared.instruction.Specifier.TheVariants.{AutodecrementDeferred}
use Rattle.pdp_decode.specs.declared.instruction.Specifier.TheVariants.{Index, IndexDeferred}
use Rattle.pdp_operand.specs.Handbook.Operand.{grow, index, indirect, lower, mode_now}
use Rattle.pdp_operand.specs.Handbook.Operand.{name_register, named_register_id, point}
use Rattle.pdp_operand.specs.Handbook.Operand.{read_before_write, read_operand, size_of_fill}
use Rattle.pdp_operand.specs.Handbook.Operand.{step_of, write_operand}
use Rattle.pdp_operand.specs.Handbook.RegisterId.{register_id_of}
use Rattle.pdp_operand.specs.Phases.Phase.{Inner, Phase, State, inner_of}
use Rattle.pdp_operand.specs.declared.place.Fill.{Fill}
use Rattle.pdp_operand.specs.declared.place.Place.{Place}
use Rattle.pdp_operand.specs.declared.place.Place.TheVariants.{Reg, Mem}
use Rattle.pdp_operand.specs.declared.processor.RegisterId.{RegisterId}
use Rattle.pdp_made.specs.Cells.{DataCell, ValueByte, ResultByte}
use Rattle.pdp_made.specs.EffectRows.{going_up}
use Rattle.pdp_made.specs.PhaseRows.{PhaseRow, of_itself}
use Rattle.pdp_made.specs.ReferenceRows.{Halves, changed_by_reference, cut_to, halves_filled}
use Rattle.pdp_made.specs.ReferenceRows.{halves_of, halves_referred, register_changed}

-- a phase that changes no data
abbrev pub keeps_data : Phase → PhaseRow
keeps_data p = record { phase = λ _. p; made = λ s c. of_itself c }

-- a register that steps
abbrev pub register_stepped : RegisterId → DataCell → List DataCell
register_stepped id c = register_changed id (going_up (halves_of id)) of_itself c

abbrev pub grow_row : ℕ → ℕ → PhaseRow
grow_row r step = record {
  phase = λ _. grow r step;
  made = λ s c. register_stepped (named_register_id (inner_of s) r) c;
}

abbrev pub lower_row : (Inner → Mode) → ℕ → ℕ → PhaseRow
lower_row mode r step = record {
  phase = λ _. lower mode r step;
  made = λ s c. register_stepped (register_id_of (mode (inner_of s)) r) c;
}

-- the rows of each addressing mode [3.1] [3.2] [3.3] [3.4] [3.5] [3.6] [3.7] [3.8]
abbrev pub find_rows : Size → Specifier → List PhaseRow
find_rows size (Register r) = keeps_data (name_register r) ∷ []
find_rows size (Deferred r) = keeps_data (point r) ∷ []
find_rows size (Autoincrement r) = grow_row r (step_of size r) ∷ []
find_rows size (AutoincrementDeferred r) = grow_row r 2 ∷ keeps_data indirect ∷ []
find_rows size (Autodecrement r) = lower_row mode_now r (step_of size r) ∷ []
find_rows size (AutodecrementDeferred r) = lower_row mode_now r 2 ∷ keeps_data indirect ∷ []
find_rows size (Index r) = keeps_data (index r) ∷ []
find_rows size (IndexDeferred r) = keeps_data (index r) ∷ keeps_data indirect ∷ []

-- what an operand is made of: a register, or what a reference to its place reads
abbrev pub halves_of_operand : Size → Place → State → Halves
halves_of_operand size (Reg id) s = cut_to size (halves_of id)
halves_of_operand size (Mem cell) s =
    halves_referred size cell.mode cell.address s.world.bus

abbrev pub value_changed : Halves → DataCell → List DataCell
value_changed from (ValueByte half) = from half
value_changed from c = c ∷ []

-- the operand is read [3.9]
abbrev pub read_row : Size → PhaseRow
read_row size = record {
  phase = λ _. read_operand size;
  made = λ s c. value_changed (halves_of_operand size s.latch.place s) c;
}

abbrev pub read_before_write_row : Size → PhaseRow
read_before_write_row size = record {
  phase = λ _. read_before_write size;
  made = λ s c. value_changed (halves_of_operand size s.latch.place s) c;
}

abbrev pub halves_of_result : Halves
halves_of_result half = ResultByte half ∷ []

-- what a write changes: a register, or what a reference to its place writes
abbrev pub changed_by_write : Fill → Place → State → DataCell → List DataCell
changed_by_write how (Reg id) s c =
    register_changed id (halves_filled how (halves_of id) halves_of_result) of_itself c
changed_by_write how (Mem cell) s c = changed_by_reference (size_of_fill how) cell.mode
    cell.address s.world.bus halves_of_result c

-- the result is written [3.9]
abbrev pub write_row : Fill → PhaseRow
write_row how = record {
  phase = λ _. write_operand how;
  made = λ s c. changed_by_write how s.latch.place s c;
}
