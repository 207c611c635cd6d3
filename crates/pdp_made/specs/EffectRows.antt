-- What the value and the codes of each operation are made of: DEC PDP-11/40 Processor Handbook
-- (1972), Instruction set. Numbers have no bound here, so the value of BIC is made of the whole
-- source, and the high half of SWAB of both halves.
use Rattle.std.specs.Prelude.{List, [], ◌∷◌, ◌++◌}
use Rattle.pdp_word.specs.declared.size.Size.{Size}
use Rattle.pdp_word.specs.declared.size.Size.TheVariants.{Word}
use Rattle.pdp_action.specs.declared.operation.Combination.{Combination}
use Rattle.pdp_action.specs.declared.operation.Combination.TheVariants as combination
use Rattle.pdp_action.specs.declared.operation.Comparison.{Comparison}
use Rattle.pdp_action.specs.declared.operation.Comparison.TheVariants as comparison
use Rattle.pdp_action.specs.declared.operation.Modification.{Modification}
use Rattle.pdp_action.specs.declared.operation.Modification.TheVariants as modification
use Rattle.pdp_action.specs.declared.operation.Replacement.{Replacement}
use Rattle.pdp_action.specs.declared.operation.Replacement.TheVariants as replacement
use Rattle.pdp_made.specs.Cells.{Low, High, DataCell, CodeNow, SourceByte, ValueByte}
use Rattle.pdp_made.specs.Cells.{ConditionCode, Negative, Zero, Overflow, Carry}
use Rattle.pdp_made.specs.ReferenceRows.{Halves, cut_to, of_each, of_nothing, whole_of}

-- of which cells the value of an effect is made, and each of its codes
pub record EffectCells : Type 0 where
  pub value : Halves
  pub codes : ConditionCode → List DataCell

abbrev pub carry_now : List DataCell
carry_now = CodeNow Carry ∷ []

-- the operand, the source, both, and both with the complement of the whole source
abbrev pub value_halves : Halves
value_halves half = ValueByte half ∷ []

abbrev pub source_halves : Halves
source_halves half = SourceByte half ∷ []

abbrev pub both_halves : Halves
both_halves half = SourceByte half ∷ ValueByte half ∷ []

abbrev pub complement_halves : Halves
complement_halves half = SourceByte Low ∷ SourceByte High ∷ ValueByte half ∷ []

abbrev pub with_carry : Halves → Halves
with_carry from half = from half ++ carry_now

-- how bits go from half to half: not at all; in a sum from the low half to the high one; in a shift
-- to the right from the high half to the low one; both ways in SWAB
abbrev pub straight : Halves → Halves
straight from = from

abbrev pub going_up : Halves → Halves
going_up from Low = from Low
going_up from High = whole_of from

abbrev pub going_down : Halves → Halves
going_down from Low = whole_of from
going_down from High = from High

abbrev pub exchanged_halves : Halves → Halves
exchanged_halves from Low = from High
exchanged_halves from High = whole_of from

-- N and Z, V, and C are made of these
abbrev pub made_codes : List DataCell → List DataCell → List DataCell → ConditionCode
    → List DataCell
made_codes signs overflow carry Negative = signs
made_codes signs overflow carry Zero = signs
made_codes signs overflow carry Overflow = overflow
made_codes signs overflow carry Carry = carry

-- what an effect of a size is made of
abbrev pub value_made : Size → (Halves → Halves) → Halves → Halves
value_made size way from = cut_to size (way (cut_to size from))

abbrev pub cells_of_operands : Size → Halves → List DataCell
cells_of_operands size from = whole_of (cut_to size from)

-- all codes are made of the operands
abbrev pub sets_codes : Size → (Halves → Halves) → Halves → EffectCells
sets_codes size way from = record {
  value = value_made size way from;
  codes = made_codes (cells_of_operands size from) (cells_of_operands size from)
      (cells_of_operands size from);
}

-- C is kept
abbrev pub keeps_carry : Size → (Halves → Halves) → Halves → EffectCells
keeps_carry size way from = record {
  value = value_made size way from;
  codes = made_codes (cells_of_operands size from) (cells_of_operands size from) carry_now;
}

-- C is kept, and V is 0
abbrev pub clears_overflow : Size → (Halves → Halves) → Halves → EffectCells
clears_overflow size way from = record {
  value = value_made size way from;
  codes = made_codes (cells_of_operands size from) [] carry_now;
}

-- V is 0, and C is always the same
abbrev pub sets_signs : Size → (Halves → Halves) → Halves → EffectCells
sets_signs size way from = record {
  value = value_made size way from;
  codes = made_codes (cells_of_operands size from) [] [];
}

-- MOV [4.1], TST [4.16]
abbrev pub mov_cells : Size → EffectCells
mov_cells size = clears_overflow size straight source_halves

abbrev pub tst_cells : Size → EffectCells
tst_cells size = sets_signs size straight value_halves

-- CMP [4.2], BIT [4.3]: no value is stored
abbrev pub comparison_cells : Comparison → EffectCells
comparison_cells (comparison.Cmp size) = sets_codes size going_up both_halves
comparison_cells (comparison.Bit size) = clears_overflow size straight both_halves

-- BIC [4.4], BIS [4.5], ADD [4.6], SUB [4.7], XOR [4.8]
abbrev pub combination_cells : Combination → EffectCells
combination_cells (combination.Bic size) = clears_overflow size straight complement_halves
combination_cells (combination.Bis size) = clears_overflow size straight both_halves
combination_cells combination.Add = sets_codes Word going_up both_halves
combination_cells combination.Sub = sets_codes Word going_up both_halves
combination_cells combination.Xor = clears_overflow Word straight both_halves

-- COM [4.10], INC [4.11], DEC [4.12], NEG [4.13], ADC [4.14], SBC [4.15], ROR [4.17], ROL [4.18],
-- ASR [4.19], ASL [4.20], SWAB [4.21], whose N and Z are those of the new low half
abbrev pub modification_cells : Modification → EffectCells
modification_cells (modification.Com size) = sets_signs size straight value_halves
modification_cells (modification.Inc size) = keeps_carry size going_up value_halves
modification_cells (modification.Dec size) = keeps_carry size going_up value_halves
modification_cells (modification.Neg size) = sets_codes size going_up value_halves
modification_cells (modification.Adc size) = sets_codes size going_up (with_carry value_halves)
modification_cells (modification.Sbc size) = sets_codes size going_up (with_carry value_halves)
modification_cells (modification.Ror size) = sets_codes size going_down (with_carry value_halves)
modification_cells (modification.Rol size) = sets_codes size going_up (with_carry value_halves)
modification_cells (modification.Asr size) = sets_codes size going_down value_halves
modification_cells (modification.Asl size) = sets_codes size going_up value_halves
modification_cells modification.Swab = record {
  value = exchanged_halves value_halves;
  codes = made_codes (ValueByte High ∷ []) [] [];
}

-- CLR [4.9], SXT [4.22]
abbrev pub replacement_cells : Replacement → EffectCells
replacement_cells (replacement.Clr size) = sets_signs size straight of_nothing
replacement_cells replacement.Sxt = record {
  value = of_each (CodeNow Negative ∷ []);
  codes = made_codes (CodeNow Negative ∷ []) [] carry_now;
}
