-- ADD R0,R1, worked out.
use Rattle.std.proofs.Common.{◌≡◌, [], ◌∷◌, refl, sym, subst}
use Rattle.pdp_word.specs.declared.codes.Codes.{Codes}
use Rattle.pdp_operand.specs.Handbook.Operand.{name_register, read_before_write, read_operand, write_operand}
use Rattle.pdp_operand.specs.Handbook.Processor.{register_of, with_register}
use Rattle.pdp_operand.specs.Handbook.RegisterId.{register_id_of}
use Rattle.pdp_operand.specs.Phases.Phase.{State}
use Rattle.pdp_instruction.specs.Handbook.Execute.{store_codes}
use Rattle.pdp_instruction.specs.Handbook.Operands.{keep_source}
use Rattle.pdp_instruction.specs.Handbook.TwoOperands.{execute_combination}
use Rattle.pdp_store.specs.CycleLogs.{KeptCycles}
use Rattle.pdp_made.specs.Cells.{AreAlike, Data, High, Low, RegisterByte, SameShape, data_of, with_data}
use Rattle.pdp_made.specs.InstructionRows.{add_registers, rows_of_action}
use Rattle.pdp_made.proofs.Registers.{size_set}
use Rattle.pdp_made.specs.PhaseRows.{GoTheSameWay, made_through}

pub low_of_sum : (saved : Codes) (s : State)
    → made_through (rows_of_action add_registers) saved s (RegisterByte 1 Low) ≡ RegisterByte 0 Low ∷ RegisterByte 1 Low ∷ []
unfolding made_through name_register read_operand read_before_write write_operand register_of with_register register_id_of execute_combination keep_source store_codes
low_of_sum saved s = refl

pub high_of_sum : (saved : Codes) (s : State)
    → made_through (rows_of_action add_registers) saved s (RegisterByte 1 High)
    ≡ RegisterByte 0 Low ∷ RegisterByte 1 Low ∷ RegisterByte 0 High ∷ RegisterByte 1 High ∷ []
unfolding made_through name_register read_operand read_before_write write_operand register_of with_register register_id_of execute_combination keep_source store_codes
high_of_sum saved s = refl

-- It goes the same way whatever the registers and the codes hold.
goes_with : (saved : Codes) (s : State) (d : Data) (log : KeptCycles) → SameShape d (data_of saved s)
    → GoTheSameWay (rows_of_action add_registers) saved d.saved s (with_data d log s)
unfolding GoTheSameWay name_register read_operand read_before_write write_operand register_of with_register register_id_of execute_combination keep_source store_codes
goes_with saved s d log shape = (
  record { same_way = refl; shape = record { core_size = shape.core_size; drives_count = shape.drives_count; words_size = shape.words_size; both_due = shape.both_due; new_mode = shape.new_mode } },
  (
    record { same_way = refl; shape = record { core_size = shape.core_size; drives_count = shape.drives_count; words_size = shape.words_size; both_due = shape.both_due; new_mode = shape.new_mode } },
    (
      record { same_way = refl; shape = record { core_size = shape.core_size; drives_count = shape.drives_count; words_size = shape.words_size; both_due = shape.both_due; new_mode = shape.new_mode } },
      (
        record { same_way = refl; shape = record { core_size = shape.core_size; drives_count = shape.drives_count; words_size = shape.words_size; both_due = shape.both_due; new_mode = shape.new_mode } },
        (record { same_way = refl; shape = record { core_size = shape.core_size; drives_count = shape.drives_count; words_size = shape.words_size; both_due = shape.both_due; new_mode = shape.new_mode } }, (record { same_way = refl; shape = record { core_size = shape.core_size; drives_count = shape.drives_count; words_size = shape.words_size; both_due = refl; new_mode = shape.new_mode } }, (record { same_way = refl; shape = record { core_size = shape.core_size; drives_count = shape.drives_count; words_size = size_set s.world.processor.words d.words 1 1 _ _ shape.words_size; both_due = refl; new_mode = shape.new_mode } }, (record { same_way = refl; shape = record { core_size = shape.core_size; drives_count = shape.drives_count; words_size = size_set s.world.processor.words d.words 1 1 _ _ shape.words_size; both_due = refl; new_mode = shape.new_mode } }, tt)))),
      ),
    ),
  ),
)

pub goes : (saved other : Codes) (s u : State) → AreAlike saved other s u → GoTheSameWay (rows_of_action add_registers) saved other s u
goes saved other s u alike =
    subst (λ v. GoTheSameWay (rows_of_action add_registers) saved other s v) (sym alike.same_way)
    (goes_with saved s (data_of other u) u.world.bus.log alike.shape)
