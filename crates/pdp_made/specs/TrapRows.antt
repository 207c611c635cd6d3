-- Rows of the sequences of traps: DEC PDP-11/40 Processor Handbook (1972), Processor traps and
-- Stack limit violations. Of what a sequence saves, PC is no data, nor is the program status word
-- but for its codes.
use Rattle.std.specs.Prelude.{ℕ, ◌+◌, Bool, List, [], ◌∷◌, ◌++◌}
use Rattle.pdp_word.specs.declared.codes.Codes.{Codes}
use Rattle.pdp_word.specs.declared.size.Size.TheVariants.{Word}
use Rattle.pdp_kt11.specs.declared.mode.Mode.TheVariants.{Kernel}
use Rattle.pdp_io_page.specs.Handbook.Status.{status_word}
use Rattle.pdp_operand.specs.Phases.Phase.{State}
use Rattle.pdp_operand.specs.declared.place.Place.{Place}
use Rattle.pdp_operand.specs.declared.place.Place.TheVariants.{Reg, Mem}
use Rattle.pdp_operand.specs.declared.processor.RegisterId.TheVariants.{KernelStack}
use Rattle.pdp_instruction.specs.Handbook.TrapSequence.{bare_stack, enter, enter_red, give_up}
use Rattle.pdp_instruction.specs.Handbook.TrapSequence.{new_mode, put_word, save, vector_counter}
use Rattle.pdp_instruction.specs.Handbook.TrapSequence.{vector_status}
use Rattle.pdp_instruction.specs.declared.saved_context.SavedContext.{SavedContext}
use Rattle.pdp_made.specs.Cells.{Low, DataCell, CodeSaved, StatusByte}
use Rattle.pdp_made.specs.InstructionRows.{codes_changed}
use Rattle.pdp_made.specs.OperandRows.{keeps_data, lower_row}
use Rattle.pdp_made.specs.PhaseRows.{PhaseRow, of_itself}
use Rattle.pdp_made.specs.ReferenceRows.{Halves, changed_by_reference, halves_of_codes}
use Rattle.pdp_made.specs.ReferenceRows.{halves_referred, of_nothing, register_changed}

-- the context of a trap with these codes
abbrev pub with_saved_codes : SavedContext → Codes → SavedContext
with_saved_codes context codes = record context {
  status = record context.status { codes = codes };
}

-- the program status word that is saved
abbrev pub halves_saved : Halves
halves_saved half = halves_of_codes CodeSaved half

abbrev pub saved_status : SavedContext → Codes → ℕ
saved_status context codes = status_word (with_saved_codes context codes).status

abbrev pub saved_counter : SavedContext → Codes → ℕ
saved_counter context codes = context.counter

-- the new program status word is that of the vector
abbrev pub status_changed : Halves → DataCell → List DataCell
status_changed from (StatusByte half) = from half
status_changed from c = c ∷ []

abbrev pub vector_status_row : ℕ → PhaseRow
vector_status_row vector = record {
  phase = λ _. vector_status vector;
  made = λ s c. status_changed (halves_referred Word Kernel (vector + 2) s.world.bus) c;
}

-- a word is written at the place of the latch, or in kernel space
abbrev pub put_at : Halves → Place → State → DataCell → List DataCell
put_at from (Reg id) s c = c ∷ []
put_at from (Mem cell) s c =
    changed_by_reference Word cell.mode cell.address s.world.bus from c

abbrev pub put_word_row : Bool → (Codes → ℕ) → Halves → PhaseRow
put_word_row marks word from = record {
  phase = λ codes. put_word marks (word codes);
  made = λ s c. put_at from s.latch.place s c;
}

abbrev pub save_row : ℕ → (Codes → ℕ) → Halves → PhaseRow
save_row address word from = record {
  phase = λ codes. save address (word codes);
  made = λ s c. changed_by_reference Word Kernel address s.world.bus from c;
}

-- the codes become those of the new program status word
abbrev pub of_new_status : DataCell → List DataCell
of_new_status c = codes_changed (λ code. StatusByte Low ∷ []) c

abbrev pub enter_row : SavedContext → PhaseRow
enter_row context = record {
  phase = λ codes. enter (with_saved_codes context codes);
  made = λ s c. of_new_status c;
}

abbrev pub push_rows : Bool → (Codes → ℕ) → Halves → List PhaseRow
push_rows marks word from = lower_row new_mode 6 2 ∷ put_word_row marks word from ∷ []

-- the sequence of a trap
abbrev pub trap_rows : Bool → ℕ → SavedContext → List PhaseRow
trap_rows marks vector context =
    keeps_data (vector_counter vector) ∷ vector_status_row vector
    ∷ push_rows marks (saved_status context) halves_saved
    ++ (push_rows marks (saved_counter context) of_nothing ++ (enter_row context ∷ []))

-- the red sequence: kernel R6 becomes 4, and then 0
abbrev pub bare_stack_row : PhaseRow
bare_stack_row = record {
  phase = λ _. bare_stack;
  made = λ s c. register_changed KernelStack of_nothing of_itself c;
}

abbrev pub enter_red_row : SavedContext → PhaseRow
enter_red_row context = record {
  phase = λ codes. enter_red (with_saved_codes context codes);
  made = λ s c. register_changed KernelStack of_nothing of_new_status c;
}

abbrev pub red_rows : SavedContext → List PhaseRow
red_rows context =
    bare_stack_row ∷ keeps_data (vector_counter 4) ∷ vector_status_row 4
    ∷ save_row 2 (saved_status context) halves_saved
    ∷ save_row 0 (saved_counter context) of_nothing ∷ enter_red_row context ∷ []

-- the processor halts, with the old program status
abbrev pub give_up_row : SavedContext → PhaseRow
give_up_row context = record {
  phase = λ codes. give_up (with_saved_codes context codes);
  made = λ s c. codes_changed (λ code. CodeSaved code ∷ []) c;
}
