-- What the rows of each action and of each sequence leave: a word of core that their phases don't write, and every drive and the tape.
use Rattle.std.proofs.Common.{◌≡◌, ℕ, ◌*◌, ◌<◌, Bool, true, false, List, [], ◌∷◌, ◌++◌, refl, if◌then◌else◌}
use Rattle.pdp_word.specs.Physical.{first_register}
use Rattle.pdp_word.specs.declared.codes.Codes.{Codes}
use Rattle.pdp_word.specs.declared.size.Size.{Size}
use Rattle.pdp_word.specs.declared.size.Size.TheVariants.{Word, Byte}
use Rattle.pdp_action.specs.Operation.{size_of_combination, size_of_comparison, size_of_modification, size_of_replacement}
use Rattle.pdp_action.specs.declared.action.Action.{Action}
use Rattle.pdp_action.specs.declared.action.Action.TheVariants as action
use Rattle.pdp_decode.specs.Fields.{register_number}
use Rattle.pdp_decode.specs.declared.instruction.Specifier.{Specifier}
use Rattle.pdp_decode.specs.declared.instruction.Specifier.TheVariants.{Register, Deferred, Autoincrement, AutoincrementDeferred, Autodecrement, AutodecrementDeferred, Index, IndexDeferred}
use Rattle.pdp_kt11.specs.declared.mode.Mode.TheVariants.{Kernel}
use Rattle.pdp_operand.specs.Handbook.Operand.{fill_of, reference_at, write_operand, writing}
use Rattle.pdp_operand.specs.Handbook.Reference.{WriteWord}
use Rattle.pdp_operand.specs.Phases.Phase.{Phase, State, by_request, step}
use Rattle.pdp_operand.specs.declared.place.Fill.{Fill}
use Rattle.pdp_operand.specs.declared.place.Fill.TheVariants.{Whole, LowByte, Extended}
use Rattle.pdp_operand.specs.declared.place.Place.{Place}
use Rattle.pdp_operand.specs.declared.place.Place.TheVariants.{Reg, Mem}
use Rattle.pdp_instruction.specs.Handbook.Jump.{pop, push}
use Rattle.pdp_instruction.specs.Handbook.Operands.{is_late}
use Rattle.pdp_instruction.specs.Handbook.TrapSequence.{put_word, save}
use Rattle.pdp_instruction.specs.declared.saved_context.SavedContext.{SavedContext}
use Rattle.pdp_made.specs.Cells.{Half, CoreByte, DriveByte, TapeByte}
use Rattle.pdp_made.specs.InstructionRows.{finish_rows, keep_source_row, operands_rows, pop_register_rows, rows_of_action, store_codes_row, take_register_row}
use Rattle.pdp_made.specs.OperandRows.{changed_by_write, find_rows, halves_of_result, keeps_data, read_before_write_row, read_row, write_row}
use Rattle.pdp_made.specs.PhaseRows.{PhaseRow}
use Rattle.pdp_made.specs.ReferenceRows.{Halves, of_nothing}
use Rattle.pdp_made.specs.TrapRows.{give_up_row, halves_saved, put_at, put_word_row, red_rows, save_row, saved_counter, saved_status, trap_rows}
use Rattle.pdp_made_past.proofs.RowCycles.{Spares, cycles_of_phase, cycles_of_request, left_by, left_so, reference_left}

-- A row leaves a word that its phase doesn't write, and every drive and the tape.
pub record LeavesCells (row : PhaseRow) : Type 0 where
  pub core : (saved : Codes) (s : State) (k : ℕ) (half : Half) → k * 2 < first_register → Spares (cycles_of_phase (row.phase saved) s) k half
      → left_by (row.made s) (step (row.phase saved) s) (CoreByte k half) ≡ CoreByte k half ∷ []
  pub drives : (s : State) (drive k : ℕ) (half : Half) → row.made s (DriveByte drive k half) ≡ DriveByte drive k half ∷ []
  pub tape : (s : State) (k : ℕ) → row.made s (TapeByte k) ≡ TapeByte k ∷ []

abbrev pub AllLeave : List PhaseRow → Type 0
AllLeave [] = Unit {0}
AllLeave (row ∷ rows) = LeavesCells row × AllLeave rows

-- it changes no word of core
quiet : (row : PhaseRow) → ((s : State) (k : ℕ) (half : Half) → row.made s (CoreByte k half) ≡ CoreByte k half ∷ [])
    → ((s : State) (drive k : ℕ) (half : Half) → row.made s (DriveByte drive k half) ≡ DriveByte drive k half ∷ []) → ((s : State) (k : ℕ) → row.made s (TapeByte k) ≡ TapeByte k ∷ []) → LeavesCells row
quiet row core drives tape = record {
  core = λ saved s k half below spares. left_so (row.made s) (CoreByte k half) (core s k half) (step (row.phase saved) s);
  drives = drives;
  tape = tape;
}

-- a phase that changes no data, and the last of the red sequence
pub keeps : (p : Phase) → LeavesCells (keeps_data p)
keeps p = quiet _ (λ s k half. refl) (λ s drive k half. refl) (λ s k. refl)

pub gives_up : (context : SavedContext) → LeavesCells (give_up_row context)
gives_up context = quiet _ (λ s k half. refl) (λ s drive k half. refl) (λ s k. refl)

-- Writes
module _ (p : Phase) (s : State) (k : ℕ) (half : Half) (below : k * 2 < first_register) where
  filled_left : (how : Fill) (value : ℕ) (place : Place) → Spares (cycles_of_request (reference_at (writing how value) place) s.world.bus) k half
      → left_by (changed_by_write how place s) (by_request p s (reference_at (writing how value) place)) (CoreByte k half) ≡ CoreByte k half ∷ []
  filled_left how value (Reg id) spares = refl
  filled_left Whole value (Mem cell) spares = reference_left cell.mode cell.address value p s halves_of_result k half below Word spares
  filled_left LowByte value (Mem cell) spares = reference_left cell.mode cell.address value p s halves_of_result k half below Byte spares
  filled_left Extended value (Mem cell) spares = reference_left cell.mode cell.address value p s halves_of_result k half below Byte spares

  put_left : (from : Halves) (word : ℕ) (place : Place) → Spares (cycles_of_request (reference_at (WriteWord word) place) s.world.bus) k half
      → left_by (put_at from place s) (by_request p s (reference_at (WriteWord word) place)) (CoreByte k half) ≡ CoreByte k half ∷ []
  put_left from word (Reg id) spares = refl
  put_left from word (Mem cell) spares = reference_left cell.mode cell.address word p s from k half below Word spares

drive_filled : (how : Fill) (place : Place) (s : State) (drive k : ℕ) (half : Half) → changed_by_write how place s (DriveByte drive k half) ≡ DriveByte drive k half ∷ []
drive_filled how (Reg id) s drive k half = refl
drive_filled how (Mem cell) s drive k half = refl

tape_filled : (how : Fill) (place : Place) (s : State) (k : ℕ) → changed_by_write how place s (TapeByte k) ≡ TapeByte k ∷ []
tape_filled how (Reg id) s k = refl
tape_filled how (Mem cell) s k = refl

drive_put : (from : Halves) (place : Place) (s : State) (drive k : ℕ) (half : Half) → put_at from place s (DriveByte drive k half) ≡ DriveByte drive k half ∷ []
drive_put from (Reg id) s drive k half = refl
drive_put from (Mem cell) s drive k half = refl

tape_put : (from : Halves) (place : Place) (s : State) (k : ℕ) → put_at from place s (TapeByte k) ≡ TapeByte k ∷ []
tape_put from (Reg id) s k = refl
tape_put from (Mem cell) s k = refl

writes : (how : Fill) → LeavesCells (write_row how)
unfolding write_operand
writes how = record {
  core = λ saved s k half below spares. filled_left (write_operand how) s k half below how s.latch.result s.latch.place spares;
  drives = λ s drive k half. drive_filled how s.latch.place s drive k half;
  tape = λ s k. tape_filled how s.latch.place s k;
}

puts : (marks : Bool) (word : Codes → ℕ) (from : Halves) → LeavesCells (put_word_row marks word from)
unfolding put_word
puts marks word from = record {
  core = λ saved s k half below spares. put_left (put_word marks (word saved)) s k half below from (word saved) s.latch.place spares;
  drives = λ s drive k half. drive_put from s.latch.place s drive k half;
  tape = λ s k. tape_put from s.latch.place s k;
}

saves : (address : ℕ) (word : Codes → ℕ) (from : Halves) → LeavesCells (save_row address word from)
unfolding save
saves address word from = record {
  core = λ saved s k half below spares. reference_left Kernel address (word saved) (save address (word saved)) s from k half below Word spares;
  drives = λ s drive k half. refl;
  tape = λ s k. refl;
}

-- Operands
append_leave : (xs ys : List PhaseRow) → AllLeave xs → AllLeave ys → AllLeave (xs ++ ys)
append_leave [] ys first second = second
append_leave (x ∷ xs) ys first second = (first.0, append_leave xs ys first.1 second)

reads : (size : Size) → LeavesCells (read_row size)
reads size = quiet _ (λ s k half. refl) (λ s drive k half. refl) (λ s k. refl)

reads_before_write : (size : Size) → LeavesCells (read_before_write_row size)
reads_before_write size = quiet _ (λ s k half. refl) (λ s drive k half. refl) (λ s k. refl)

finds : (size : Size) (spec : Specifier) → AllLeave (find_rows size spec)
finds size (Register r) = (quiet _ (λ s k half. refl) (λ s drive k half. refl) (λ s k. refl), tt)
finds size (Deferred r) = (quiet _ (λ s k half. refl) (λ s drive k half. refl) (λ s k. refl), tt)
finds size (Autoincrement r) = (quiet _ (λ s k half. refl) (λ s drive k half. refl) (λ s k. refl), tt)
finds size (AutoincrementDeferred r) = (quiet _ (λ s k half. refl) (λ s drive k half. refl) (λ s k. refl), (quiet _ (λ s k half. refl) (λ s drive k half. refl) (λ s k. refl), tt))
finds size (Autodecrement r) = (quiet _ (λ s k half. refl) (λ s drive k half. refl) (λ s k. refl), tt)
finds size (AutodecrementDeferred r) = (quiet _ (λ s k half. refl) (λ s drive k half. refl) (λ s k. refl), (quiet _ (λ s k half. refl) (λ s drive k half. refl) (λ s k. refl), tt))
finds size (Index r) = (quiet _ (λ s k half. refl) (λ s drive k half. refl) (λ s k. refl), tt)
finds size (IndexDeferred r) = (quiet _ (λ s k half. refl) (λ s drive k half. refl) (λ s k. refl), (quiet _ (λ s k half. refl) (λ s drive k half. refl) (λ s k. refl), tt))

operands_if : (late : Bool) (size : Size) (source destination : Specifier)
    → AllLeave (if late then find_rows size destination ++ take_register_row size (register_number source) ∷ []
    else find_rows size source ++ read_row size ∷ keep_source_row ∷ find_rows size destination)
operands_if true size source destination = append_leave _ _ (finds size destination) (quiet _ (λ s k half. refl) (λ s drive k half. refl) (λ s k. refl), tt)
operands_if false size source destination = append_leave _ _ (finds size source) (reads size, (quiet _ (λ s k half. refl) (λ s drive k half. refl) (λ s k. refl), finds size destination))

operands : (size : Size) (source destination : Specifier) → AllLeave (operands_rows size source destination)
operands size source destination = operands_if (is_late source destination) size source destination

finishes : (how : Fill) → AllLeave (finish_rows how)
finishes how = (writes how, (quiet _ (λ s k half. refl) (λ s drive k half. refl) (λ s k. refl), tt))

extended : (row : PhaseRow) (source : Specifier) → LeavesCells row → AllLeave (find_rows Word source ++ read_row Word ∷ row ∷ store_codes_row ∷ [])
extended row source leaves = append_leave _ _ (finds Word source) (reads Word, (leaves, (quiet _ (λ s k half. refl) (λ s drive k half. refl) (λ s k. refl), tt)))

pops_register : (r : ℕ) → AllLeave (pop_register_rows r)
pops_register r = ((finds Word pop).0, (reads Word, (quiet _ (λ s k half. refl) (λ s drive k half. refl) (λ s k. refl), tt)))

-- Each action
pub rows_leave : (a : Action) → AllLeave (rows_of_action a)
rows_leave action.Halt = (quiet _ (λ s k half. refl) (λ s drive k half. refl) (λ s k. refl), tt)
rows_leave action.Wait = (quiet _ (λ s k half. refl) (λ s drive k half. refl) (λ s k. refl), tt)
rows_leave action.Reset = (quiet _ (λ s k half. refl) (λ s drive k half. refl) (λ s k. refl), tt)
rows_leave action.ReturnFromTrap = ((finds Word pop).0, (reads Word, (quiet _ (λ s k half. refl) (λ s drive k half. refl) (λ s k. refl), ((finds Word pop).0, (reads Word, (quiet _ (λ s k half. refl) (λ s drive k half. refl) (λ s k. refl), tt))))))
rows_leave (action.Raise cause) = (quiet _ (λ s k half. refl) (λ s drive k half. refl) (λ s k. refl), tt)
rows_leave (action.Jump destination) = append_leave _ _ (finds Word destination) (quiet _ (λ s k half. refl) (λ s drive k half. refl) (λ s k. refl), (quiet _ (λ s k half. refl) (λ s drive k half. refl) (λ s k. refl), tt))
rows_leave (action.JumpToSubroutine register destination) =
    append_leave _ _ (finds Word destination) (quiet _ (λ s k half. refl) (λ s drive k half. refl) (λ s k. refl), ((finds Word push).0, (quiet _ (λ s k half. refl) (λ s drive k half. refl) (λ s k. refl), (writes Whole, (quiet _ (λ s k half. refl) (λ s drive k half. refl) (λ s k. refl), tt)))))
rows_leave (action.ReturnFromSubroutine register) = (quiet _ (λ s k half. refl) (λ s drive k half. refl) (λ s k. refl), pops_register register)
rows_leave (action.Mark words) = (quiet _ (λ s k half. refl) (λ s drive k half. refl) (λ s k. refl), pops_register 5)
rows_leave (action.SubtractOne register words) = (quiet _ (λ s k half. refl) (λ s drive k half. refl) (λ s k. refl), tt)
rows_leave (action.ClearCodes mask) = (quiet _ (λ s k half. refl) (λ s drive k half. refl) (λ s k. refl), tt)
rows_leave (action.SetCodes mask) = (quiet _ (λ s k half. refl) (λ s drive k half. refl) (λ s k. refl), tt)
rows_leave (action.Branch condition offset) = (quiet _ (λ s k half. refl) (λ s drive k half. refl) (λ s k. refl), tt)
rows_leave (action.Move source destination) = append_leave _ _ (operands Word source destination) (quiet _ (λ s k half. refl) (λ s drive k half. refl) (λ s k. refl), finishes Whole)
rows_leave (action.MoveByte source destination) = append_leave _ _ (operands Byte source destination) (quiet _ (λ s k half. refl) (λ s drive k half. refl) (λ s k. refl), finishes Extended)
rows_leave (action.Compare c source destination) =
    append_leave _ _ (operands (size_of_comparison c) source destination) (reads (size_of_comparison c), (quiet _ (λ s k half. refl) (λ s drive k half. refl) (λ s k. refl), (quiet _ (λ s k half. refl) (λ s drive k half. refl) (λ s k. refl), tt)))
rows_leave (action.Combine c source destination) =
    append_leave _ _ (operands (size_of_combination c) source destination) (reads_before_write (size_of_combination c), (quiet _ (λ s k half. refl) (λ s drive k half. refl) (λ s k. refl), finishes (fill_of (size_of_combination c))))
rows_leave (action.Modify m destination) =
    append_leave _ _ (finds (size_of_modification m) destination) (reads_before_write (size_of_modification m), (quiet _ (λ s k half. refl) (λ s drive k half. refl) (λ s k. refl), finishes (fill_of (size_of_modification m))))
rows_leave (action.Replace r destination) = append_leave _ _ (finds (size_of_replacement r) destination) (quiet _ (λ s k half. refl) (λ s drive k half. refl) (λ s k. refl), finishes (fill_of (size_of_replacement r)))
rows_leave (action.Test size destination) = append_leave _ _ (finds size destination) (reads size, (quiet _ (λ s k half. refl) (λ s drive k half. refl) (λ s k. refl), (quiet _ (λ s k half. refl) (λ s drive k half. refl) (λ s k. refl), tt)))
rows_leave (action.MoveFromPrevious source) =
    append_leave _ _ (finds Word source) (quiet _ (λ s k half. refl) (λ s drive k half. refl) (λ s k. refl), (reads Word, (quiet _ (λ s k half. refl) (λ s drive k half. refl) (λ s k. refl), ((finds Word push).0, (quiet _ (λ s k half. refl) (λ s drive k half. refl) (λ s k. refl), finishes Whole)))))
rows_leave (action.MoveToPrevious destination) =
    ((finds Word pop).0, (reads Word, (quiet _ (λ s k half. refl) (λ s drive k half. refl) (λ s k. refl), append_leave _ _ (finds Word destination) (quiet _ (λ s k half. refl) (λ s drive k half. refl) (λ s k. refl), (quiet _ (λ s k half. refl) (λ s drive k half. refl) (λ s k. refl), finishes Whole)))))
rows_leave (action.Multiply register source) = extended _ source (quiet _ (λ s k half. refl) (λ s drive k half. refl) (λ s k. refl))
rows_leave (action.Divide register source) = extended _ source (quiet _ (λ s k half. refl) (λ s drive k half. refl) (λ s k. refl))
rows_leave (action.Shift register source) = extended _ source (quiet _ (λ s k half. refl) (λ s drive k half. refl) (λ s k. refl))
rows_leave (action.ShiftPair register source) = extended _ source (quiet _ (λ s k half. refl) (λ s drive k half. refl) (λ s k. refl))

-- The sequences
pub trap_leave : (marks : Bool) (vector : ℕ) (context : SavedContext) → AllLeave (trap_rows marks vector context)
trap_leave marks vector context =
    (quiet _ (λ s k half. refl) (λ s drive k half. refl) (λ s k. refl), (quiet _ (λ s k half. refl) (λ s drive k half. refl) (λ s k. refl), (quiet _ (λ s k half. refl) (λ s drive k half. refl) (λ s k. refl), (puts marks (saved_status context) halves_saved, (quiet _ (λ s k half. refl) (λ s drive k half. refl) (λ s k. refl), (puts marks (saved_counter context) of_nothing, (quiet _ (λ s k half. refl) (λ s drive k half. refl) (λ s k. refl), tt)))))))

pub red_leave : (context : SavedContext) → AllLeave (red_rows context)
red_leave context = (quiet _ (λ s k half. refl) (λ s drive k half. refl) (λ s k. refl), (quiet _ (λ s k half. refl) (λ s drive k half. refl) (λ s k. refl), (quiet _ (λ s k half. refl) (λ s drive k half. refl) (λ s k. refl), (saves 2 (saved_status context) halves_saved, (saves 0 (saved_counter context) of_nothing, (quiet _ (λ s k half. refl) (λ s drive k half. refl) (λ s k. refl), tt))))))
