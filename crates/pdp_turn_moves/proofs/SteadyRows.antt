-- What the rows of each action make of what depends on no notes of accesses and on no log.
use Rattle.std.proofs.Common.{◌≡◌, ℕ, ◌+◌, Bool, true, false, List, [], ◌∷◌, ◌++◌, Ok, Err, Result, refl, ap, if◌then◌else◌}
use Rattle.pdp_word.specs.declared.codes.Codes.{Codes}
use Rattle.pdp_word.specs.declared.size.Size.{Size}
use Rattle.pdp_word.specs.declared.size.Size.TheVariants.{Word, Byte}
use Rattle.pdp_action.specs.Operation.{size_of_combination, size_of_comparison, size_of_modification, size_of_replacement}
use Rattle.pdp_action.specs.declared.action.Action.{Action}
use Rattle.pdp_action.specs.declared.action.Action.TheVariants as action
use Rattle.pdp_decode.specs.Fields.{register_number}
use Rattle.pdp_decode.specs.declared.instruction.Specifier.{Specifier}
use Rattle.pdp_decode.specs.declared.instruction.Specifier.TheVariants.{Register, Deferred, Autoincrement, AutoincrementDeferred, Autodecrement, AutodecrementDeferred, Index, IndexDeferred}
use Rattle.pdp_kt11.specs.Handbook.Translation.{translate}
use Rattle.pdp_kt11.specs.declared.mode.Mode.{Mode}
use Rattle.pdp_kt11.specs.declared.mode.Mode.TheVariants.{Kernel}
use Rattle.pdp_kt11.specs.declared.place.Abort.{Abort}
use Rattle.pdp_kt11.specs.declared.place.Access.TheVariants.{Read}
use Rattle.pdp_unibus.specs.Handbook.BusWorld.{BusWorld}
use Rattle.pdp_operand.specs.Handbook.Operand.{fill_of, size_of_fill}
use Rattle.pdp_operand.specs.Phases.Phase.{State}
use Rattle.pdp_operand.specs.declared.place.Fill.{Fill}
use Rattle.pdp_operand.specs.declared.place.Fill.TheVariants.{Whole, Extended}
use Rattle.pdp_operand.specs.declared.place.Place.{Place}
use Rattle.pdp_operand.specs.declared.place.Place.TheVariants.{Reg, Mem}
use Rattle.pdp_instruction.specs.Handbook.Jump.{pop, push}
use Rattle.pdp_instruction.specs.Handbook.Operands.{is_late}
use Rattle.pdp_instruction.specs.declared.saved_context.SavedContext.{SavedContext}
use Rattle.pdp_made.specs.Cells.{Half, DataCell, CoreByte, CodeNow, Buffer}
use Rattle.pdp_made.specs.InstructionRows.{finish_rows, keep_source_row, operands_rows, pop_register_rows, rows_of_action, store_codes_row, take_register_row}
use Rattle.pdp_made.specs.OperandRows.{changed_by_write, find_rows, halves_of_operand, halves_of_result, read_before_write_row, read_row, value_changed, write_row}
use Rattle.pdp_made.specs.PhaseRows.{PhaseRow}
use Rattle.pdp_made.specs.ReferenceRows.{Halves, changed_by_reference, changed_if_placed, halves_if_placed, halves_referred, of_nothing, place_of_write}
use Rattle.pdp_made.specs.TrapRows.{halves_saved, put_at, put_word_row, red_rows, save_row, saved_counter, saved_status, status_changed, trap_rows, vector_status_row}
use Rattle.pdp_turn_moves.proofs.Noted.{Notes, bus_noting, noting}

-- A row is steady if it names the same cells whatever the notes.
abbrev pub IsSteadyRow : PhaseRow → Type 0
IsSteadyRow row = (s : State) (n : Notes) (c : DataCell) → row.made (noting s n) c ≡ row.made s c

abbrev pub AreSteadyRows : List PhaseRow → Type 0
AreSteadyRows [] = Unit {0}
AreSteadyRows (row ∷ rows) = IsSteadyRow row × AreSteadyRows rows

-- References
read_placed : (size : Size) (b : BusWorld) (n : Notes) (half : Half) (place : Result ℕ Abort)
    → halves_if_placed size (bus_noting b n) place half ≡ halves_if_placed size b place half
read_placed size b n half (Ok physical) = refl
read_placed size b n half (Err abort) = refl

referred : (size : Size) (mode : Mode) (address : ℕ) (b : BusWorld) (n : Notes) (half : Half)
    → halves_referred size mode address (bus_noting b n) half ≡ halves_referred size mode address b half
referred size mode address b n half = read_placed size b n half (translate mode address Read b.io_page.mapping).address

written_placed : (size : Size) (b : BusWorld) (n : Notes) (from : Halves) (c : DataCell) (place : Result ℕ Abort)
    → changed_if_placed size (bus_noting b n) place from c ≡ changed_if_placed size b place from c
written_placed size b n from c (Ok physical) = refl
written_placed size b n from c (Err abort) = refl

written : (size : Size) (mode : Mode) (address : ℕ) (b : BusWorld) (n : Notes) (from : Halves) (c : DataCell)
    → changed_by_reference size mode address (bus_noting b n) from c ≡ changed_by_reference size mode address b from c
written size mode address b n from (CoreByte k half) = written_placed size b n from (CoreByte k half) (place_of_write mode address b)
written size mode address b n from (CodeNow code) = written_placed size b n from (CodeNow code) (place_of_write mode address b)
written size mode address b n from (Buffer buffer) = written_placed size b n from (Buffer buffer) (place_of_write mode address b)
written size mode address b n from _ = refl

-- Operands
operand_read : (size : Size) (place : Place) (s : State) (n : Notes) (half : Half)
    → halves_of_operand size place (noting s n) half ≡ halves_of_operand size place s half
operand_read size (Reg id) s n half = refl
operand_read size (Mem cell) s n half = referred size cell.mode cell.address s.world.bus n half

value_read : (size : Size) (s : State) (n : Notes) (c : DataCell)
    → value_changed (halves_of_operand size s.latch.place (noting s n)) c ≡ value_changed (halves_of_operand size s.latch.place s) c
value_read size s n c = ap (λ from. value_changed from c) (λ i half. operand_read size s.latch.place s n half i)

reads : (size : Size) → IsSteadyRow (read_row size)
reads size s n c = value_read size s n c

reads_before_write : (size : Size) → IsSteadyRow (read_before_write_row size)
reads_before_write size s n c = value_read size s n c

operand_written : (how : Fill) (place : Place) (s : State) (n : Notes) (c : DataCell)
    → changed_by_write how place (noting s n) c ≡ changed_by_write how place s c
operand_written how (Reg id) s n c = refl
operand_written how (Mem cell) s n c = written (size_of_fill how) cell.mode cell.address s.world.bus n halves_of_result c

writes : (how : Fill) → IsSteadyRow (write_row how)
writes how s n c = operand_written how s.latch.place s n c

append_steady : (xs ys : List PhaseRow) → AreSteadyRows xs → AreSteadyRows ys → AreSteadyRows (xs ++ ys)
append_steady [] ys first second = second
append_steady (x ∷ xs) ys first second = (first.0, append_steady xs ys first.1 second)

finds : (size : Size) (spec : Specifier) → AreSteadyRows (find_rows size spec)
finds size (Register r) = (λ s n c. refl, tt)
finds size (Deferred r) = (λ s n c. refl, tt)
finds size (Autoincrement r) = (λ s n c. refl, tt)
finds size (AutoincrementDeferred r) = (λ s n c. refl, (λ s n c. refl, tt))
finds size (Autodecrement r) = (λ s n c. refl, tt)
finds size (AutodecrementDeferred r) = (λ s n c. refl, (λ s n c. refl, tt))
finds size (Index r) = (λ s n c. refl, tt)
finds size (IndexDeferred r) = (λ s n c. refl, (λ s n c. refl, tt))

operands_if : (late : Bool) (size : Size) (source destination : Specifier)
    → AreSteadyRows (if late then find_rows size destination ++ take_register_row size (register_number source) ∷ []
    else find_rows size source ++ read_row size ∷ keep_source_row ∷ find_rows size destination)
operands_if true size source destination = append_steady _ _ (finds size destination) (λ s n c. refl, tt)
operands_if false size source destination = append_steady _ _ (finds size source) (reads size, (λ s n c. refl, finds size destination))

operands : (size : Size) (source destination : Specifier) → AreSteadyRows (operands_rows size source destination)
operands size source destination = operands_if (is_late source destination) size source destination

finishes : (how : Fill) → AreSteadyRows (finish_rows how)
finishes how = (writes how, (λ s n c. refl, tt))

extended : (row : PhaseRow) (source : Specifier) → IsSteadyRow row → AreSteadyRows (find_rows Word source ++ read_row Word ∷ row ∷ store_codes_row ∷ [])
extended row source steady = append_steady _ _ (finds Word source) (reads Word, (steady, (λ s n c. refl, tt)))

pops_register : (r : ℕ) → AreSteadyRows (pop_register_rows r)
pops_register r = ((finds Word pop).0, (reads Word, (λ s n c. refl, tt)))

-- Each action
pub rows_steady : (a : Action) → AreSteadyRows (rows_of_action a)
rows_steady action.Halt = (λ s n c. refl, tt)
rows_steady action.Wait = (λ s n c. refl, tt)
rows_steady action.Reset = (λ s n c. refl, tt)
rows_steady action.ReturnFromTrap =
    ((finds Word pop).0, (reads Word, (λ s n c. refl, ((finds Word pop).0, (reads Word, (λ s n c. refl, tt))))))
rows_steady (action.Raise cause) = (λ s n c. refl, tt)
rows_steady (action.Jump destination) = append_steady _ _ (finds Word destination) (λ s n c. refl, (λ s n c. refl, tt))
rows_steady (action.JumpToSubroutine register destination) =
    append_steady _ _ (finds Word destination) (λ s n c. refl, ((finds Word push).0, (λ s n c. refl, (writes Whole, (λ s n c. refl, tt)))))
rows_steady (action.ReturnFromSubroutine register) = (λ s n c. refl, pops_register register)
rows_steady (action.Mark words) = (λ s n c. refl, pops_register 5)
rows_steady (action.SubtractOne register words) = (λ s n c. refl, tt)
rows_steady (action.ClearCodes mask) = (λ s n c. refl, tt)
rows_steady (action.SetCodes mask) = (λ s n c. refl, tt)
rows_steady (action.Branch condition offset) = (λ s n c. refl, tt)
rows_steady (action.Move source destination) = append_steady _ _ (operands Word source destination) (λ s n c. refl, finishes Whole)
rows_steady (action.MoveByte source destination) = append_steady _ _ (operands Byte source destination) (λ s n c. refl, finishes Extended)
rows_steady (action.Compare c source destination) =
    append_steady _ _ (operands (size_of_comparison c) source destination) (reads (size_of_comparison c), (λ s n d. refl, (λ s n d. refl, tt)))
rows_steady (action.Combine c source destination) =
    append_steady _ _ (operands (size_of_combination c) source destination) (reads_before_write (size_of_combination c), (λ s n d. refl, finishes (fill_of (size_of_combination c))))
rows_steady (action.Modify m destination) =
    append_steady _ _ (finds (size_of_modification m) destination) (reads_before_write (size_of_modification m), (λ s n c. refl, finishes (fill_of (size_of_modification m))))
rows_steady (action.Replace r destination) = append_steady _ _ (finds (size_of_replacement r) destination) (λ s n c. refl, finishes (fill_of (size_of_replacement r)))
rows_steady (action.Test size destination) = append_steady _ _ (finds size destination) (reads size, (λ s n c. refl, (λ s n c. refl, tt)))
rows_steady (action.MoveFromPrevious source) =
    append_steady _ _ (finds Word source) (λ s n c. refl, (reads Word, (λ s n c. refl, ((finds Word push).0, (λ s n c. refl, finishes Whole)))))
rows_steady (action.MoveToPrevious destination) =
    ((finds Word pop).0, (reads Word, (λ s n c. refl, append_steady _ _ (finds Word destination) (λ s n c. refl, (λ s n c. refl, finishes Whole)))))
rows_steady (action.Multiply register source) = extended _ source (λ s n c. refl)
rows_steady (action.Divide register source) = extended _ source (λ s n c. refl)
rows_steady (action.Shift register source) = extended _ source (λ s n c. refl)
rows_steady (action.ShiftPair register source) = extended _ source (λ s n c. refl)

-- The sequences
reads_vector : (vector : ℕ) → IsSteadyRow (vector_status_row vector)
reads_vector vector s n c = ap (λ from. status_changed from c) (λ i half. referred Word Kernel (vector + 2) s.world.bus n half i)

word_put : (from : Halves) (place : Place) (s : State) (n : Notes) (c : DataCell) → put_at from place (noting s n) c ≡ put_at from place s c
word_put from (Reg id) s n c = refl
word_put from (Mem cell) s n c = written Word cell.mode cell.address s.world.bus n from c

puts : (marks : Bool) (word : Codes → ℕ) (from : Halves) → IsSteadyRow (put_word_row marks word from)
puts marks word from s n c = word_put from s.latch.place s n c

saves : (address : ℕ) (word : Codes → ℕ) (from : Halves) → IsSteadyRow (save_row address word from)
saves address word from s n c = written Word Kernel address s.world.bus n from c

pub trap_steady : (marks : Bool) (vector : ℕ) (context : SavedContext) → AreSteadyRows (trap_rows marks vector context)
trap_steady marks vector context =
    (λ s n c. refl, (reads_vector vector, (λ s n c. refl, (puts marks (saved_status context) halves_saved, (λ s n c. refl, (puts marks (saved_counter context) of_nothing, (λ s n c. refl, tt)))))))

pub red_steady : (context : SavedContext) → AreSteadyRows (red_rows context)
red_steady context =
    (λ s n c. refl, (λ s n c. refl, (reads_vector 4, (saves 2 (saved_status context) halves_saved, (saves 0 (saved_counter context) of_nothing, (λ s n c. refl, tt))))))
