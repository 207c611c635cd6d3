-- The rows of the phases that find, read and write operands are sound.
use Rattle.std.proofs.Common.{◌≡◌, ◌<◌, ℕ, ◌+◌, ◌%◌, Bool, true, false, List, length, Option, None, refl, sym, ◌∙◌, arith, nat_le, if◌then◌else◌}
use Rattle.pdp_word.specs.Size.{span}
use Rattle.pdp_word.specs.Word.{less}
use Rattle.pdp_word.specs.declared.codes.Codes.{Codes}
use Rattle.pdp_word.specs.declared.size.Size.{Size}
use Rattle.pdp_word.specs.declared.size.Size.TheVariants.{Word, Byte}
use Rattle.pdp_kt11.specs.declared.mode.Mode.{Mode}
use Rattle.pdp_store.specs.CycleLogs.{KeptCycles}
use Rattle.pdp_unibus.specs.Handbook.BusWorld.{BusWorld}
use Rattle.pdp_action.specs.declared.trap.Trap.TheVariants.{StackLimit}
use Rattle.pdp_decode.specs.declared.instruction.Specifier.{Specifier}
use Rattle.pdp_decode.specs.declared.instruction.Specifier.TheVariants.{Register, Deferred, Autoincrement, AutoincrementDeferred, Autodecrement, AutodecrementDeferred, Index, IndexDeferred}
use Rattle.pdp_operand.specs.Handbook.Operand.{codes_left, filled_register, grow, index, is_status, indirect, is_lowered_to_red, lower, mode_now, name_register, named_register_id, point, read_before_write, read_operand, step_of, with_stack_trap_if, write_operand}
use Rattle.pdp_operand.specs.Handbook.Processor.{register_of, with_register}
use Rattle.pdp_operand.specs.Handbook.RegisterId.{register_id_of}
use Rattle.pdp_operand.specs.Phases.Phase.{Inner, State, Nothing, Raise, by_request, inner_of, step}
use Rattle.pdp_operand.specs.declared.place.Cell as places
use Rattle.pdp_operand.specs.declared.place.Fill.{Fill}
use Rattle.pdp_operand.specs.declared.place.Fill.TheVariants as fill
use Rattle.pdp_operand.specs.declared.place.Place.{Place}
use Rattle.pdp_operand.specs.declared.place.Place.TheVariants.{Reg, Mem}
use Rattle.pdp_operand.specs.declared.processor.Processor.{Processor}
use Rattle.pdp_operand.specs.declared.processor.RegisterId.{RegisterId}
use Rattle.pdp_operand.specs.declared.processor.RegisterId.TheVariants.{ProgramCounter}
use Rattle.pdp_made.specs.Cells.{BusData, Data, DataCell, CoreByte, DriveByte, RegisterByte, CodeNow, Buffer, ValueByte, SourceByte, ResultByte, StatusByte, CodeDue, CodeSaved, TapeByte, ConditionCode, SameShape, data_of, data_on, flag_due, processor_with, with_data}
use Rattle.pdp_made.specs.EffectRows.{going_up}
use Rattle.pdp_made.specs.OperandRows.{changed_by_write, find_rows, grow_row, halves_of_operand, halves_of_result, keeps_data, lower_row, read_before_write_row, read_row, register_stepped, value_changed, write_row}
use Rattle.pdp_made.specs.PhaseRows.{AreSoundRows, IsSoundRow, CellsTell, TellsEnds, of_itself}
use Rattle.pdp_made.specs.ReferenceRows.{Halves, changed_by_reference, changed_if_placed, cut_to, halves_filled, halves_of, place_of_write}
use Rattle.pdp_made.proofs.Frames.{itself_tells, lost_tells, on_same, sound_by, value_is, words_changed, words_marking}
use Rattle.pdp_made.proofs.Halves.{HalvesTell, advanced_tells, cut_tells, extended_tells, low_byte_tells, retreated_tells}
use Rattle.pdp_made.proofs.References.{bus_made, here_after, read_step, there_after, write_step}
use Rattle.pdp_made.proofs.Registers.{register_set, register_tells}
use Rattle.pdp_made.proofs.Writings.{BusTells}

-- a register that steps
module _ (d e : Data) (p : Processor) (size : length d.words ≡ length e.words) (id : RegisterId) where
  abbrev there : ℕ
  there = register_of (processor_with d.words p) id

  abbrev here : ℕ
  here = register_of (processor_with e.words p) id

  abbrev set_to : ℕ → ℕ → Type 0
  set_to b a = CellsTell (register_stepped id) d e (record d { words = (with_register (processor_with d.words p) id b).words })
      (record e { words = (with_register (processor_with e.words p) id a).words })

  stepped : (b a : ℕ) → HalvesTell d e (going_up (halves_of id)) b a → set_to b a
  stepped b a tells = words_changed d e id (going_up (halves_of id)) _ _
      (register_set d e (going_up (halves_of id)) of_itself a b tells (processor_with e.words p) (processor_with d.words p) id size (λ n half all. all.0))

  pub advanced : (by : ℕ) → set_to ((there + by) % 65536) ((here + by) % 65536)
  advanced by = stepped _ _ (advanced_tells d e (halves_of id) there here by (register_tells d e p id))

  pub retreated : (by : ℕ) → by < 257 → set_to (less there by) (less here by)
  retreated by small = stepped _ _ (retreated_tells d e (halves_of id) there here by small (register_tells d e p id))

-- the phases that only find a place
names : (r : ℕ) → IsSoundRow (keeps_data (name_register r))
unfolding name_register
names r = sound_by _ (λ saved s d log shape. itself_tells d (data_of saved s))

points : (r : ℕ) → IsSoundRow (keeps_data (point r))
unfolding point
points r = sound_by _ (λ saved s d log shape. itself_tells d (data_of saved s))

grows : (r by : ℕ) → IsSoundRow (grow_row r by)
unfolding grow
grows r by = sound_by _ (λ saved s d log shape. advanced d (data_of saved s) s.world.processor shape.words_size (named_register_id (inner_of s) r) by)

module _ (mode : Inner → Mode) (r by : ℕ) (small : by < 257) (saved : Codes) (s : State) (d : Data) (log : KeptCycles) (shape : SameShape d (data_of saved s))
    (same : mode (inner_of (with_data d log s)) ≡ mode (inner_of s)) where
  lowered : (red other : Bool) → TellsEnds (register_stepped (register_id_of (mode (inner_of s)) r)) of_itself saved d.saved d (data_of saved s)
      (by_request (lower mode r by) s (if red then Raise StackLimit else Nothing)) (by_request (lower mode r by) (with_data d log s) (if other then Raise StackLimit else Nothing))
  unfolding lower
  lowered true true = lost_tells d (data_of saved s)
  lowered true false = tt
  lowered false true = tt
  lowered false false = rw same (retreated d (data_of saved s) s.world.processor shape.words_size (register_id_of (mode (inner_of s)) r) by small)

pub lowers : (mode : Inner → Mode) (r by : ℕ) → by < 257
    → ((saved : Codes) (s : State) (d : Data) (log : KeptCycles) → SameShape d (data_of saved s) → mode (inner_of (with_data d log s)) ≡ mode (inner_of s))
    → IsSoundRow (lower_row mode r by)
unfolding lower
lowers mode r by small same = sound_by _ (λ saved s d log shape. lowered mode r by small saved s d log shape (same saved s d log shape)
    (is_lowered_to_red (mode (inner_of s)) r by s.world.processor) (is_lowered_to_red (mode (inner_of (with_data d log s))) r by (processor_with d.words s.world.processor)))

indexes : (r : ℕ) → IsSoundRow (keeps_data (index r))
unfolding index register_of with_register
indexes r = sound_by _ (λ saved s d log shape. read_step (index r) of_itself saved s d log shape Word (mode_now (inner_of s)) (register_of s.world.processor ProgramCounter)
    (λ there after b a other same tells. on_same of_itself d (data_of saved s) d (data_of saved s) (data_on there) (data_on after) d.words s.world.processor.words other same refl refl
    (itself_tells d (data_of saved s))))

-- The place of the latch, made an argument
abbrev pub placed : Place → State → State
placed place s = record s { latch = record s.latch { place = place } }

module _ (saved : Codes) (s : State) (d : Data) (log : KeptCycles) (shape : SameShape d (data_of saved s)) where
  abbrev e : Data
  e = data_of saved s

  -- at a place of memory, where a stack trap may be pending after the reference
  marked : (marks : Bool) (made : DataCell → List DataCell) (u t : Data) (x y : BusData) → u.words ≡ d.words → t.words ≡ s.world.processor.words → x ≡ u.bus → y ≡ t.bus → CellsTell made d e u t
      → CellsTell made d e (record u { bus = x; words = (with_stack_trap_if marks (processor_with d.words s.world.processor)).words })
      (record t { bus = y; words = (with_stack_trap_if marks s.world.processor).words })
  marked marks made u t x y there here other same tells = on_same made d e u t x y _ _ other same
      (words_marking marks (processor_with d.words s.world.processor) ∙ sym there) (words_marking marks s.world.processor ∙ sym here) tells

  indirect_at : (place : Place) → TellsEnds of_itself of_itself saved d.saved d e (step indirect (placed place s)) (step indirect (with_data d log (placed place s)))
  unfolding indirect
  indirect_at (Reg id) = itself_tells d e
  indirect_at (Mem cell) = read_step indirect of_itself saved (placed (Mem cell) s) d log shape Word cell.mode cell.address
      (λ there after b a other same tells. marked cell.yellow of_itself d e (data_on there) (data_on after) refl refl other same (itself_tells d e))

  -- an operand in a register
  from_register : (size : Size) (id : RegisterId) → CellsTell (value_changed (cut_to size (halves_of id))) d e
      (record d { value = register_of (processor_with d.words s.world.processor) id % span size }) (record e { value = register_of s.world.processor id % span size })
  from_register size id = value_is d e (cut_to size (halves_of id)) _ _ (cut_tells d e size (halves_of id) _ _ (register_tells d e s.world.processor id))

  read_at_place : (size : Size) (place : Place) → TellsEnds (value_changed (halves_of_operand size place s)) of_itself saved d.saved d e
      (step (read_operand size) (placed place s)) (step (read_operand size) (with_data d log (placed place s)))
  unfolding read_operand
  read_at_place size (Reg id) = from_register size id
  read_at_place size (Mem cell) = read_step (read_operand size) (value_changed (halves_of_operand size (Mem cell) s)) saved (placed (Mem cell) s) d log shape size cell.mode cell.address
      (λ there after b a other same tells. marked cell.yellow (value_changed (halves_of_operand size (Mem cell) s)) (record d { value = b }) (record e { value = a }) (data_on there) (data_on after) refl refl other same
      (value_is d e (halves_of_operand size (Mem cell) s) b a tells))

  read_before_at : (size : Size) (place : Place) → TellsEnds (value_changed (halves_of_operand size place s)) of_itself saved d.saved d e
      (step (read_before_write size) (placed place s)) (step (read_before_write size) (with_data d log (placed place s)))
  unfolding read_before_write
  read_before_at size (Reg id) = from_register size id
  read_before_at size (Mem cell) = read_step (read_before_write size) (value_changed (halves_of_operand size (Mem cell) s)) saved (placed (Mem cell) s) d log shape size cell.mode cell.address
      (λ there after b a other same tells. on_same (value_changed (halves_of_operand size (Mem cell) s)) d e (record d { value = b }) (record e { value = a }) (data_on there) (data_on after) d.words s.world.processor.words other same refl refl
      (value_is d e (halves_of_operand size (Mem cell) s) b a tells))

indirects : IsSoundRow (keeps_data indirect)
indirects = sound_by _ (λ saved s d log shape. indirect_at saved s d log shape s.latch.place)

pub reads_operand : (size : Size) → IsSoundRow (read_row size)
reads_operand size = sound_by _ (λ saved s d log shape. read_at_place saved s d log shape size s.latch.place)

pub reads_before_write : (size : Size) → IsSoundRow (read_before_write_row size)
reads_before_write size = sound_by _ (λ saved s d log shape. read_before_at saved s d log shape size s.latch.place)

-- What a write changes of the bus, and the codes that are left to be stored
abbrev DueTells : Data → Data → Option Codes → Option Codes → Type 0
DueTells d e x y = (code : ConditionCode) → flag_due code d.due ≡ flag_due code e.due → flag_due code x ≡ flag_due code y

module _ (d e : Data) (size : Size) (mode : Mode) (address : ℕ) (b : BusWorld) (from : Halves) (x y : BusData) (tells : BusTells d e (λ c. changed_if_placed size b (place_of_write mode address b) from c) x y)
    (due left : Option Codes) (due_tells : DueTells d e due left) where
  pub bus_changed : CellsTell (changed_by_reference size mode address b from) d e (record d { bus = x; due = due }) (record e { bus = y; due = left })
  bus_changed (CoreByte k half) all = tells.core k half all
  bus_changed (DriveByte n k half) all = tells.drives n k half all
  bus_changed (RegisterByte n half) all = all.0
  bus_changed (CodeNow code) all = tells.codes code all
  bus_changed (Buffer buffer) all = tells.buffers buffer all
  bus_changed (ValueByte half) all = all.0
  bus_changed (SourceByte half) all = all.0
  bus_changed (ResultByte half) all = all.0
  bus_changed (StatusByte half) all = all.0
  bus_changed (CodeDue code) all = due_tells code all.0
  bus_changed (CodeSaved code) all = all.0
  bus_changed (TapeByte k) all = tells.tape k all

left_if : (status : Bool) (x y : Option Codes) (code : ConditionCode) → flag_due code x ≡ flag_due code y
    → flag_due code (if status then None else x) ≡ flag_due code (if status then None else y)
left_if true x y code same = refl
left_if false x y code same = same

module _ (saved : Codes) (s : State) (d : Data) (log : KeptCycles) (shape : SameShape d (data_of saved s)) where
  result_there : HalvesTell d (e saved s d log shape) halves_of_result d.result s.latch.result
  result_there half all = all.0

  filled : (how : Fill) (id : RegisterId) → HalvesTell d (e saved s d log shape) (halves_filled how (halves_of id) halves_of_result)
      (filled_register how (register_of (processor_with d.words s.world.processor) id) d.result) (filled_register how (register_of s.world.processor id) s.latch.result)
  filled fill.Whole id = result_there
  filled fill.LowByte id = low_byte_tells d (e saved s d log shape) (halves_of id) halves_of_result _ _ _ _ (register_tells d (e saved s d log shape) s.world.processor id) result_there
  filled fill.Extended id = extended_tells d (e saved s d log shape) halves_of_result _ _ result_there

  module _ (how : Fill) (cell : places.Cell) (size : Size) where
    resumed : (there after : BusWorld) (at : ℕ) → BusTells d (e saved s d log shape) (bus_made (write_operand how) of_itself saved (placed (Mem cell) s) d log shape halves_of_result size cell.mode cell.address s.latch.result d.result result_there) (data_on there) (data_on after)
        → CellsTell (changed_by_reference size cell.mode cell.address s.world.bus halves_of_result) d (e saved s d log shape)
        (there_after (write_operand how) of_itself saved (placed (Mem cell) s) d log shape there at) (here_after (write_operand how) of_itself saved (placed (Mem cell) s) d log shape after at)
    unfolding write_operand
    resumed there after at tells = marked saved s d log shape cell.yellow (changed_by_reference size cell.mode cell.address s.world.bus halves_of_result)
        (record d { bus = data_on there; due = codes_left at d.due }) (record (e saved s d log shape) { bus = data_on after; due = codes_left at s.latch.codes }) (data_on there) (data_on after) refl refl refl refl
        (bus_changed d (e saved s d log shape) size cell.mode cell.address s.world.bus halves_of_result (data_on there) (data_on after) tells (codes_left at d.due) (codes_left at s.latch.codes) (left_if (is_status at) d.due s.latch.codes))

  write_at : (how : Fill) (place : Place) → TellsEnds (changed_by_write how place s) of_itself saved d.saved d (e saved s d log shape) (step (write_operand how) (placed place s)) (step (write_operand how) (with_data d log (placed place s)))
  unfolding write_operand
  write_at how (Reg id) = words_changed d (e saved s d log shape) id (halves_filled how (halves_of id) halves_of_result) _ _
      (register_set d (e saved s d log shape) (halves_filled how (halves_of id) halves_of_result) of_itself _ _ (filled how id) s.world.processor (processor_with d.words s.world.processor) id shape.words_size (λ n half all. all.0))
  write_at fill.Whole (Mem cell) = write_step (write_operand fill.Whole) (changed_by_write fill.Whole (Mem cell) s) saved (placed (Mem cell) s) d log shape halves_of_result Word cell.mode cell.address s.latch.result d.result result_there
      (resumed fill.Whole cell Word)
  write_at fill.LowByte (Mem cell) = write_step (write_operand fill.LowByte) (changed_by_write fill.LowByte (Mem cell) s) saved (placed (Mem cell) s) d log shape halves_of_result Byte cell.mode cell.address s.latch.result d.result result_there
      (resumed fill.LowByte cell Byte)
  write_at fill.Extended (Mem cell) = write_step (write_operand fill.Extended) (changed_by_write fill.Extended (Mem cell) s) saved (placed (Mem cell) s) d log shape halves_of_result Byte cell.mode cell.address s.latch.result d.result result_there
      (resumed fill.Extended cell Byte)

pub writes_operand : (how : Fill) → IsSoundRow (write_row how)
writes_operand how = sound_by _ (λ saved s d log shape. write_at saved s d log shape how s.latch.place)

-- The rows of each addressing mode
small_step_if : (high : Bool) → (if high then 2 else 1) < 257
small_step_if true = omega arith
small_step_if false = omega arith

small_step : (size : Size) (r : ℕ) → step_of size r < 257
small_step Word r = omega arith
small_step Byte r = small_step_if (nat_le 6 r)

two_is_small : 2 < 257
two_is_small = omega arith

pub find_sound : (size : Size) (spec : Specifier) → AreSoundRows (find_rows size spec)
find_sound size (Register r) = (names r, tt)
find_sound size (Deferred r) = (points r, tt)
find_sound size (Autoincrement r) = (grows r (step_of size r), tt)
find_sound size (AutoincrementDeferred r) = (grows r 2, (indirects, tt))
find_sound size (Autodecrement r) = (lowers mode_now r (step_of size r) (small_step size r) (λ saved s d log shape. refl), tt)
find_sound size (AutodecrementDeferred r) = (lowers mode_now r 2 two_is_small (λ saved s d log shape. refl), (indirects, tt))
find_sound size (Index r) = (indexes r, tt)
find_sound size (IndexDeferred r) = (indexes r, (indirects, tt))
