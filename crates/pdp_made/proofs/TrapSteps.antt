-- The rows of the sequences of traps, and of the fetch, are sound.
use Rattle.std.proofs.Common.{◌≡◌, ◌∙◌, ◌<◌, ℕ, ◌+◌, ◌&&◌, Bool, true, false, List, [], ◌∷◌, length, slice_index, refl, ap, sym, arith}
use Rattle.pdp_word.specs.declared.codes.Codes.{Codes}
use Rattle.pdp_word.specs.declared.size.Size.{Size}
use Rattle.pdp_word.specs.declared.size.Size.TheVariants.{Word}
use Rattle.pdp_kt11.specs.declared.mode.Mode.{Mode}
use Rattle.pdp_kt11.specs.declared.mode.Mode.TheVariants.{Kernel}
use Rattle.pdp_store.specs.CycleLogs.{KeptCycles}
use Rattle.pdp_io_page.specs.Handbook.Status.{status_codes, status_of_word}
use Rattle.pdp_decode.specs.declared.instruction.Instr.{Instr}
use Rattle.pdp_operand.specs.Handbook.Operand.{mode_now}
use Rattle.pdp_operand.specs.Handbook.Processor.{register_of, with_register}
use Rattle.pdp_operand.specs.Phases.Phase.{State, inner_of, step}
use Rattle.pdp_operand.specs.declared.place.Place.{Place}
use Rattle.pdp_operand.specs.declared.place.Place.TheVariants.{Reg, Mem}
use Rattle.pdp_operand.specs.declared.processor.Processor.{Processor}
use Rattle.pdp_operand.specs.declared.processor.RegisterId.TheVariants.{KernelStack, ProgramCounter}
use Rattle.pdp_instruction.specs.Handbook.Instruction.{fetch_instruction, note_trace, traces, with_trace_trap_if}
use Rattle.pdp_instruction.specs.Handbook.TrapSequence.{bare_stack, enter, enter_red, give_up, new_mode, put_word, save, vector_counter, vector_status}
use Rattle.pdp_instruction.specs.declared.saved_context.SavedContext.{SavedContext}
use Rattle.pdp_made.specs.Cells.{byte_in, BusData, Data, CoreByte, DriveByte, RegisterByte, CodeNow, Buffer, ValueByte, SourceByte, ResultByte, StatusByte, CodeDue, CodeSaved, TapeByte, DeviceBuffer, Keyboard, Printer, Reader, Punch, Switches, EachSame, Half, Low, SameShape, data_of, data_on, flag_in, held_in, processor_with, with_data}
use Rattle.pdp_made.specs.OperandRows.{keeps_data, lower_row}
use Rattle.pdp_made.specs.PhaseRows.{AreSoundRows, IsSoundRow, CellsTell, TellsEnds, of_itself}
use Rattle.pdp_made.specs.ReferenceRows.{Halves, changed_by_reference, changed_if_placed, place_of_write, halves_referred, of_nothing, register_changed}
use Rattle.pdp_made.specs.TrapRows.{bare_stack_row, enter_red_row, enter_row, give_up_row, halves_saved, of_new_status, put_at, put_word_row, red_rows, save_row, saved_counter, saved_status, status_changed, trap_rows, vector_status_row}
use Rattle.pdp_made.proofs.Frames.{CodesTell, codes_are, itself_tells, on_same, sound_by, status_is, words_changed, words_marking}
use Rattle.pdp_made.proofs.Halves.{HalvesTell, codes_same, codes_tell, status_tells}
use Rattle.pdp_made.proofs.OperandSteps.{bus_changed, lowers, placed}
use Rattle.pdp_made.proofs.References.{read_step, write_step}
use Rattle.pdp_made.proofs.Registers.{WordsTell, register_set}
use Rattle.pdp_made.proofs.Writings.{BusTells}

-- A vector's words
pub reads_counter : (vector : ℕ) → IsSoundRow (keeps_data (vector_counter vector))
unfolding vector_counter
reads_counter vector = sound_by _ (λ saved s d log shape. read_step (vector_counter vector) of_itself saved s d log shape Word Kernel vector
    (λ there after b a other same tells. on_same of_itself d (data_of saved s) d (data_of saved s) (data_on there) (data_on after) d.words s.world.processor.words other same refl refl
    (itself_tells d (data_of saved s))))

pub reads_status : (vector : ℕ) → IsSoundRow (vector_status_row vector)
unfolding vector_status
reads_status vector = sound_by _ (λ saved s d log shape.
    let from : Halves = halves_referred Word Kernel (vector + 2) s.world.bus in
    read_step (vector_status vector) (status_changed from) saved s d log shape Word Kernel (vector + 2)
    (λ there after b a other same tells. on_same (status_changed from) d (data_of saved s) (record d { status = b }) (record (data_of saved s) { status = a }) (data_on there) (data_on after) d.words s.world.processor.words other same refl refl
    (status_is d (data_of saved s) from b a tells)))

-- A push is to the stack of the new mode
two_is_small : 2 < 257
two_is_small = omega arith

pub pushes : IsSoundRow (lower_row new_mode 6 2)
pushes = lowers new_mode 6 2 two_is_small (λ saved s d log shape. shape.new_mode)

-- A word that is saved: what it is made of
abbrev WordTells : (Codes → ℕ) → Halves → Type 0
WordTells word from = (d e : Data) → HalvesTell d e from (word d.saved) (word e.saved)

status_saved : (context : SavedContext) → WordTells (saved_status context) halves_saved
status_saved context d e = status_tells d e CodeSaved context.status d.saved e.saved (λ all. codes_same d.saved e.saved all.0 all.1.0 all.1.1.0 all.1.1.1.0)

counter_saved : (context : SavedContext) → WordTells (saved_counter context) of_nothing
counter_saved context d e half all = refl

module _ (word : Codes → ℕ) (from : Halves) (tells : WordTells word from) (saved : Codes) (s : State) (d : Data) (log : KeptCycles) (shape : SameShape d (data_of saved s)) where
  abbrev e : Data
  e = data_of saved s

  -- what a write changes, and no due codes
  wrote : (size : Size) (mode : Mode) (address : ℕ) (x y : BusData) → BusTells d e (λ c. changed_if_placed size s.world.bus (place_of_write mode address s.world.bus) from c) x y
      → CellsTell (changed_by_reference size mode address s.world.bus from) d e (record d { bus = x }) (record e { bus = y })
  wrote size mode address x y bus = bus_changed d e size mode address s.world.bus from x y bus d.due e.due (λ code same. same)

  put_word_at : (marks : Bool) (place : Place) → TellsEnds (put_at from place s) of_itself saved d.saved d e (step (put_word marks (word saved)) (placed place s)) (step (put_word marks (word d.saved)) (with_data d log (placed place s)))
  unfolding put_word
  put_word_at true (Reg id) = itself_tells d e
  put_word_at false (Reg id) = itself_tells d e
  put_word_at true (Mem cell) = write_step (put_word true (word saved)) (put_at from (Mem cell) s) saved (placed (Mem cell) s) d log shape from Word cell.mode cell.address (word saved) (word d.saved) (tells d e)
      (λ there after at bus. on_same (put_at from (Mem cell) s) d e (record d { bus = data_on there }) (record e { bus = data_on after }) (data_on there) (data_on after) _ _ refl refl
      (words_marking cell.yellow (processor_with d.words s.world.processor)) (words_marking cell.yellow s.world.processor)
      (wrote Word cell.mode cell.address (data_on there) (data_on after) bus))
  put_word_at false (Mem cell) = write_step (put_word false (word saved)) (put_at from (Mem cell) s) saved (placed (Mem cell) s) d log shape from Word cell.mode cell.address (word saved) (word d.saved) (tells d e)
      (λ there after at bus. wrote Word cell.mode cell.address (data_on there) (data_on after) bus)

  save_at : (address : ℕ) → TellsEnds (changed_by_reference Word Kernel address s.world.bus from) of_itself saved d.saved d e (step (save address (word saved)) s) (step (save address (word d.saved)) (with_data d log s))
  unfolding save
  save_at address = write_step (save address (word saved)) (changed_by_reference Word Kernel address s.world.bus from) saved s d log shape from Word Kernel address (word saved) (word d.saved) (tells d e)
      (λ there after at bus. wrote Word Kernel address (data_on there) (data_on after) bus)

puts_word : (marks : Bool) (word : Codes → ℕ) (from : Halves) → WordTells word from → IsSoundRow (put_word_row marks word from)
puts_word marks word from tells = sound_by _ (λ saved s d log shape. put_word_at word from tells saved s d log shape marks s.latch.place)

saves_word : (address : ℕ) (word : Codes → ℕ) (from : Halves) → WordTells word from → IsSoundRow (save_row address word from)
saves_word address word from tells = sound_by _ (λ saved s d log shape. save_at word from tells saved s d log shape address)

-- The codes are those of the new program status word, or those that were saved
codes_of_word : (word : ℕ) → (status_of_word word).codes ≡ status_codes word
unfolding status_of_word
codes_of_word word = refl

new_codes : (d e : Data) → CodesTell d e (λ code. StatusByte Low ∷ []) (status_of_word d.status).codes (status_of_word e.status).codes
new_codes d e code all = ap (flag_in code) (codes_of_word d.status) ∙ codes_tell code d.status e.status all.0 ∙ sym (ap (flag_in code) (codes_of_word e.status))

enters : (context : SavedContext) → IsSoundRow (enter_row context)
unfolding enter with_register
enters context = sound_by _ (λ saved s d log shape. codes_are d (data_of saved s) (λ code. StatusByte Low ∷ []) _ _ (new_codes d (data_of saved s)))

gives_up : (context : SavedContext) → IsSoundRow (give_up_row context)
unfolding give_up with_register
gives_up context = sound_by _ (λ saved s d log shape. codes_are d (data_of saved s) (λ code. CodeSaved code ∷ []) d.saved saved (λ code all. all.0))

-- Kernel R6 becomes 4, and 0
bares_stack : IsSoundRow bare_stack_row
unfolding bare_stack
bares_stack = sound_by _ (λ saved s d log shape. words_changed d (data_of saved s) KernelStack of_nothing _ _
    (register_set d (data_of saved s) of_nothing of_itself 4 4 (λ half all. refl) s.world.processor (processor_with d.words s.world.processor) KernelStack shape.words_size (λ n half all. all.0)))

module _ (d e : Data) where
  new_buffer : (x y : Codes) (buffer : DeviceBuffer) → EachSame d e (Buffer buffer ∷ []) → held_in buffer (record d.bus { codes = x }) ≡ held_in buffer (record e.bus { codes = y })
  new_buffer x y Keyboard all = all.0
  new_buffer x y Printer all = all.0
  new_buffer x y Reader all = all.0
  new_buffer x y Punch all = all.0
  new_buffer x y Switches all = all.0

  red_entered : (x y : Codes) (ws vs : List ℕ) → CodesTell d e (λ code. StatusByte Low ∷ []) x y → WordsTell d e (register_changed KernelStack of_nothing of_new_status) ws vs
      → CellsTell (register_changed KernelStack of_nothing of_new_status) d e (record d { bus = record d.bus { codes = x }; words = ws }) (record e { bus = record e.bus { codes = y }; words = vs })
  red_entered x y ws vs codes words (CoreByte k half) all = all.0
  red_entered x y ws vs codes words (DriveByte n k half) all = all.0
  red_entered x y ws vs codes words (RegisterByte n half) all = words n half all
  red_entered x y ws vs codes words (CodeNow code) all = codes code all
  red_entered x y ws vs codes words (Buffer buffer) all = new_buffer x y buffer all
  red_entered x y ws vs codes words (ValueByte half) all = all.0
  red_entered x y ws vs codes words (SourceByte half) all = all.0
  red_entered x y ws vs codes words (ResultByte half) all = all.0
  red_entered x y ws vs codes words (StatusByte half) all = all.0
  red_entered x y ws vs codes words (CodeDue code) all = all.0
  red_entered x y ws vs codes words (CodeSaved code) all = all.0
  red_entered x y ws vs codes words (TapeByte k) all = all.0

counter_size : (q p : Processor) (counter : ℕ) → length q.words ≡ length p.words → length (with_register q ProgramCounter counter).words ≡ length (with_register p ProgramCounter counter).words
unfolding with_register
counter_size q p counter size = size

counter_words : (ws : List ℕ) (p : Processor) (counter n : ℕ) (half : Half) → byte_in half (slice_index ws n) ≡ byte_in half (slice_index p.words n)
    → byte_in half (slice_index (with_register (processor_with ws p) ProgramCounter counter).words n) ≡ byte_in half (slice_index (with_register p ProgramCounter counter).words n)
unfolding with_register
counter_words ws p counter n half same = same

enters_red : (context : SavedContext) → IsSoundRow (enter_red_row context)
unfolding enter_red
enters_red context = sound_by _ (λ saved s d log shape. red_entered d (data_of saved s) _ _ _ _ (new_codes d (data_of saved s))
    (register_set d (data_of saved s) of_nothing of_new_status 0 0 (λ half all. refl) (with_register s.world.processor ProgramCounter s.latch.counter) (with_register (processor_with d.words s.world.processor) ProgramCounter s.latch.counter)
    KernelStack (counter_size (processor_with d.words s.world.processor) s.world.processor s.latch.counter shape.words_size)
    (λ n half all. counter_words d.words s.world.processor s.latch.counter n half all.0)))

-- The fetch, and the last phase of an instruction
pub fetches : IsSoundRow (keeps_data fetch_instruction)
unfolding fetch_instruction register_of with_register
fetches = sound_by _ (λ saved s d log shape. read_step fetch_instruction of_itself saved s d log shape Word (mode_now (inner_of s)) (register_of s.world.processor ProgramCounter)
    (λ there after b a other same tells. on_same of_itself d (data_of saved s) d (data_of saved s) (data_on there) (data_on after) d.words s.world.processor.words other same refl refl
    (itself_tells d (data_of saved s))))

traced_words : (traced : Bool) (p : Processor) → (with_trace_trap_if traced p).words ≡ p.words
traced_words true p = refl
traced_words false p = refl

pub notes_trace : (instr : Instr) → IsSoundRow (keeps_data (note_trace instr))
unfolding note_trace
notes_trace instr = sound_by _ (λ saved s d log shape. on_same of_itself d (data_of saved s) d (data_of saved s) d.bus (data_on s.world.bus) _ _ refl refl
    (traced_words (s.world.bus.io_page.status.trace_bit && traces instr) (processor_with d.words s.world.processor))
    (traced_words (s.world.bus.io_page.status.trace_bit && traces instr) s.world.processor) (itself_tells d (data_of saved s)))

-- All rows of the sequences
pub trap_sound : (marks : Bool) (vector : ℕ) (context : SavedContext) → AreSoundRows (trap_rows marks vector context)
trap_sound marks vector context = (
  reads_counter vector,
  (
    reads_status vector,
    (
      pushes,
      (
        puts_word marks (saved_status context) halves_saved (status_saved context),
        (pushes, (puts_word marks (saved_counter context) of_nothing (counter_saved context), (enters context, tt))),
      ),
    ),
  ),
)

pub red_sound : (context : SavedContext) → AreSoundRows (red_rows context)
red_sound context = (
  bares_stack,
  (
    reads_counter 4,
    (
      reads_status 4,
      (
        saves_word 2 (saved_status context) halves_saved (status_saved context),
        (saves_word 0 (saved_counter context) of_nothing (counter_saved context), (enters_red context, tt)),
      ),
    ),
  ),
)

pub give_up_sound : (context : SavedContext) → AreSoundRows (give_up_row context ∷ [])
give_up_sound context = (gives_up context, tt)
