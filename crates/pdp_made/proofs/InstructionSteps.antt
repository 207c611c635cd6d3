-- The rows of instructions are sound.
use Rattle.std.proofs.Common.{◌≡◌, ◌∙◌, ◌<◌, ℕ, ◌+◌, ◌*◌, ◌%◌, ◌==◌, ◌&&◌, ◌||◌, not, Bool, true, false, List, [], ◌∷◌, ℤ, Option, None, Some, is_some, refl, ap, sym, arith, true≢false, if◌then◌else◌}
use Rattle.pdp_word.specs.declared.codes.Codes.{Codes}
use Rattle.pdp_word.specs.declared.size.Size.{Size}
use Rattle.pdp_alu.specs.declared.effect.Effect.{Effect}
use Rattle.pdp_store.specs.CycleLogs.{KeptCycles}
use Rattle.pdp_action.specs.Condition.{is_taken}
use Rattle.pdp_action.specs.declared.condition.Condition.{Condition}
use Rattle.pdp_action.specs.declared.operation.Combination.{Combination}
use Rattle.pdp_action.specs.declared.operation.Comparison.{Comparison}
use Rattle.pdp_action.specs.declared.operation.Modification.{Modification}
use Rattle.pdp_action.specs.declared.operation.Replacement.{Replacement}
use Rattle.pdp_action.specs.declared.trap.Trap.{Trap}
use Rattle.pdp_action.specs.declared.trap.Trap.TheVariants.{Reserved}
use Rattle.pdp_operand.specs.Handbook.Operand.{mode_now, named_register_id}
use Rattle.pdp_operand.specs.Handbook.Processor.{processor_retreated, register_of, with_register}
use Rattle.pdp_operand.specs.Phases.Phase.{State, Nothing, Raise, by_request, inner_of, internal_phase, raising, step}
use Rattle.pdp_operand.specs.declared.place.Place.{Place}
use Rattle.pdp_operand.specs.declared.place.Place.TheVariants.{Reg, Mem}
use Rattle.pdp_operand.specs.declared.processor.Processor.{Processor}
use Rattle.pdp_operand.specs.declared.processor.RegisterId.{RegisterId}
use Rattle.pdp_operand.specs.declared.processor.RegisterId.TheVariants.{ProgramCounter}
use Rattle.pdp_instruction.specs.Handbook.Branch.{branch_phase, branch_taken, subtract_one}
use Rattle.pdp_instruction.specs.Handbook.ChangeCodes.{clear_codes, codes_cleared, codes_joined, set_codes}
use Rattle.pdp_instruction.specs.Handbook.Control.{halt, is_user, wait}
use Rattle.pdp_instruction.specs.Handbook.Execute.{store_codes, with_effect}
use Rattle.pdp_instruction.specs.Handbook.Jump.{aim, jump, link, return_by, set_register, take_link, take_mark}
use Rattle.pdp_instruction.specs.Handbook.Moves.{execute_mov}
use Rattle.pdp_instruction.specs.Handbook.OneOperand.{execute_modification, execute_replacement, execute_tst}
use Rattle.pdp_instruction.specs.Handbook.Operands.{keep_source, take_register}
use Rattle.pdp_instruction.specs.Handbook.PreviousMode.{cross}
use Rattle.pdp_instruction.specs.Handbook.TwoOperands.{execute_combination, execute_comparison}
use Rattle.pdp_made.specs.Cells.{byte_in, Data, CodeNow, ConditionCode, Negative, Zero, Overflow, Carry, EachSame, SameShape, data_of, data_on, flag_in, processor_with, with_data}
use Rattle.pdp_made.specs.EffectRows.{EffectCells, combination_cells, comparison_cells, mov_cells, modification_cells, replacement_cells, tst_cells, value_halves}
use Rattle.pdp_made.specs.InstructionRows.{aim_row, clear_codes_row, codes_changed, codes_if_due, codes_outside, effect_row, keep_source_row, link_row, set_codes_row, set_register_row, store_codes_row, subtract_one_row, take_link_row, take_mark_row, take_register_row}
use Rattle.pdp_made.specs.OperandRows.{keeps_data, register_stepped, value_changed}
use Rattle.pdp_made.specs.PhaseRows.{IsSoundRow, CellsTell, TellsEnds, of_itself}
use Rattle.pdp_made.specs.ReferenceRows.{Halves, cut_to, halves_of, of_nothing, register_changed}
use Rattle.pdp_made.proofs.EffectSteps.{EffectTells, combination_tells, comparison_tells, mov_tells, modification_tells, replacement_tells, tst_tells}
use Rattle.pdp_made.proofs.Frames.{CodesTell, both_are, codes_are, effect_is, itself_tells, lost_tells, on_same, result_is, sound_by, source_is, value_is, words_changed, words_marking}
use Rattle.pdp_made.proofs.Halves.{HalvesTell, cut_tells}
use Rattle.pdp_made.proofs.OperandSteps.{placed, retreated}
use Rattle.pdp_made.proofs.Registers.{register_set, register_tells}

-- The two operands
pub keeps_source : IsSoundRow keep_source_row
unfolding keep_source
keeps_source = sound_by _ (λ saved s d log shape. source_is d (data_of saved s) d.value s.latch.value (λ half all. all.0))

pub takes_register : (size : Size) (r : ℕ) → IsSoundRow (take_register_row size r)
unfolding take_register
takes_register size r = sound_by _ (λ saved s d log shape. both_are d (data_of saved s) (cut_to size (halves_of (named_register_id (inner_of s) r))) _ _
    (cut_tells d (data_of saved s) size (halves_of (named_register_id (inner_of s) r)) _ _ (register_tells d (data_of saved s) s.world.processor (named_register_id (inner_of s) r))))

-- Effects
module _ (f : ℕ → ℕ → Codes → Effect) (cells : EffectCells)
    (tells : (d e : Data) → EffectTells d e cells (f d.source d.value d.bus.codes) (f e.source e.value e.bus.codes)) where
  pub effect_sound : IsSoundRow (effect_row (internal_phase (λ i. with_effect i (f i.latch.source i.latch.value i.io_page.status.codes))) cells)
  effect_sound = sound_by _ (λ saved s d log shape. effect_is d (data_of saved s) cells _ _ _ _ (tells d (data_of saved s)).0 (tells d (data_of saved s)).1)

pub moves : (size : Size) → IsSoundRow (effect_row (execute_mov size) (mov_cells size))
unfolding execute_mov
moves size = effect_sound _ (mov_cells size) (λ d e. mov_tells d e size)

pub tests : (size : Size) → IsSoundRow (effect_row (execute_tst size) (tst_cells size))
unfolding execute_tst
tests size = effect_sound _ (tst_cells size) (λ d e. tst_tells d e size)

pub compares : (c : Comparison) → IsSoundRow (effect_row (execute_comparison c) (comparison_cells c))
unfolding execute_comparison
compares c = effect_sound _ (comparison_cells c) (λ d e. comparison_tells d e c)

pub combines : (c : Combination) → IsSoundRow (effect_row (execute_combination c) (combination_cells c))
unfolding execute_combination
combines c = effect_sound _ (combination_cells c) (λ d e. combination_tells d e c)

pub modifies : (m : Modification) → IsSoundRow (effect_row (execute_modification m) (modification_cells m))
unfolding execute_modification
modifies m = effect_sound _ (modification_cells m) (λ d e. modification_tells d e m)

pub replaces : (r : Replacement) → IsSoundRow (effect_row (execute_replacement r) (replacement_cells r))
unfolding execute_replacement
replaces r = effect_sound _ (replacement_cells r) (λ d e. replacement_tells d e r)

-- Codes that are due, made an argument
abbrev due_in : Option Codes → State → State
due_in due s = record s { latch = record s.latch { codes = due } }

abbrev data_due : Option Codes → Data → Data
data_due due d = record d { due = due }

module _ (saved : Codes) (s : State) (d : Data) (log : KeptCycles) where
  stores_at : (one other : Option Codes) → is_some other ≡ is_some one
      → TellsEnds (codes_changed (codes_if_due one)) of_itself saved d.saved (data_due other d) (data_of saved (due_in one s))
      (step store_codes (due_in one s)) (step store_codes (with_data (data_due other d) log (due_in one s)))
  unfolding store_codes
  stores_at None None both = codes_are (data_due None d) (data_of saved (due_in None s)) (codes_if_due None) d.bus.codes s.world.bus.io_page.status.codes (λ code all. all.0)
  stores_at (Some codes) (Some given) both = codes_are (data_due (Some given) d) (data_of saved (due_in (Some codes) s)) (codes_if_due (Some codes)) given codes (λ code all. all.0)
  stores_at None (Some given) both = absurd (true≢false both)
  stores_at (Some codes) None both = absurd (true≢false (sym both))

pub stores_codes : IsSoundRow store_codes_row
stores_codes = sound_by _ (λ saved s d log shape. stores_at saved s d log s.latch.codes d.due shape.both_due)

-- A branch moves PC alone
branch_words : (offset : ℤ) (taken : Bool) (p : Processor) → (if taken then branch_taken offset p else p).words ≡ p.words
unfolding with_register
branch_words offset true p = refl
branch_words offset false p = refl

pub branches : (condition : Condition) (offset : ℤ) → IsSoundRow (keeps_data (branch_phase condition offset))
unfolding branch_phase
branches condition offset = sound_by _ (λ saved s d log shape. on_same of_itself d (data_of saved s) d (data_of saved s) d.bus (data_on s.world.bus) _ _ refl refl
    (branch_words offset (is_taken condition d.bus.codes) (processor_with d.words s.world.processor))
    (branch_words offset (is_taken condition s.world.bus.io_page.status.codes) s.world.processor) (itself_tells d (data_of saved s)))

-- SOB: a register less 1, and PC
looped_words : (ended : Bool) (words : ℕ) (p : Processor) → (if ended then p else processor_retreated p ProgramCounter words).words ≡ p.words
unfolding with_register
looped_words true words p = refl
looped_words false words p = refl

one_is_small : 1 < 257
one_is_small = omega arith

pub loops : (r words : ℕ) → IsSoundRow (subtract_one_row r words)
unfolding subtract_one
loops r words = sound_by _ (λ saved s d log shape.
    let id : RegisterId = named_register_id (inner_of s) r in
    let there : Processor = processor_retreated (processor_with d.words s.world.processor) id 1 in
    let here : Processor = processor_retreated s.world.processor id 1 in
    on_same (register_stepped id) d (data_of saved s) (record d { words = there.words }) (record (data_of saved s) { words = here.words }) d.bus (data_on s.world.bus) _ _ refl refl
    (looped_words (register_of there id == 0) (words * 2) there) (looped_words (register_of here id == 0) (words * 2) here)
    (retreated d (data_of saved s) s.world.processor shape.words_size id 1 one_is_small))

-- The condition code operators
cleared_flag : (mask : Bool) (x y : Bool) (d e : Data) (code : ConditionCode) → flag_in code d.bus.codes ≡ x → flag_in code e.bus.codes ≡ y → EachSame d e (if mask then [] else CodeNow code ∷ []) → (x && not mask) ≡ (y && not mask)
cleared_flag true true true d e code is was all = refl
cleared_flag true true false d e code is was all = refl
cleared_flag true false true d e code is was all = refl
cleared_flag true false false d e code is was all = refl
cleared_flag false x y d e code is was all = ap (λ flag. flag && not false) (sym is ∙ all.0 ∙ was)

cleared : (mask : Codes) (d e : Data) → CodesTell d e (codes_outside mask) (codes_cleared mask d.bus.codes) (codes_cleared mask e.bus.codes)
cleared mask d e Negative all = cleared_flag mask.n d.bus.codes.n e.bus.codes.n d e Negative refl refl all
cleared mask d e Zero all = cleared_flag mask.z d.bus.codes.z e.bus.codes.z d e Zero refl refl all
cleared mask d e Overflow all = cleared_flag mask.v d.bus.codes.v e.bus.codes.v d e Overflow refl refl all
cleared mask d e Carry all = cleared_flag mask.c d.bus.codes.c e.bus.codes.c d e Carry refl refl all

pub clears : (mask : Codes) → IsSoundRow (clear_codes_row mask)
unfolding clear_codes
clears mask = sound_by _ (λ saved s d log shape. codes_are d (data_of saved s) (codes_outside mask) _ _ (cleared mask d (data_of saved s)))

joined_flag : (mask : Bool) (x y : Bool) (d e : Data) (code : ConditionCode) → flag_in code d.bus.codes ≡ x → flag_in code e.bus.codes ≡ y → EachSame d e (if mask then [] else CodeNow code ∷ []) → (x || mask) ≡ (y || mask)
joined_flag true true true d e code is was all = refl
joined_flag true true false d e code is was all = refl
joined_flag true false true d e code is was all = refl
joined_flag true false false d e code is was all = refl
joined_flag false x y d e code is was all = ap (λ flag. flag || false) (sym is ∙ all.0 ∙ was)

joined : (mask : Codes) (d e : Data) → CodesTell d e (codes_outside mask) (codes_joined mask d.bus.codes) (codes_joined mask e.bus.codes)
joined mask d e Negative all = joined_flag mask.n d.bus.codes.n e.bus.codes.n d e Negative refl refl all
joined mask d e Zero all = joined_flag mask.z d.bus.codes.z e.bus.codes.z d e Zero refl refl all
joined mask d e Overflow all = joined_flag mask.v d.bus.codes.v e.bus.codes.v d e Overflow refl refl all
joined mask d e Carry all = joined_flag mask.c d.bus.codes.c e.bus.codes.c d e Carry refl refl all

pub sets : (mask : Codes) → IsSoundRow (set_codes_row mask)
unfolding set_codes
sets mask = sound_by _ (λ saved s d log shape. codes_are d (data_of saved s) (codes_outside mask) _ _ (joined mask d (data_of saved s)))

-- Jumps
module _ (saved : Codes) (s : State) (d : Data) (log : KeptCycles) (shape : SameShape d (data_of saved s)) where
  abbrev e : Data
  e = data_of saved s

  aim_at : (place : Place) → TellsEnds (value_changed of_nothing) of_itself saved d.saved d e (step aim (placed place s)) (step aim (with_data d log (placed place s)))
  unfolding aim
  aim_at (Reg id) = lost_tells d e
  aim_at (Mem cell) = on_same (value_changed of_nothing) d e (record d { value = cell.address }) (record e { value = cell.address }) d.bus e.bus _ _ refl refl
      (words_marking cell.yellow (processor_with d.words s.world.processor)) (words_marking cell.yellow s.world.processor)
      (value_is d e of_nothing cell.address cell.address (λ half all. refl))

  -- a register is set
  set_to : (id : RegisterId) (from : Halves) (b a : ℕ) → HalvesTell d e from b a → CellsTell (register_changed id from of_itself) d e
      (record d { words = (with_register (processor_with d.words s.world.processor) id b).words }) (record e { words = (with_register s.world.processor id a).words })
  set_to id from b a tells = words_changed d e id from _ _
      (register_set d e from of_itself a b tells s.world.processor (processor_with d.words s.world.processor) id shape.words_size (λ n half all. all.0))

pub aims : IsSoundRow aim_row
aims = sound_by _ (λ saved s d log shape. aim_at saved s d log shape s.latch.place)

pub jumps : IsSoundRow (keeps_data jump)
unfolding jump with_register
jumps = sound_by _ (λ saved s d log shape. itself_tells d (data_of saved s))

pub takes_link : (r : ℕ) → IsSoundRow (take_link_row r)
unfolding take_link
takes_link r = sound_by _ (λ saved s d log shape. result_is d (data_of saved s) (halves_of (named_register_id (inner_of s) r)) _ _
    (register_tells d (data_of saved s) s.world.processor (named_register_id (inner_of s) r)))

counter_kept : (p : Processor) (w : ℕ) → (with_register p ProgramCounter w).words ≡ p.words
unfolding with_register
counter_kept p w = refl

counter_of : (p : Processor) (words : List ℕ) → register_of (processor_with words p) ProgramCounter ≡ register_of p ProgramCounter
unfolding register_of
counter_of p words = refl

pub links : (r : ℕ) → IsSoundRow (link_row r)
unfolding link
links r = sound_by _ (λ saved s d log shape.
    let id : RegisterId = named_register_id (inner_of s) r in
    on_same (register_changed id of_nothing of_itself) d (data_of saved s)
    (record d { words = (with_register (processor_with d.words s.world.processor) id (register_of (processor_with d.words s.world.processor) ProgramCounter)).words })
    (record (data_of saved s) { words = (with_register s.world.processor id (register_of s.world.processor ProgramCounter)).words }) d.bus (data_on s.world.bus) _ _ refl refl
    (counter_kept _ d.value) (counter_kept _ s.latch.value)
    (set_to saved s d log shape id of_nothing _ _ (λ half all. ap (byte_in half) (counter_of s.world.processor d.words))))

pub sets_register : (r : ℕ) → IsSoundRow (set_register_row r)
unfolding set_register
sets_register r = sound_by _ (λ saved s d log shape. set_to saved s d log shape (named_register_id (inner_of s) r) value_halves d.value s.latch.value (λ half all. all.0))

pub returns_by : (r : ℕ) → IsSoundRow (keeps_data (return_by r))
unfolding return_by with_register
returns_by r = sound_by _ (λ saved s d log shape. itself_tells d (data_of saved s))

pub takes_mark : (words : ℕ) → IsSoundRow (take_mark_row words)
unfolding take_mark
takes_mark words = sound_by _ (λ saved s d log shape.
    let id : RegisterId = named_register_id (inner_of s) 6 in
    on_same (register_changed id of_nothing of_itself) d (data_of saved s)
    (record d { words = (with_register (processor_with d.words s.world.processor) id ((register_of (processor_with d.words s.world.processor) ProgramCounter + words * 2) % 65536)).words })
    (record (data_of saved s) { words = (with_register s.world.processor id ((register_of s.world.processor ProgramCounter + words * 2) % 65536)).words }) d.bus (data_on s.world.bus) _ _ refl refl
    (counter_kept _ _) (counter_kept _ _)
    (set_to saved s d log shape id of_nothing _ _ (λ half all. ap (λ w. byte_in half ((w + words * 2) % 65536)) (counter_of s.world.processor d.words))))

-- HALT, WAIT, RESET, what can't go on, and MFPI's and MTPI's crossing
halted : (saved : Codes) (s : State) (d : Data) (log : KeptCycles) (user : Bool)
    → TellsEnds of_itself of_itself saved d.saved d (data_of saved s) (by_request halt s (if user then Raise Reserved else Nothing)) (by_request halt (with_data d log s) (if user then Raise Reserved else Nothing))
unfolding halt
halted saved s d log true = lost_tells d (data_of saved s)
halted saved s d log false = itself_tells d (data_of saved s)

pub halts : IsSoundRow (keeps_data halt)
unfolding halt
halts = sound_by _ (λ saved s d log shape. halted saved s d log (is_user (mode_now (inner_of s))))

pub waits : IsSoundRow (keeps_data wait)
unfolding wait
waits = sound_by _ (λ saved s d log shape. itself_tells d (data_of saved s))

pub raises : (trap : Trap) → IsSoundRow (keeps_data (raising trap))
raises trap = sound_by _ (λ saved s d log shape. lost_tells d (data_of saved s))

pub crosses : IsSoundRow (keeps_data cross)
unfolding cross
crosses = sound_by _ (λ saved s d log shape. itself_tells d (data_of saved s))
