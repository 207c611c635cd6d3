-- What stays the same, cell by cell.
use Rattle.std.proofs.Common.{◌≡◌, ℕ, Bool, true, false, List, [], ◌∷◌, None, Some, refl, sym, subst}
use Rattle.pdp_word.specs.declared.codes.Codes.{Codes}
use Rattle.pdp_store.specs.CycleLogs.{KeptCycles}
use Rattle.pdp_operand.specs.Handbook.Operand.{with_stack_trap_if}
use Rattle.pdp_operand.specs.Phases.Phase.{State, step}
use Rattle.pdp_operand.specs.declared.processor.Processor.{Processor}
use Rattle.pdp_operand.specs.declared.processor.RegisterId.{RegisterId}
use Rattle.pdp_made.specs.Cells.{BusData, Data, DataCell, CoreByte, DriveByte, RegisterByte, CodeNow, Buffer, ConditionCode, DeviceBuffer, Keyboard, Printer, Reader, Punch, Switches, flag_in, held_in, ValueByte, SourceByte, ResultByte, StatusByte, CodeDue, CodeSaved, TapeByte, EachSame, SameShape, data_of, with_data}
use Rattle.pdp_made.specs.EffectRows.{EffectCells, value_halves}
use Rattle.pdp_made.specs.InstructionRows.{both_changed, codes_changed, effect_changed, result_changed, source_changed}
use Rattle.pdp_made.specs.OperandRows.{value_changed}
use Rattle.pdp_made.specs.ReferenceRows.{Halves, register_changed}
use Rattle.pdp_made.specs.TrapRows.{status_changed}
use Rattle.pdp_made.proofs.Halves.{HalvesTell}
use Rattle.pdp_made.proofs.Registers.{WordsTell}
use Rattle.pdp_made.specs.PhaseRows.{IsSoundRow, PhaseRow, CellsTell, TellsEnds, of_itself}

-- The law of a row, with the other state written as the one with other data.
abbrev pub HoldsWithData : PhaseRow → Type 0
HoldsWithData row = (saved : Codes) (s : State) (d : Data) (log : KeptCycles) → SameShape d (data_of saved s)
    → TellsEnds (row.made s) of_itself saved d.saved d (data_of saved s) (step (row.phase saved) s) (step (row.phase d.saved) (with_data d log s))

pub sound_by : (row : PhaseRow) → HoldsWithData row → IsSoundRow row
sound_by row law = record {
  tells = λ saved other s u alike.
      subst (λ v. TellsEnds (row.made s) of_itself saved other (data_of other u) (data_of saved s) (step (row.phase saved) s) (step (row.phase other) v))
      (sym alike.same_way) (law saved s (data_of other u) u.world.bus.log alike.shape);
}

-- each cell is the same after, if it was before
pub itself_tells : (d e : Data) → CellsTell of_itself d e d e
itself_tells d e c all = all.0

-- and at a trap, at which nothing is handed on
abbrev pub lost : Data → Data
lost d = record d { value = 0; source = 0; result = 0; status = 0; due = None }

pub lost_tells : (d e : Data) → CellsTell of_itself d e (lost d) (lost e)
lost_tells d e (CoreByte k half) all = all.0
lost_tells d e (DriveByte n k half) all = all.0
lost_tells d e (RegisterByte n half) all = all.0
lost_tells d e (CodeNow code) all = all.0
lost_tells d e (Buffer buffer) all = all.0
lost_tells d e (ValueByte half) all = refl
lost_tells d e (SourceByte half) all = refl
lost_tells d e (ResultByte half) all = refl
lost_tells d e (StatusByte half) all = refl
lost_tells d e (CodeDue code) all = refl
lost_tells d e (CodeSaved code) all = all.0
lost_tells d e (TapeByte k) all = all.0

-- the same bus and the same registers, as equations say
pub on_same : (made : DataCell → List DataCell) (d e u t : Data) (x y : BusData) (ws vs : List ℕ) → x ≡ u.bus → y ≡ t.bus → ws ≡ u.words → vs ≡ t.words
    → CellsTell made d e u t → CellsTell made d e (record u { bus = x; words = ws }) (record t { bus = y; words = vs })
on_same made d e u t x y ws vs there here registers words tells =
    subst (λ m. CellsTell made d e (record u { bus = m; words = ws }) (record t { bus = y; words = vs })) (sym there)
    (subst (λ m. CellsTell made d e (record u { words = ws }) (record t { bus = m; words = vs })) (sym here)
    (subst (λ m. CellsTell made d e (record u { words = m }) (record t { words = vs })) (sym registers)
    (subst (λ m. CellsTell made d e u (record t { words = m })) (sym words) tells)))

-- a stack trap that is pending is no data
pub words_marking : (marks : Bool) (p : Processor) → (with_stack_trap_if marks p).words ≡ p.words
words_marking true p = refl
words_marking false p = refl

-- One part of the data changes.
module _ (d e : Data) where
  pub words_changed : (id : RegisterId) (from : Halves) (ws vs : List ℕ) → WordsTell d e (register_changed id from of_itself) ws vs
      → CellsTell (register_changed id from of_itself) d e (record d { words = ws }) (record e { words = vs })
  words_changed id from ws vs tells (CoreByte k half) all = all.0
  words_changed id from ws vs tells (DriveByte n k half) all = all.0
  words_changed id from ws vs tells (RegisterByte n half) all = tells n half all
  words_changed id from ws vs tells (CodeNow code) all = all.0
  words_changed id from ws vs tells (Buffer buffer) all = all.0
  words_changed id from ws vs tells (ValueByte half) all = all.0
  words_changed id from ws vs tells (SourceByte half) all = all.0
  words_changed id from ws vs tells (ResultByte half) all = all.0
  words_changed id from ws vs tells (StatusByte half) all = all.0
  words_changed id from ws vs tells (CodeDue code) all = all.0
  words_changed id from ws vs tells (CodeSaved code) all = all.0
  words_changed id from ws vs tells (TapeByte k) all = all.0

  pub value_is : (from : Halves) (b a : ℕ) → HalvesTell d e from b a → CellsTell (value_changed from) d e (record d { value = b }) (record e { value = a })
  value_is from b a tells (CoreByte k half) all = all.0
  value_is from b a tells (DriveByte n k half) all = all.0
  value_is from b a tells (RegisterByte n half) all = all.0
  value_is from b a tells (CodeNow code) all = all.0
  value_is from b a tells (Buffer buffer) all = all.0
  value_is from b a tells (ValueByte half) all = tells half all
  value_is from b a tells (SourceByte half) all = all.0
  value_is from b a tells (ResultByte half) all = all.0
  value_is from b a tells (StatusByte half) all = all.0
  value_is from b a tells (CodeDue code) all = all.0
  value_is from b a tells (CodeSaved code) all = all.0
  value_is from b a tells (TapeByte k) all = all.0

  pub source_is : (b a : ℕ) → HalvesTell d e value_halves b a → CellsTell source_changed d e (record d { source = b }) (record e { source = a })
  source_is b a tells (CoreByte k half) all = all.0
  source_is b a tells (DriveByte n k half) all = all.0
  source_is b a tells (RegisterByte n half) all = all.0
  source_is b a tells (CodeNow code) all = all.0
  source_is b a tells (Buffer buffer) all = all.0
  source_is b a tells (ValueByte half) all = all.0
  source_is b a tells (SourceByte half) all = tells half all
  source_is b a tells (ResultByte half) all = all.0
  source_is b a tells (StatusByte half) all = all.0
  source_is b a tells (CodeDue code) all = all.0
  source_is b a tells (CodeSaved code) all = all.0
  source_is b a tells (TapeByte k) all = all.0

  pub both_are : (from : Halves) (b a : ℕ) → HalvesTell d e from b a
      → CellsTell (both_changed from) d e (record d { value = b; source = b }) (record e { value = a; source = a })
  both_are from b a tells (CoreByte k half) all = all.0
  both_are from b a tells (DriveByte n k half) all = all.0
  both_are from b a tells (RegisterByte n half) all = all.0
  both_are from b a tells (CodeNow code) all = all.0
  both_are from b a tells (Buffer buffer) all = all.0
  both_are from b a tells (ValueByte half) all = tells half all
  both_are from b a tells (SourceByte half) all = tells half all
  both_are from b a tells (ResultByte half) all = all.0
  both_are from b a tells (StatusByte half) all = all.0
  both_are from b a tells (CodeDue code) all = all.0
  both_are from b a tells (CodeSaved code) all = all.0
  both_are from b a tells (TapeByte k) all = all.0

  pub result_is : (from : Halves) (b a : ℕ) → HalvesTell d e from b a → CellsTell (result_changed from) d e (record d { result = b }) (record e { result = a })
  result_is from b a tells (CoreByte k half) all = all.0
  result_is from b a tells (DriveByte n k half) all = all.0
  result_is from b a tells (RegisterByte n half) all = all.0
  result_is from b a tells (CodeNow code) all = all.0
  result_is from b a tells (Buffer buffer) all = all.0
  result_is from b a tells (ValueByte half) all = all.0
  result_is from b a tells (SourceByte half) all = all.0
  result_is from b a tells (ResultByte half) all = tells half all
  result_is from b a tells (StatusByte half) all = all.0
  result_is from b a tells (CodeDue code) all = all.0
  result_is from b a tells (CodeSaved code) all = all.0
  result_is from b a tells (TapeByte k) all = all.0

  pub status_is : (from : Halves) (b a : ℕ) → HalvesTell d e from b a → CellsTell (status_changed from) d e (record d { status = b }) (record e { status = a })
  status_is from b a tells (CoreByte k half) all = all.0
  status_is from b a tells (DriveByte n k half) all = all.0
  status_is from b a tells (RegisterByte n half) all = all.0
  status_is from b a tells (CodeNow code) all = all.0
  status_is from b a tells (Buffer buffer) all = all.0
  status_is from b a tells (ValueByte half) all = all.0
  status_is from b a tells (SourceByte half) all = all.0
  status_is from b a tells (ResultByte half) all = all.0
  status_is from b a tells (StatusByte half) all = tells half all
  status_is from b a tells (CodeDue code) all = all.0
  status_is from b a tells (CodeSaved code) all = all.0
  status_is from b a tells (TapeByte k) all = all.0

  -- each code is made of these
  abbrev pub CodesTell : (ConditionCode → List DataCell) → Codes → Codes → Type 0
  CodesTell from x y = (code : ConditionCode) → EachSame d e (from code) → flag_in code x ≡ flag_in code y

  buffer_kept : (x y : Codes) (buffer : DeviceBuffer) → EachSame d e (Buffer buffer ∷ []) → held_in buffer (record d.bus { codes = x }) ≡ held_in buffer (record e.bus { codes = y })
  buffer_kept x y Keyboard all = all.0
  buffer_kept x y Printer all = all.0
  buffer_kept x y Reader all = all.0
  buffer_kept x y Punch all = all.0
  buffer_kept x y Switches all = all.0

  pub codes_are : (from : ConditionCode → List DataCell) (x y : Codes) → CodesTell from x y
      → CellsTell (codes_changed from) d e (record d { bus = record d.bus { codes = x } }) (record e { bus = record e.bus { codes = y } })
  codes_are from x y tells (CoreByte k half) all = all.0
  codes_are from x y tells (DriveByte n k half) all = all.0
  codes_are from x y tells (RegisterByte n half) all = all.0
  codes_are from x y tells (CodeNow code) all = tells code all
  codes_are from x y tells (Buffer buffer) all = buffer_kept x y buffer all
  codes_are from x y tells (ValueByte half) all = all.0
  codes_are from x y tells (SourceByte half) all = all.0
  codes_are from x y tells (ResultByte half) all = all.0
  codes_are from x y tells (StatusByte half) all = all.0
  codes_are from x y tells (CodeDue code) all = all.0
  codes_are from x y tells (CodeSaved code) all = all.0
  codes_are from x y tells (TapeByte k) all = all.0

  pub effect_is : (cells : EffectCells) (b a : ℕ) (x y : Codes) → HalvesTell d e cells.value b a → CodesTell cells.codes x y
      → CellsTell (effect_changed cells) d e (record d { result = b; due = Some x }) (record e { result = a; due = Some y })
  effect_is cells b a x y value codes (CoreByte k half) all = all.0
  effect_is cells b a x y value codes (DriveByte n k half) all = all.0
  effect_is cells b a x y value codes (RegisterByte n half) all = all.0
  effect_is cells b a x y value codes (CodeNow code) all = all.0
  effect_is cells b a x y value codes (Buffer buffer) all = all.0
  effect_is cells b a x y value codes (ValueByte half) all = all.0
  effect_is cells b a x y value codes (SourceByte half) all = all.0
  effect_is cells b a x y value codes (ResultByte half) all = value half all
  effect_is cells b a x y value codes (StatusByte half) all = all.0
  effect_is cells b a x y value codes (CodeDue code) all = codes code all
  effect_is cells b a x y value codes (CodeSaved code) all = all.0
  effect_is cells b a x y value codes (TapeByte k) all = all.0
