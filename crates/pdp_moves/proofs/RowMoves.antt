-- The moves of each row: those to the cells that it changes.
use Rattle.std.proofs.Common.{◌≡◌, ◌∙◌, ℕ, ◌==◌, ◌&&◌, Bool, true, false, List, [], ◌∷◌, ◌++◌, Option, Some, None, refl, ap, sym, subst, append_assoc, append-nil, if◌then◌else◌}
use Rattle.pdp_operand.specs.declared.processor.RegisterId.{RegisterId}
use Rattle.pdp_operand.specs.declared.processor.RegisterId.TheVariants.{R0, R1, R2, R3, R4, R5, KernelStack, ProgramCounter, UserStack}
use Rattle.pdp_made.specs.Cells.{Half, Low, High, ConditionCode, Negative, Zero, Overflow, Carry}
use Rattle.pdp_made.specs.Cells.{DataCell, RegisterByte, CodeNow, ValueByte, SourceByte, ResultByte, StatusByte, CodeDue}
use Rattle.pdp_made.specs.EffectRows.{EffectCells, value_halves}
use Rattle.pdp_made.specs.InstructionRows.{both_changed, codes_changed, codes_if_due, effect_changed, result_changed, source_changed}
use Rattle.pdp_made.specs.OperandRows.{value_changed}
use Rattle.pdp_made.specs.PhaseRows.{of_itself}
use Rattle.pdp_made.specs.ReferenceRows.{Halves, each_code, register_changed}
use Rattle.pdp_made.specs.TrapRows.{status_changed}
use Rattle.pdp_moves.specs.Built.{code_moves, effect_moves, half_moves, place_moves, place_of_register, register_moves}
use Rattle.pdp_moves.specs.Moves.{AreAll, AreMoves, is_cell_among, is_half, move_to, moves_to}
use Rattle.pdp_moves.proofs.Same.{same_number}
use Rattle.pdp_moves.proofs.Telling.{are_moves}

-- The cells of both halves, and of the four codes
abbrev pub both : (Half → DataCell) → List DataCell
both cell = cell Low ∷ cell High ∷ []

pub appended : (made : DataCell → List DataCell) (xs ys : List DataCell) → moves_to made (xs ++ ys) ≡ moves_to made xs ++ moves_to made ys
appended made [] ys = refl
appended made (x ∷ xs) ys = ap (λ rest. move_to x (made x) ++ rest) (appended made xs ys) ∙ sym (append_assoc (move_to x (made x)) (moves_to made xs) (moves_to made ys))

pub of_both : (made : DataCell → List DataCell) (cell : Half → DataCell) → moves_to made (both cell) ≡ half_moves cell (λ half. made (cell half))
of_both made cell = ap (λ rest. move_to (cell Low) (made (cell Low)) ++ rest) (append-nil (move_to (cell High) (made (cell High))))

pub of_codes : (made : DataCell → List DataCell) (cell : ConditionCode → DataCell) → moves_to made (each_code cell) ≡ code_moves cell (λ code. made (cell code))
of_codes made cell = ap (λ rest. move_to (cell Negative) (made (cell Negative)) ++ (move_to (cell Zero) (made (cell Zero)) ++ (move_to (cell Overflow) (made (cell Overflow)) ++ rest)))
    (append-nil (move_to (cell Carry) (made (cell Carry))))

-- the moves to these cells are the moves of the row
pub by : (made : DataCell → List DataCell) (cells : List DataCell) → AreAll made cells → {moves : _} → moves_to made cells ≡ moves → AreMoves made moves
by made cells all is = subst (λ moves. AreMoves made moves) is (are_moves made cells all)

-- Nothing moves
pub nothing_moves : AreMoves of_itself []
nothing_moves = record { told = λ c. refl; move = tt }

-- What one phase hands to the next
pub value_moves : (from : Halves) → AreMoves (value_changed from) (half_moves ValueByte from)
value_moves from = by (value_changed from) (both ValueByte) (record { others = others; distinct = (refl, (refl, tt)) }) (of_both (value_changed from) ValueByte)
  where
    others : (c : DataCell) → is_cell_among (both ValueByte) c ≡ false → value_changed from c ≡ c ∷ []
    others (ValueByte Low) is = absurd (cc is)
    others (ValueByte High) is = absurd (cc is)
    others c is = refl

pub source_moves : AreMoves source_changed (half_moves SourceByte value_halves)
source_moves = by source_changed (both SourceByte) (record { others = others; distinct = (refl, (refl, tt)) }) (of_both source_changed SourceByte)
  where
    others : (c : DataCell) → is_cell_among (both SourceByte) c ≡ false → source_changed c ≡ c ∷ []
    others (SourceByte Low) is = absurd (cc is)
    others (SourceByte High) is = absurd (cc is)
    others c is = refl

pub result_moves : (from : Halves) → AreMoves (result_changed from) (half_moves ResultByte from)
result_moves from = by (result_changed from) (both ResultByte) (record { others = others; distinct = (refl, (refl, tt)) }) (of_both (result_changed from) ResultByte)
  where
    others : (c : DataCell) → is_cell_among (both ResultByte) c ≡ false → result_changed from c ≡ c ∷ []
    others (ResultByte Low) is = absurd (cc is)
    others (ResultByte High) is = absurd (cc is)
    others c is = refl

pub status_moves : (from : Halves) → AreMoves (status_changed from) (half_moves StatusByte from)
status_moves from = by (status_changed from) (both StatusByte) (record { others = others; distinct = (refl, (refl, tt)) }) (of_both (status_changed from) StatusByte)
  where
    others : (c : DataCell) → is_cell_among (both StatusByte) c ≡ false → status_changed from c ≡ c ∷ []
    others (StatusByte Low) is = absurd (cc is)
    others (StatusByte High) is = absurd (cc is)
    others c is = refl

pub both_operands_move : (from : Halves) → AreMoves (both_changed from) (half_moves ValueByte from ++ half_moves SourceByte from)
both_operands_move from = by (both_changed from) (both ValueByte ++ both SourceByte)
    (record { others = others; distinct = (refl, (refl, (refl, (refl, tt)))) })
    (appended (both_changed from) (both ValueByte) (both SourceByte)
    ∙ ap (λ xs. xs ++ moves_to (both_changed from) (both SourceByte)) (of_both (both_changed from) ValueByte)
    ∙ ap (λ xs. half_moves ValueByte from ++ xs) (of_both (both_changed from) SourceByte))
  where
    others : (c : DataCell) → is_cell_among (both ValueByte ++ both SourceByte) c ≡ false → both_changed from c ≡ c ∷ []
    others (ValueByte Low) is = absurd (cc is)
    others (ValueByte High) is = absurd (cc is)
    others (SourceByte Low) is = absurd (cc is)
    others (SourceByte High) is = absurd (cc is)
    others c is = refl

-- The codes, and an operation
pub codes_move : (from : ConditionCode → List DataCell) → AreMoves (codes_changed from) (code_moves CodeNow from)
codes_move from = by (codes_changed from) (each_code CodeNow) (record { others = others; distinct = (refl, (refl, (refl, (refl, tt)))) }) (of_codes (codes_changed from) CodeNow)
  where
    others : (c : DataCell) → is_cell_among (each_code CodeNow) c ≡ false → codes_changed from c ≡ c ∷ []
    others (CodeNow Negative) is = absurd (cc is)
    others (CodeNow Zero) is = absurd (cc is)
    others (CodeNow Overflow) is = absurd (cc is)
    others (CodeNow Carry) is = absurd (cc is)
    others c is = refl

pub effects_move : (cells : EffectCells) → AreMoves (effect_changed cells) (effect_moves cells)
effects_move cells = by (effect_changed cells) (both ResultByte ++ each_code CodeDue)
    (record { others = others; distinct = (refl, (refl, (refl, (refl, (refl, (refl, tt)))))) })
    (appended (effect_changed cells) (both ResultByte) (each_code CodeDue)
    ∙ ap (λ xs. xs ++ moves_to (effect_changed cells) (each_code CodeDue)) (of_both (effect_changed cells) ResultByte)
    ∙ ap (λ xs. half_moves ResultByte cells.value ++ xs) (of_codes (effect_changed cells) CodeDue))
  where
    others : (c : DataCell) → is_cell_among (both ResultByte ++ each_code CodeDue) c ≡ false → effect_changed cells c ≡ c ∷ []
    others (ResultByte Low) is = absurd (cc is)
    others (ResultByte High) is = absurd (cc is)
    others (CodeDue Negative) is = absurd (cc is)
    others (CodeDue Zero) is = absurd (cc is)
    others (CodeDue Overflow) is = absurd (cc is)
    others (CodeDue Carry) is = absurd (cc is)
    others c is = refl

-- A register at a place, if it has one
abbrev pub changed_at : Option ℕ → Halves → (DataCell → List DataCell) → DataCell → List DataCell
changed_at (Some k) from others (RegisterByte n half) = if n == k then from half else others (RegisterByte n half)
changed_at (Some k) from others c = others c
changed_at None from others c = others c

pub by_place : (id : RegisterId) (from : Halves) (others : DataCell → List DataCell) (c : DataCell)
    → changed_at (place_of_register id) from others c ≡ register_changed id from others c
by_place ProgramCounter from others (RegisterByte n half) = refl
by_place R0 from others (RegisterByte n half) = refl
by_place R1 from others (RegisterByte n half) = refl
by_place R2 from others (RegisterByte n half) = refl
by_place R3 from others (RegisterByte n half) = refl
by_place R4 from others (RegisterByte n half) = refl
by_place R5 from others (RegisterByte n half) = refl
by_place KernelStack from others (RegisterByte n half) = refl
by_place UserStack from others (RegisterByte n half) = refl
by_place ProgramCounter from others c = refl
by_place R0 from others c = refl
by_place R1 from others c = refl
by_place R2 from others c = refl
by_place R3 from others c = refl
by_place R4 from others c = refl
by_place R5 from others c = refl
by_place KernelStack from others c = refl
by_place UserStack from others c = refl

-- the same row, cell by cell
pub alike : (made other : DataCell → List DataCell) (moves : _) → AreMoves made moves → ((c : DataCell) → made c ≡ other c) → AreMoves other moves
alike made other moves are same = record { told = λ c. are.told c ∙ same c; move = are.move }

-- a half of another word
pub other_at : (half : Half) (same : Bool) → (if is_half half Low && same then true else (if is_half half High && same then true else false)) ≡ false → same ≡ false
other_at Low true is = absurd (cc is)
other_at High true is = absurd (cc is)
other_at half false is = refl

pub registers_move : (id : RegisterId) (from : Halves) → AreMoves (register_changed id from of_itself) (register_moves id from)
registers_move id from = alike _ _ _ (at (place_of_register id)) (by_place id from of_itself)
  where
    at : (place : Option ℕ) → AreMoves (changed_at place from of_itself) (place_moves place from)
    at None = nothing_moves
    at (Some k) = by (changed_at (Some k) from of_itself) (both (λ half. RegisterByte k half)) (record { others = others; distinct = (refl, (refl, tt)) })
        (of_both (changed_at (Some k) from of_itself) (λ half. RegisterByte k half) ∙ rw (same_number k) refl)
      where
        others : (c : DataCell) → is_cell_among (both (λ half. RegisterByte k half)) c ≡ false → changed_at (Some k) from of_itself c ≡ c ∷ []
        others (RegisterByte n half) is = rw (other_at half (n == k) is) refl
        others c is = refl

-- No codes are due
pub none_due : AreMoves (codes_changed (codes_if_due None)) []
none_due = alike of_itself (codes_changed (codes_if_due None)) [] nothing_moves same
  where
    same : (c : DataCell) → c ∷ [] ≡ codes_changed (codes_if_due None) c
    same (CodeNow code) = refl
    same c = refl

-- The end of the red sequence
pub red_moves : (from : Halves) (codes : ConditionCode → List DataCell)
    → AreMoves (register_changed KernelStack from (codes_changed codes)) (register_moves KernelStack from ++ code_moves CodeNow codes)
red_moves from codes = by made (both bytes ++ each_code CodeNow) (record { others = others; distinct = (refl, (refl, (refl, (refl, (refl, (refl, tt)))))) })
    (appended made (both bytes) (each_code CodeNow)
    ∙ ap (λ xs. xs ++ moves_to made (each_code CodeNow)) (of_both made bytes)
    ∙ ap (λ xs. half_moves bytes from ++ xs) (of_codes made CodeNow))
  where
    made : DataCell → List DataCell
    made = register_changed KernelStack from (codes_changed codes)

    bytes : Half → DataCell
    bytes half = RegisterByte 6 half

    others : (c : DataCell) → is_cell_among (both (λ half. RegisterByte 6 half) ++ each_code CodeNow) c ≡ false → register_changed KernelStack from (codes_changed codes) c ≡ c ∷ []
    others (RegisterByte n half) is = rw (other_at half (n == 6) is) refl
    others (CodeNow Negative) is = absurd (cc is)
    others (CodeNow Zero) is = absurd (cc is)
    others (CodeNow Overflow) is = absurd (cc is)
    others (CodeNow Carry) is = absurd (cc is)
    others c is = refl
