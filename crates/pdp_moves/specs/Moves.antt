-- Moves: what a step makes of what, told as a list. No rule of the handbook is here.
use Rattle.std.specs.Prelude.{◌≡◌, ◌==◌, ◌&&◌, Bool, true, false, List, [], ◌∷◌, ◌++◌}
use Rattle.std.specs.Prelude.{flat_map, map, if◌then◌else◌}
use Rattle.pdp_made.specs.Cells.{Half, Low, High}
use Rattle.pdp_made.specs.Cells.{ConditionCode, Negative, Zero, Overflow, Carry}
use Rattle.pdp_made.specs.Cells.{DeviceBuffer, Keyboard, Printer, Reader, Punch, Switches}
use Rattle.pdp_made.specs.Cells.{DataCell, CoreByte, DriveByte, RegisterByte, CodeNow, Buffer}
use Rattle.pdp_made.specs.Cells.{TapeByte, ValueByte, SourceByte, ResultByte, StatusByte}
use Rattle.pdp_made.specs.Cells.{CodeDue, CodeSaved}

-- whether two halves are the same, two codes, two buffers, and two cells
abbrev pub is_half : Half → Half → Bool
is_half Low Low = true
is_half High High = true
is_half one other = false

abbrev pub is_code : ConditionCode → ConditionCode → Bool
is_code Negative Negative = true
is_code Zero Zero = true
is_code Overflow Overflow = true
is_code Carry Carry = true
is_code one other = false

abbrev pub is_buffer : DeviceBuffer → DeviceBuffer → Bool
is_buffer Keyboard Keyboard = true
is_buffer Printer Printer = true
is_buffer Reader Reader = true
is_buffer Punch Punch = true
is_buffer Switches Switches = true
is_buffer one other = false

abbrev pub is_cell : DataCell → DataCell → Bool
is_cell (CoreByte k h) (CoreByte n g) = is_half h g && (k == n)
is_cell (DriveByte d k h) (DriveByte e n g) = is_half h g && ((d == e) && (k == n))
is_cell (RegisterByte k h) (RegisterByte n g) = is_half h g && (k == n)
is_cell (CodeNow c) (CodeNow d) = is_code c d
is_cell (Buffer b) (Buffer c) = is_buffer b c
is_cell (TapeByte k) (TapeByte n) = k == n
is_cell (ValueByte h) (ValueByte g) = is_half h g
is_cell (SourceByte h) (SourceByte g) = is_half h g
is_cell (ResultByte h) (ResultByte g) = is_half h g
is_cell (StatusByte h) (StatusByte g) = is_half h g
is_cell (CodeDue c) (CodeDue d) = is_code c d
is_cell (CodeSaved c) (CodeSaved d) = is_code c d
is_cell one other = false

-- A move: a cell after a step, and the cells before it that it is made of.
pub record Move : Type 0 where
  pub cell : DataCell
  pub sources : List DataCell

-- a cell that is made of itself alone
abbrev pub is_itself : DataCell → List DataCell → Bool
is_itself c (d ∷ []) = is_cell c d
is_itself c cells = false

-- what the moves say that a cell is made of: if none is of it, of itself
abbrev pub sources_in : List Move → DataCell → List DataCell
sources_in [] c = c ∷ []
sources_in (move ∷ moves) c = if is_cell c move.cell then move.sources else sources_in moves c

-- the moves to these cells: a cell that is made of itself moves nothing
abbrev pub move_to : DataCell → List DataCell → List Move
move_to c sources = if is_itself c sources then [] else record { cell = c; sources = sources } ∷ []

abbrev pub moves_to : (DataCell → List DataCell) → List DataCell → List Move
moves_to made [] = []
moves_to made (c ∷ cells) = move_to c (made c) ++ moves_to made cells

-- whether the cell is one of these
abbrev pub is_cell_among : List DataCell → DataCell → Bool
is_cell_among [] c = false
is_cell_among (d ∷ cells) c = if is_cell c d then true else is_cell_among cells c

-- each cell that moves is made of others, or of nothing, and is told once
abbrev pub AllMove : List Move → Type 0
AllMove [] = Unit {0}
AllMove (move ∷ moves) =
    (is_itself move.cell move.sources ≡ false)
    × (is_cell_among (map (λ m. m.cell) moves) move.cell ≡ false) × AllMove moves

-- The moves are those of this row: they say of each cell what it is made of.
pub record AreMoves (made : DataCell → List DataCell) (moves : List Move) : Type 0 where
  pub told : (c : DataCell) → sources_in moves c ≡ made c
  pub move : AllMove moves

-- of which cells before some steps a cell after them is made, by the moves of each step
abbrev pub sources_before : List (List Move) → DataCell → List DataCell
sources_before [] c = c ∷ []
sources_before (moves ∷ rest) c = flat_map (sources_in moves) (sources_before rest c)

-- A row changes these cells alone, and none of them stands there twice.
abbrev pub AreDistinct : List DataCell → Type 0
AreDistinct [] = Unit {0}
AreDistinct (c ∷ cells) = (is_cell_among cells c ≡ false) × AreDistinct cells

pub record AreAll (made : DataCell → List DataCell) (cells : List DataCell) : Type 0 where
  pub others : (c : DataCell) → is_cell_among cells c ≡ false → made c ≡ c ∷ []
  pub distinct : AreDistinct cells
