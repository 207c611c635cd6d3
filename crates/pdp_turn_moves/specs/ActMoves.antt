-- What the act of a turn moved, as a list: of each cell in a fixed order the cells that it is made
-- of, unless it is made of itself alone. No rule of the handbook is here.
use Rattle.std.specs.Prelude.{ℕ, ◌/◌, ◌++◌, Bool, true, false, List, [], ◌∷◌, map, nat_lt}
use Rattle.std.specs.Prelude.{Option, None, Some, if◌then◌else◌}
use Rattle.pdp_word.specs.Physical.{first_register}
use Rattle.pdp_store.specs.declared.cycle_log.BusCycle.{BusCycle}
use Rattle.pdp_store.specs.declared.cycle_log.CycleKind.{CycleKind}
use Rattle.pdp_store.specs.declared.cycle_log.CycleKind.TheVariants as kind
use Rattle.pdp_unibus.specs.declared.event.Event.{Event}
use Rattle.pdp_operand.specs.Phases.World.{World}
use Rattle.pdp_cpu.specs.Handbook.Turn.{at_turn}
use Rattle.pdp_made.specs.Cells.{Half, Low, High}
use Rattle.pdp_made.specs.Cells.{ConditionCode, Negative, Zero, Overflow, Carry}
use Rattle.pdp_made.specs.Cells.{DeviceBuffer, Keyboard, Printer, Reader, Punch, Switches}
use Rattle.pdp_made.specs.Cells.{DataCell, CoreByte, DriveByte, RegisterByte, CodeNow, Buffer}
use Rattle.pdp_made.specs.Cells.{TapeByte, ValueByte, SourceByte, ResultByte, StatusByte}
use Rattle.pdp_made.specs.Cells.{CodeDue, CodeSaved, no_saved_codes}
use Rattle.pdp_made.specs.CourseRows.{made_along}
use Rattle.pdp_made_run.specs.TurnRows.{rows_of_turn}
use Rattle.pdp_moves.specs.Moves.{is_cell_among, is_itself}
use Rattle.pdp_moves.specs.declared.cell_name.BufferName.{BufferName}
use Rattle.pdp_moves.specs.declared.cell_name.BufferName.TheVariants as buffer
use Rattle.pdp_moves.specs.declared.cell_name.CellName.{CellName}
use Rattle.pdp_moves.specs.declared.cell_name.CellName.TheVariants as name
use Rattle.pdp_moves.specs.declared.cell_name.CodeName.{CodeName}
use Rattle.pdp_moves.specs.declared.cell_name.CodeName.TheVariants as code
use Rattle.pdp_moves.specs.declared.cell_name.HalfName.{HalfName}
use Rattle.pdp_moves.specs.declared.cell_name.HalfName.TheVariants as half
use Rattle.pdp_turn_moves.specs.declared.act_move.ActMove.{ActMove}
use Rattle.pdp_turn_moves.specs.declared.act_move.ActMove.TheVariants as act

-- of which cells before its act a turn makes each cell after it
abbrev pub made_in_act : ℕ → List Event → World → DataCell → List DataCell
made_in_act t events w c =
    made_along (rows_of_turn t events w) no_saved_codes (at_turn t events w) c

-- whether it is a cell that a step hands to the next, which a plan that comes to a trap loses
abbrev pub is_handed_on : DataCell → Bool
is_handed_on (ValueByte h) = true
is_handed_on (SourceByte h) = true
is_handed_on (ResultByte h) = true
is_handed_on (StatusByte h) = true
is_handed_on (CodeDue c) = true
is_handed_on c = false

-- the name of each cell
abbrev pub name_of_half : Half → HalfName
name_of_half Low = half.Low
name_of_half High = half.High

abbrev pub name_of_code : ConditionCode → CodeName
name_of_code Negative = code.Negative
name_of_code Zero = code.Zero
name_of_code Overflow = code.Overflow
name_of_code Carry = code.Carry

abbrev pub name_of_buffer : DeviceBuffer → BufferName
name_of_buffer Keyboard = buffer.Keyboard
name_of_buffer Printer = buffer.Printer
name_of_buffer Reader = buffer.Reader
name_of_buffer Punch = buffer.Punch
name_of_buffer Switches = buffer.Switches

abbrev pub name_of : DataCell → CellName
name_of (CoreByte k h) = name.CoreByte k (name_of_half h)
name_of (DriveByte d k h) = name.DriveByte d k (name_of_half h)
name_of (RegisterByte n h) = name.RegisterByte n (name_of_half h)
name_of (CodeNow c) = name.CodeNow (name_of_code c)
name_of (Buffer b) = name.Buffer (name_of_buffer b)
name_of (TapeByte k) = name.TapeByte k
name_of (ValueByte h) = name.ValueByte (name_of_half h)
name_of (SourceByte h) = name.SourceByte (name_of_half h)
name_of (ResultByte h) = name.ResultByte (name_of_half h)
name_of (StatusByte h) = name.StatusByte (name_of_half h)
name_of (CodeDue c) = name.CodeDue (name_of_code c)
name_of (CodeSaved c) = name.CodeSaved (name_of_code c)

-- these cells and those, each once
abbrev pub with_cells : List DataCell → List DataCell → List DataCell
with_cells cells [] = cells
with_cells cells (c ∷ more) =
    with_cells (if is_cell_among cells c then cells else cells ++ c ∷ []) more

-- what a cell is made of, cell by cell; of itself alone is nothing to tell
abbrev pub moves_from : DataCell → List DataCell → List ActMove
moves_from c [] = act.OfNothing (name_of c) ∷ []
moves_from c (d ∷ cells) = map (λ e. act.Of (name_of c) (name_of e)) (d ∷ cells)

abbrev pub moves_of_cell : DataCell → List DataCell → List ActMove
moves_of_cell c cells = if is_itself c cells then [] else moves_from c cells

-- of each of these cells
abbrev pub moves_of_cells : (DataCell → List DataCell) → List DataCell → List ActMove
moves_of_cells made [] = []
moves_of_cells made (c ∷ cells) =
    moves_of_cell c (with_cells [] (made c)) ++ moves_of_cells made cells

-- both halves of the word of core that a cycle wrote, if it is core that it wrote
abbrev pub both_halves_of : ℕ → List DataCell
both_halves_of k = CoreByte k Low ∷ CoreByte k High ∷ []

abbrev pub halves_written_at : ℕ → Option ℕ → List DataCell
halves_written_at address None = []
halves_written_at address (Some value) =
    if nat_lt address first_register then both_halves_of (address / 2) else []

abbrev pub cells_of_cycle : CycleKind → ℕ → Option ℕ → List DataCell
cells_of_cycle kind.Read address value = []
cells_of_cycle kind.Write address value = halves_written_at address value
cells_of_cycle kind.WriteByte address value = halves_written_at address value

abbrev pub cells_written : List BusCycle → List DataCell
cells_written [] = []
cells_written (cycle ∷ cycles) =
    cells_of_cycle cycle.kind cycle.address cycle.value ++ cells_written cycles

-- the registers, the condition codes and the buffers of the devices
abbrev pub halves_of_register : ℕ → List DataCell
halves_of_register n = RegisterByte n Low ∷ RegisterByte n High ∷ []

abbrev pub cells_outside_core : List DataCell
cells_outside_core =
    halves_of_register 0 ++ halves_of_register 1 ++ halves_of_register 2 ++ halves_of_register 3
    ++ halves_of_register 4 ++ halves_of_register 5 ++ halves_of_register 6
    ++ halves_of_register 7 ++ CodeNow Negative ∷ CodeNow Zero ∷ CodeNow Overflow
    ∷ CodeNow Carry ∷ Buffer Keyboard ∷ Buffer Printer ∷ Buffer Reader ∷ Buffer Punch
    ∷ Buffer Switches ∷ []

-- what an act with these cycles moved: to the words of core that it wrote, each once and in their
-- order, and then to all else
abbrev pub moves_of_act : (DataCell → List DataCell) → List BusCycle → List ActMove
moves_of_act made cycles =
    moves_of_cells made (with_cells [] (cells_written cycles))
    ++ moves_of_cells made cells_outside_core
