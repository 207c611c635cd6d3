-- The cell that each name of the code names. No rule of the handbook is here.
use Rattle.std.specs.Prelude.{List, map}
use Rattle.pdp_made.specs.Cells.{Half, Low, High}
use Rattle.pdp_made.specs.Cells.{ConditionCode, Negative, Zero, Overflow, Carry}
use Rattle.pdp_made.specs.Cells.{DeviceBuffer, Keyboard, Printer, Reader, Punch, Switches}
use Rattle.pdp_made.specs.Cells.{DataCell, CoreByte, DriveByte, RegisterByte, CodeNow, Buffer}
use Rattle.pdp_made.specs.Cells.{TapeByte, ValueByte, SourceByte, ResultByte, StatusByte}
use Rattle.pdp_made.specs.Cells.{CodeDue, CodeSaved}
use Rattle.pdp_moves.specs.Moves.{Move}
use Rattle.pdp_moves.specs.declared.cell_move.CellMove.{CellMove}
use Rattle.pdp_moves.specs.declared.cell_name.BufferName.{BufferName}
use Rattle.pdp_moves.specs.declared.cell_name.BufferName.TheVariants as buffer
use Rattle.pdp_moves.specs.declared.cell_name.CellName.{CellName}
use Rattle.pdp_moves.specs.declared.cell_name.CellName.TheVariants as name
use Rattle.pdp_moves.specs.declared.cell_name.CodeName.{CodeName}
use Rattle.pdp_moves.specs.declared.cell_name.CodeName.TheVariants as code
use Rattle.pdp_moves.specs.declared.cell_name.HalfName.{HalfName}
use Rattle.pdp_moves.specs.declared.cell_name.HalfName.TheVariants as half

abbrev pub named_half : HalfName → Half
named_half half.Low = Low
named_half half.High = High

abbrev pub named_code : CodeName → ConditionCode
named_code code.Negative = Negative
named_code code.Zero = Zero
named_code code.Overflow = Overflow
named_code code.Carry = Carry

abbrev pub named_buffer : BufferName → DeviceBuffer
named_buffer buffer.Keyboard = Keyboard
named_buffer buffer.Printer = Printer
named_buffer buffer.Reader = Reader
named_buffer buffer.Punch = Punch
named_buffer buffer.Switches = Switches

abbrev pub named_cell : CellName → DataCell
named_cell (name.CoreByte word h) = CoreByte word (named_half h)
named_cell (name.DriveByte drive word h) = DriveByte drive word (named_half h)
named_cell (name.RegisterByte place h) = RegisterByte place (named_half h)
named_cell (name.CodeNow c) = CodeNow (named_code c)
named_cell (name.Buffer b) = Buffer (named_buffer b)
named_cell (name.TapeByte byte) = TapeByte byte
named_cell (name.ValueByte h) = ValueByte (named_half h)
named_cell (name.SourceByte h) = SourceByte (named_half h)
named_cell (name.ResultByte h) = ResultByte (named_half h)
named_cell (name.StatusByte h) = StatusByte (named_half h)
named_cell (name.CodeDue c) = CodeDue (named_code c)
named_cell (name.CodeSaved c) = CodeSaved (named_code c)

abbrev pub named_cells : List CellName → List DataCell
named_cells names = map named_cell names

-- a move
abbrev pub named_move : CellMove → Move
named_move move = record { cell = named_cell move.cell; sources = named_cells move.sources.items }

abbrev pub named_moves : List CellMove → List Move
named_moves moves = map named_move moves
