-- How moves are built up in the code: half by half, and code by code. No rule of the handbook is
-- here.
use Rattle.std.specs.Prelude.{◌≡◌, ◌==◌, ℕ, Bool, true, false, List, [], ◌∷◌, ◌++◌, Option, Some}
use Rattle.std.specs.Prelude.{None, Result, Ok, Err, length}
use Rattle.pdp_word.specs.declared.size.Size.{Size}
use Rattle.pdp_kt11.specs.declared.place.Abort.{Abort}
use Rattle.pdp_console.specs.declared.kl.KlRegister.TheVariants.{PrinterBuffer}
use Rattle.pdp_tape.specs.declared.pc11.Pc11Register.TheVariants.{PunchBuffer, ReaderStatus}
use Rattle.pdp_io_page.specs.declared.register.Register.{Register}
use Rattle.pdp_io_page.specs.declared.register.Register.TheVariants as register
use Rattle.pdp_unibus.specs.Handbook.BusWorld.{BusWorld}
use Rattle.pdp_unibus.specs.Handbook.Cycle.{Slave, Core, Device, Nobody, slave_at}
use Rattle.pdp_operand.specs.Handbook.Operand.{size_of_fill}
use Rattle.pdp_operand.specs.declared.place.Fill.{Fill}
use Rattle.pdp_operand.specs.declared.place.Place.{Place}
use Rattle.pdp_operand.specs.declared.place.Place.TheVariants.{Reg, Mem}
use Rattle.pdp_operand.specs.declared.processor.RegisterId.{RegisterId}
use Rattle.pdp_operand.specs.declared.processor.RegisterId.TheVariants.{R0, R1, R2, R3, R4, R5}
use Rattle.pdp_operand.specs.declared.processor.RegisterId.TheVariants.{KernelStack, ProgramCounter}
use Rattle.pdp_operand.specs.declared.processor.RegisterId.TheVariants.{UserStack}
use Rattle.pdp_made.specs.Cells.{Half, Low, High, DataCell}
use Rattle.pdp_made.specs.Cells.{ConditionCode, Negative, Zero, Overflow, Carry}
use Rattle.pdp_made.specs.Cells.{Buffer, Printer, Punch, Reader, CodeDue, CodeNow, CoreByte}
use Rattle.pdp_made.specs.Cells.{RegisterByte, ResultByte}
use Rattle.pdp_made.specs.EffectRows.{EffectCells, both_halves, complement_halves, going_down}
use Rattle.pdp_made.specs.EffectRows.{going_up, source_halves, straight, value_halves, with_carry}
use Rattle.pdp_made.specs.OperandRows.{halves_of_result}
use Rattle.pdp_made.specs.ReferenceRows.{Halves, buffer_put, halves_filled, halves_of}
use Rattle.pdp_made.specs.ReferenceRows.{halves_of_device, halves_put, of_each, of_nothing}
use Rattle.pdp_made.specs.ReferenceRows.{place_of_write, whole_of}
use Rattle.pdp_made.specs.TrapRows.{halves_saved}
use Rattle.pdp_moves.specs.CellNames.{named_cells}
use Rattle.pdp_moves.specs.Moves.{Move, move_to}
use Rattle.pdp_moves.specs.declared.bus_slave.BusSlave.{BusSlave}
use Rattle.pdp_moves.specs.declared.bus_slave.BusSlave.TheVariants as slave
use Rattle.pdp_moves.specs.declared.cell_name.HalfName.{HalfName}
use Rattle.pdp_moves.specs.declared.cell_name.HalfName.TheVariants as half
use Rattle.pdp_moves.specs.declared.written_word.WrittenWord.{WrittenWord}
use Rattle.pdp_moves.specs.declared.written_word.WrittenWord.TheVariants as written
use Rattle.pdp_moves.specs.declared.effect_sources.EffectSources.{EffectSources}
use Rattle.pdp_moves.specs.declared.operands_taken.HalvesWay.{HalvesWay}
use Rattle.pdp_moves.specs.declared.operands_taken.HalvesWay.TheVariants as way
use Rattle.pdp_moves.specs.declared.operands_taken.OperandsTaken.{OperandsTaken}
use Rattle.pdp_moves.specs.declared.operands_taken.OperandsTaken.TheVariants as taken
use Rattle.pdp_moves.specs.declared.sources.CodeSources.{CodeSources}
use Rattle.pdp_moves.specs.declared.sources.HalfSources.{HalfSources}

-- The sources of both halves of a word are these, and those of the codes.
pub record AreHalves (sources : HalfSources) (from : Halves) : Type 0 where
  pub low : named_cells sources.low.items ≡ from Low
  pub high : named_cells sources.high.items ≡ from High

pub record AreOfCodes (sources : CodeSources) (from : ConditionCode → List DataCell) : Type 0 where
  pub negative : named_cells sources.negative.items ≡ from Negative
  pub zero : named_cells sources.zero.items ≡ from Zero
  pub overflow : named_cells sources.overflow.items ≡ from Overflow
  pub carry : named_cells sources.carry.items ≡ from Carry

-- the moves to both halves of a word, and to the four codes
abbrev pub half_moves : (Half → DataCell) → Halves → List Move
half_moves cell from = move_to (cell Low) (from Low) ++ move_to (cell High) (from High)

abbrev pub code_moves : (ConditionCode → DataCell) → (ConditionCode → List DataCell) → List Move
code_moves cell from = move_to (cell Negative) (from Negative) ++ (move_to (cell Zero) (from Zero)
    ++ (move_to (cell Overflow) (from Overflow) ++ move_to (cell Carry) (from Carry)))

-- What an operation takes.
abbrev pub halves_taken : OperandsTaken → Halves
halves_taken taken.Nothing = of_nothing
halves_taken taken.Source = source_halves
halves_taken taken.Value = value_halves
halves_taken taken.Both = both_halves
halves_taken taken.WithComplement = complement_halves
halves_taken taken.ValueAndCarry = with_carry value_halves

-- How bits go from half to half.
abbrev pub way_between : HalvesWay → Halves → Halves
way_between way.Straight = straight
way_between way.Up = going_up
way_between way.Down = going_down

-- The sources of the value of an effect and of its codes are these.
pub record AreOfEffect (sources : EffectSources) (cells : EffectCells) : Type 0 where
  pub value : AreHalves sources.value cells.value
  pub codes : AreOfCodes sources.codes cells.codes

-- the moves to the result of an operation, and to its codes
abbrev pub effect_moves : EffectCells → List Move
effect_moves cells = half_moves ResultByte cells.value ++ code_moves CodeDue cells.codes

-- the place of a register among the words: PC has none
abbrev pub place_of_register : RegisterId → Option ℕ
place_of_register R0 = Some 0
place_of_register R1 = Some 1
place_of_register R2 = Some 2
place_of_register R3 = Some 3
place_of_register R4 = Some 4
place_of_register R5 = Some 5
place_of_register KernelStack = Some 6
place_of_register UserStack = Some 7
place_of_register ProgramCounter = None

-- whether two registers have the same place, or neither has one
abbrev pub is_same_place : Option ℕ → Option ℕ → Bool
is_same_place (Some n) (Some k) = n == k
is_same_place None None = true
is_same_place one other = false

abbrev pub is_same_register : RegisterId → RegisterId → Bool
is_same_register id other = is_same_place (place_of_register id) (place_of_register other)

-- the moves to a register at this place
abbrev pub place_moves : Option ℕ → Halves → List Move
place_moves None from = []
place_moves (Some n) from = half_moves (λ half. RegisterByte n half) from

abbrev pub register_moves : RegisterId → Halves → List Move
register_moves id from = place_moves (place_of_register id) from

-- the moves to a register, and to the codes that are due
abbrev pub shift_moves : RegisterId → List DataCell → List Move
shift_moves id from = register_moves id (of_each from) ++ code_moves CodeDue (λ _. from)

-- and those to two registers, which may be one
abbrev pub pair_moves : Bool → RegisterId → RegisterId → List DataCell → List Move
pair_moves true high low from = shift_moves low from
pair_moves false high low from = register_moves high (of_each from) ++ shift_moves low from

-- The slave of a bus that this is.
abbrev pub slave_of : BusSlave → Slave
slave_of (slave.Core word) = Core word
slave_of (slave.Device register) = Device register
slave_of slave.Nobody = Nobody

-- What is written.
abbrev pub halves_written : WrittenWord → Halves
halves_written written.Nothing = of_nothing
halves_written written.Result = halves_of_result
halves_written written.SavedStatus = halves_saved

-- the most sources that a half of a word has on the bus: the codes are in the low half
abbrev pub most_of_half : HalfName → ℕ
most_of_half half.Low = 4
most_of_half half.High = 1

-- the moves of a write to a register of the bus
abbrev pub device_moves : Size → ℕ → Register → Halves → List Move
device_moves size physical register.ProgramStatus from = code_moves CodeNow (λ _. halves_put size
    physical (halves_of_device register.ProgramStatus) from Low)
device_moves size physical (register.Console PrinterBuffer) from =
    move_to (Buffer Printer) (buffer_put size physical (Buffer Printer) from)
device_moves size physical (register.PaperTape PunchBuffer) from =
    move_to (Buffer Punch) (buffer_put size physical (Buffer Punch) from)
device_moves size physical (register.PaperTape ReaderStatus) from =
    move_to (Buffer Reader) (Buffer Reader ∷ whole_of (halves_put size physical of_nothing from))
device_moves size physical register from = []

-- and of one to the slave at an address
abbrev pub slave_moves : Size → ℕ → Slave → Halves → List Move
slave_moves size physical (Core k) from = half_moves (λ half. CoreByte k half) (halves_put size
    physical (λ half. CoreByte k half ∷ []) from)
slave_moves size physical (Device register) from = device_moves size physical register from
slave_moves size physical Nobody from = []

abbrev pub write_moves : Size → BusWorld → Result ℕ Abort → Halves → List Move
write_moves size b (Ok physical) from =
    slave_moves size physical (slave_at (length b.core) physical) from
write_moves size b (Err abort) from = []

-- and of one to the place of an operand
abbrev pub operand_moves : Fill → Place → BusWorld → List Move
operand_moves how (Reg id) b = register_moves id (halves_filled how (halves_of id) halves_of_result)
operand_moves how (Mem cell) b =
    write_moves (size_of_fill how) b (place_of_write cell.mode cell.address b) halves_of_result
