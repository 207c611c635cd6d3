-- What registers and references are made of, and what changes them: DEC PDP-11/40 Processor
-- Handbook (1972), General registers and Processor status word; PDP-11 Peripherals Handbook,
-- Unibus, KL11 and PC11. How bytes are written is [P].
use Rattle.std.specs.Prelude.{ℕ, ◌%◌, ◌==◌, Bool, false, List, [], ◌∷◌, ◌++◌, Result, Ok}
use Rattle.std.specs.Prelude.{Err, length}
use Rattle.std.specs.Prelude.{if◌then◌else◌}
use Rattle.pdp_word.specs.declared.size.Size.{Size}
use Rattle.pdp_word.specs.declared.size.Size.TheVariants.{Word, Byte}
use Rattle.pdp_kt11.specs.Handbook.Translation.{translate}
use Rattle.pdp_kt11.specs.declared.mode.Mode.{Mode}
use Rattle.pdp_kt11.specs.declared.place.Abort.{Abort}
use Rattle.pdp_kt11.specs.declared.place.Access.TheVariants.{Read, Write}
use Rattle.pdp_console.specs.declared.kl.KlRegister.TheVariants.{KeyboardBuffer, PrinterBuffer}
use Rattle.pdp_tape.specs.declared.pc11.Pc11Register.TheVariants.{ReaderStatus, ReaderBuffer}
use Rattle.pdp_tape.specs.declared.pc11.Pc11Register.TheVariants.{PunchBuffer}
use Rattle.pdp_io_page.specs.declared.register.Register.{Register}
use Rattle.pdp_io_page.specs.declared.register.Register.TheVariants as register
use Rattle.pdp_unibus.specs.Handbook.BusWorld.{BusWorld}
use Rattle.pdp_unibus.specs.Handbook.Cycle.{Slave, Core, Device, Nobody, slave_at}
use Rattle.pdp_operand.specs.declared.place.Fill.{Fill}
use Rattle.pdp_operand.specs.declared.place.Fill.TheVariants as fill
use Rattle.pdp_operand.specs.declared.processor.RegisterId.{RegisterId}
use Rattle.pdp_operand.specs.declared.processor.RegisterId.TheVariants.{R0, R1, R2, R3, R4, R5}
use Rattle.pdp_operand.specs.declared.processor.RegisterId.TheVariants.{KernelStack, ProgramCounter}
use Rattle.pdp_operand.specs.declared.processor.RegisterId.TheVariants.{UserStack}
use Rattle.pdp_made.specs.Cells.{Half, Low, High, DataCell, CoreByte, RegisterByte, CodeNow}
use Rattle.pdp_made.specs.Cells.{Buffer, Keyboard, Printer, Reader, Switches, Punch}
use Rattle.pdp_made.specs.Cells.{ConditionCode, Negative, Zero, Overflow, Carry}

-- of which cells each half of a word is made
abbrev pub Halves : Type 0
Halves = Half → List DataCell

-- no cell; the same cells for both halves; and the cells of the whole word
abbrev pub of_nothing : Halves
of_nothing half = []

abbrev pub of_each : List DataCell → Halves
of_each cells half = cells

abbrev pub whole_of : Halves → List DataCell
whole_of from = from Low ++ from High

-- a byte is the low half, and its high half is 0
abbrev pub cut_to : Size → Halves → Halves
cut_to Word from half = from half
cut_to Byte from Low = from Low
cut_to Byte from High = []

-- the four codes
abbrev pub each_code : (ConditionCode → DataCell) → List DataCell
each_code cell = cell Negative ∷ cell Zero ∷ cell Overflow ∷ cell Carry ∷ []

-- Registers

-- the halves of a register: PC is no data
abbrev pub halves_of : RegisterId → Halves
halves_of ProgramCounter half = []
halves_of R0 half = RegisterByte 0 half ∷ []
halves_of R1 half = RegisterByte 1 half ∷ []
halves_of R2 half = RegisterByte 2 half ∷ []
halves_of R3 half = RegisterByte 3 half ∷ []
halves_of R4 half = RegisterByte 4 half ∷ []
halves_of R5 half = RegisterByte 5 half ∷ []
halves_of KernelStack half = RegisterByte 6 half ∷ []
halves_of UserStack half = RegisterByte 7 half ∷ []

-- whether a register has this place among the words of the processor
abbrev pub is_place_of : RegisterId → ℕ → Bool
is_place_of ProgramCounter n = false
is_place_of R0 n = n == 0
is_place_of R1 n = n == 1
is_place_of R2 n = n == 2
is_place_of R3 n = n == 3
is_place_of R4 n = n == 4
is_place_of R5 n = n == 5
is_place_of KernelStack n = n == 6
is_place_of UserStack n = n == 7

-- the register is made of these, and every other cell of what `others` names
abbrev pub register_changed : RegisterId → Halves → (DataCell → List DataCell) → DataCell
    → List DataCell
register_changed id from others (RegisterByte n half) =
    if is_place_of id n then from half else others (RegisterByte n half)
register_changed id from others c = others c

-- the halves of a word in which a byte replaced the low half, the high half, or both with its sign
abbrev pub with_low_byte : Halves → Halves → Halves
with_low_byte old from Low = from Low
with_low_byte old from High = old High ++ from High

abbrev pub with_high_byte : Halves → Halves → Halves
with_high_byte old from Low = old Low
with_high_byte old from High = whole_of from

abbrev pub extended_byte : Halves → Halves
extended_byte from Low = from Low
extended_byte from High = whole_of from

-- the halves of a register that was filled [3.14]
abbrev pub halves_filled : Fill → Halves → Halves → Halves
halves_filled fill.Whole old from = from
halves_filled fill.LowByte old from = with_low_byte old from
halves_filled fill.Extended old from = extended_byte from

-- Reads

-- what a register of the bus is made of: the codes, which are in the low half of the program status
-- word, or a buffer; every other register is no data
abbrev pub halves_of_codes : (ConditionCode → DataCell) → Halves
halves_of_codes cell Low = each_code cell
halves_of_codes cell High = []

abbrev pub halves_of_device : Register → Halves
halves_of_device register.ProgramStatus half = halves_of_codes CodeNow half
halves_of_device (register.Console KeyboardBuffer) half = Buffer Keyboard ∷ []
halves_of_device (register.PaperTape ReaderBuffer) half = Buffer Reader ∷ []
halves_of_device register.Switches half = Buffer Switches ∷ []
halves_of_device register half = []

abbrev pub halves_at : Slave → Halves
halves_at (Core k) half = CoreByte k half ∷ []
halves_at (Device register) half = halves_of_device register half
halves_at Nobody half = []

-- the half of a word that is at this address [1.4]
abbrev pub half_of_address : ℕ → Half
half_of_address physical = if physical % 2 == 0 then Low else High

-- a byte that is read is the half of its address
abbrev pub halves_read : Size → ℕ → Halves → Halves
halves_read Word physical from half = from half
halves_read Byte physical from half = from (half_of_address physical)

abbrev pub halves_if_placed : Size → BusWorld → Result ℕ Abort → Halves
halves_if_placed size b (Ok physical) half =
    halves_read size physical (halves_at (slave_at (length b.core) physical)) half
halves_if_placed size b (Err abort) half = []

-- what a read at this virtual address of a mode is made of
abbrev pub halves_referred : Size → Mode → ℕ → BusWorld → Halves
halves_referred size mode address b half =
    halves_if_placed size b (translate mode address Read b.io_page.mapping).address half

-- Writes

abbrev pub with_byte_at : Half → Halves → Halves → Halves
with_byte_at Low old from = with_low_byte old from
with_byte_at High old from = with_high_byte old from

-- the word after a write of a word, or of a byte to the half of its address
abbrev pub halves_put : Size → ℕ → Halves → Halves → Halves
halves_put Word physical old from = from
halves_put Byte physical old from = with_byte_at (half_of_address physical) old from

-- a buffer takes the low half: a byte that is written to the odd address does nothing [6.32]
abbrev pub buffer_put : Size → ℕ → DataCell → Halves → List DataCell
buffer_put Word physical buffer from = from Low
buffer_put Byte physical buffer from = if physical % 2 == 0 then from Low else buffer ∷ []

-- A write to a register of the bus changes the codes, if it is the program status word [2.9], TPB
-- [6.45] or PPB [6.43]. Go of PRS clears PRB, but not always [6.62]: so PRB is made of itself and
-- of what is written.
abbrev pub device_changed : Size → ℕ → Register → Halves → DataCell → List DataCell
device_changed size physical register.ProgramStatus from (CodeNow code) =
    halves_put size physical (halves_of_device register.ProgramStatus) from Low
device_changed size physical (register.Console PrinterBuffer) from (Buffer Printer) =
    buffer_put size physical (Buffer Printer) from
device_changed size physical (register.PaperTape PunchBuffer) from (Buffer Punch) =
    buffer_put size physical (Buffer Punch) from
device_changed size physical (register.PaperTape ReaderStatus) from (Buffer Reader) =
    Buffer Reader ∷ whole_of (halves_put size physical of_nothing from)
device_changed size physical register from c = c ∷ []

-- a write to a word of core
abbrev pub core_changed : Size → ℕ → ℕ → Halves → DataCell → List DataCell
core_changed size physical k from (CoreByte n half) =
    if n == k then halves_put size physical (λ other. CoreByte k other ∷ []) from half
    else CoreByte n half ∷ []
core_changed size physical k from c = c ∷ []

abbrev pub slave_changed : Size → ℕ → Slave → Halves → DataCell → List DataCell
slave_changed size physical (Core k) from c = core_changed size physical k from c
slave_changed size physical (Device register) from c =
    device_changed size physical register from c
slave_changed size physical Nobody from c = c ∷ []

abbrev pub changed_if_placed : Size → BusWorld → Result ℕ Abort → Halves → DataCell
    → List DataCell
changed_if_placed size b (Ok physical) from c =
    slave_changed size physical (slave_at (length b.core) physical) from c
changed_if_placed size b (Err abort) from c = c ∷ []

-- the physical address of a write at this virtual address of a mode
abbrev pub place_of_write : Mode → ℕ → BusWorld → Result ℕ Abort
place_of_write mode address b = (translate mode address Write b.io_page.mapping).address

-- what a write at this virtual address of a mode changes, if what it writes is made of `from`: a
-- word of core, the codes, or a buffer
abbrev pub changed_by_reference : Size → Mode → ℕ → BusWorld → Halves → DataCell
    → List DataCell
changed_by_reference size mode address b from (CoreByte k half) =
    changed_if_placed size b (place_of_write mode address b) from (CoreByte k half)
changed_by_reference size mode address b from (CodeNow code) =
    changed_if_placed size b (place_of_write mode address b) from (CodeNow code)
changed_by_reference size mode address b from (Buffer buffer) =
    changed_if_placed size b (place_of_write mode address b) from (Buffer buffer)
changed_by_reference size mode address b from c = c ∷ []
