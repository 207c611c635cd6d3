-- The cells that hold a machine's data, and when two states are alike except for data. PC, mode,
-- priority, T, the places of operands, mapping, the states of devices and the registers of the
-- disk's controller are no data: they are the way that a program goes. No rule of the handbook is
-- here.
use Rattle.std.specs.Prelude.{ℕ, ◌≡◌, ◌/◌, ◌%◌, Bool, false, List, [], ◌∷◌, Option, Some, None}
use Rattle.std.specs.Prelude.{length, is_some, get_or, slice_get, slice_index}
use Rattle.pdp_word.specs.declared.codes.Codes.{Codes}
use Rattle.pdp_kt11.specs.declared.mode.Mode.{Mode}
use Rattle.pdp_store.specs.CycleLogs.{KeptCycles}
use Rattle.pdp_io_page.specs.Handbook.Status.{status_of_word}
use Rattle.pdp_io_page.specs.declared.io_page.IoPage.{IoPage}
use Rattle.pdp_unibus.specs.Handbook.BusWorld.{BusWorld}
use Rattle.pdp_operand.specs.Phases.Phase.{Latch, State, state_of}
use Rattle.pdp_operand.specs.Phases.World.{World, world}
use Rattle.pdp_operand.specs.declared.processor.Processor.{Processor}

-- a half of a word: bits 7-0, and bits 15-8
pub data Half : Type 0 where
  Low : Half
  High : Half

abbrev pub byte_in : Half → ℕ → ℕ
byte_in Low word = word % 256
byte_in High word = word / 256

-- a condition code
pub data ConditionCode : Type 0 where
  Negative : ConditionCode
  Zero : ConditionCode
  Overflow : ConditionCode
  Carry : ConditionCode

abbrev pub flag_in : ConditionCode → Codes → Bool
flag_in Negative codes = codes.n
flag_in Zero codes = codes.z
flag_in Overflow codes = codes.v
flag_in Carry codes = codes.c

-- codes that are due, if any are
abbrev pub flag_due : ConditionCode → Option Codes → Bool
flag_due code None = false
flag_due code (Some codes) = flag_in code codes

-- what a device holds of data: TKB, TPB, PRB, PPB, and the switches
pub data DeviceBuffer : Type 0 where
  Keyboard : DeviceBuffer
  Printer : DeviceBuffer
  Reader : DeviceBuffer
  Punch : DeviceBuffer
  Switches : DeviceBuffer

-- A cell: a half of a word of core or of a drive, a half of a register by its place among the words
-- (R0 to R5, and then the stack pointers of kernel and user mode), a condition code, the buffer of
-- a device, or a byte of the paper tape, which nothing changes; then what one phase hands to the
-- next, by the names of the latch: halves of the operand, of the source, of the result and of a new
-- program status word, and the codes that are due; and the codes that the sequence of a trap saves.
pub data DataCell : Type 0 where
  CoreByte : ℕ → Half → DataCell
  DriveByte : ℕ → ℕ → Half → DataCell
  RegisterByte : ℕ → Half → DataCell
  CodeNow : ConditionCode → DataCell
  Buffer : DeviceBuffer → DataCell
  TapeByte : ℕ → DataCell
  ValueByte : Half → DataCell
  SourceByte : Half → DataCell
  ResultByte : Half → DataCell
  StatusByte : Half → DataCell
  CodeDue : ConditionCode → DataCell
  CodeSaved : ConditionCode → DataCell

-- the data that is on the bus
pub record BusData : Type 0 where
  pub core : List ℕ
  pub drives : List (List ℕ)
  pub codes : Codes
  pub keyboard : ℕ
  pub printer : ℕ
  pub reader : ℕ
  pub punch : ℕ
  pub switches : ℕ
  pub tape : List ℕ

-- all data
pub record Data : Type 0 where
  pub bus : BusData
  pub words : List ℕ
  pub value : ℕ
  pub source : ℕ
  pub result : ℕ
  pub status : ℕ
  pub due : Option Codes
  pub saved : Codes

abbrev pub data_on : BusWorld → BusData
data_on b = record {
  core = b.core;
  drives = b.drives;
  codes = b.io_page.status.codes;
  keyboard = b.io_page.console.keyboard.key;
  printer = b.io_page.console.printer.byte;
  reader = b.io_page.paper_tape.reader.byte;
  punch = b.io_page.paper_tape.punch.byte;
  switches = b.io_page.switches;
  tape = b.tape;
}

-- the data of a state in which the sequence of a trap saves these codes
abbrev pub data_of : Codes → State → Data
data_of saved s = record {
  bus = data_on s.world.bus;
  words = s.world.processor.words;
  value = s.latch.value;
  source = s.latch.source;
  result = s.latch.result;
  status = s.latch.status;
  due = s.latch.codes;
  saved = saved;
}

-- the data of a state in which no codes are saved: any would do, since no phase has them
abbrev pub no_saved_codes : Codes
no_saved_codes = record { n = false; z = false; v = false; c = false }

abbrev pub data_left : State → Data
data_left s = data_of no_saved_codes s

-- the data of a world, in which no phase hands anything to the next
abbrev pub data_at : Codes → World → Data
data_at saved w = record {
  bus = data_on w.bus;
  words = w.processor.words;
  value = 0;
  source = 0;
  result = 0;
  status = 0;
  due = None;
  saved = saved;
}

-- an I/O page with other data
abbrev pub io_page_with : BusData → IoPage → IoPage
io_page_with d b = record b {
  status = record b.status { codes = d.codes };
  console = record b.console {
    keyboard = record b.console.keyboard { key = d.keyboard };
    printer = record b.console.printer { byte = d.printer };
  };
  paper_tape = record b.paper_tape {
    reader = record b.paper_tape.reader { byte = d.reader };
    punch = record b.paper_tape.punch { byte = d.punch };
  };
  switches = d.switches;
}

-- a bus with other data, and another log, since a log has the values of the cycles
abbrev pub bus_with : BusData → KeptCycles → BusWorld → BusWorld
bus_with d log b = record b {
  core = d.core;
  drives = d.drives;
  tape = d.tape;
  log = log;
  io_page = io_page_with d b.io_page;
}

abbrev pub processor_with : List ℕ → Processor → Processor
processor_with words p = record p { words = words }

abbrev pub latch_with_data : Data → Latch → Latch
latch_with_data d latch = record latch {
  value = d.value;
  source = d.source;
  result = d.result;
  status = d.status;
  codes = d.due;
}

-- a state with other data
abbrev pub with_data : Data → KeptCycles → State → State
with_data d log s = state_of (processor_with d.words s.world.processor) (bus_with d.bus log
    s.world.bus) (latch_with_data d s.latch)

-- the mode of a new program status word
abbrev pub mode_in_word : ℕ → Mode
mode_in_word word = (status_of_word word).mode

-- What data has of the way is the same in both: the number of words of core and of the registers,
-- the number of drives, whether codes are due, and the mode of a new program status word.
pub record SameShape (d e : Data) : Type 0 where
  pub core_size : length d.bus.core ≡ length e.bus.core
  pub drives_count : length d.bus.drives ≡ length e.bus.drives
  pub words_size : length d.words ≡ length e.words
  pub both_due : is_some d.due ≡ is_some e.due
  pub new_mode : mode_in_word d.status ≡ mode_in_word e.status

-- Two states are alike except for data: the one is the other with its own data. `saved` and `other`
-- are the codes that the sequence of a trap saves in each of them.
pub record AreAlike (saved other : Codes) (s u : State) : Type 0 where
  pub same_way : u ≡ with_data (data_of other u) u.world.bus.log s
  pub shape : SameShape (data_of other u) (data_of saved s)

-- two worlds are alike except for data
pub record WorldsAlike (w v : World) : Type 0 where
  pub same_way : v ≡ world (processor_with v.processor.words w.processor) (bus_with (data_on
      v.bus) v.bus.log w.bus)
  pub core_size : length v.bus.core ≡ length w.bus.core
  pub drives_count : length v.bus.drives ≡ length w.bus.drives
  pub words_size : length v.processor.words ≡ length w.processor.words

-- what a buffer holds
abbrev pub held_in : DeviceBuffer → BusData → ℕ
held_in Keyboard d = d.keyboard
held_in Printer d = d.printer
held_in Reader d = d.reader
held_in Punch d = d.punch
held_in Switches d = d.switches

-- a cell holds the same in data d and in data e
abbrev pub Same : Data → Data → DataCell → Type 0
Same d e (CoreByte k half) = byte_in half (slice_index d.bus.core k)
    ≡ byte_in half (slice_index e.bus.core k)
Same d e (DriveByte n k half) = byte_in half (slice_index (get_or d.bus.drives n []) k)
    ≡ byte_in half (slice_index (get_or e.bus.drives n []) k)
Same d e (RegisterByte n half) = byte_in half (slice_index d.words n)
    ≡ byte_in half (slice_index e.words n)
Same d e (CodeNow code) = flag_in code d.bus.codes ≡ flag_in code e.bus.codes
Same d e (Buffer buffer) = held_in buffer d.bus ≡ held_in buffer e.bus
Same d e (TapeByte k) = slice_get d.bus.tape k ≡ slice_get e.bus.tape k
Same d e (ValueByte half) = byte_in half d.value ≡ byte_in half e.value
Same d e (SourceByte half) = byte_in half d.source ≡ byte_in half e.source
Same d e (ResultByte half) = byte_in half d.result ≡ byte_in half e.result
Same d e (StatusByte half) = byte_in half d.status ≡ byte_in half e.status
Same d e (CodeDue code) = flag_due code d.due ≡ flag_due code e.due
Same d e (CodeSaved code) = flag_in code d.saved ≡ flag_in code e.saved

-- each of these cells does
abbrev pub EachSame : Data → Data → List DataCell → Type 0
EachSame d e [] = Unit {0}
EachSame d e (c ∷ cs) = Same d e c × EachSame d e cs
