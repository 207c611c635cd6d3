-- References that read: they leave all data, and what they read is made of the word that answers.
use Rattle.std.proofs.Common.{◌≡◌, ℕ, ◌%◌, ◌/◌, ◌==◌, Bool, true, false, length, slice_index, Result, Ok, Err, refl, ap, if◌then◌else◌}
use Rattle.pdp_word.specs.declared.size.Size.{Size}
use Rattle.pdp_word.specs.declared.size.Size.TheVariants.{Word, Byte}
use Rattle.pdp_kt11.specs.declared.kt.Kt.{Kt}
use Rattle.pdp_kt11.specs.declared.mode.Mode.{Mode}
use Rattle.pdp_kt11.specs.declared.place.Abort.{Abort}
use Rattle.pdp_console.specs.declared.kl.KlRegister.TheVariants.{KeyboardStatus, KeyboardBuffer, PrinterStatus, PrinterBuffer}
use Rattle.pdp_tape.specs.declared.pc11.Pc11Register.TheVariants.{ReaderStatus, ReaderBuffer, PunchStatus, PunchBuffer}
use Rattle.pdp_store.specs.CycleLogs.{KeptCycles}
use Rattle.pdp_io_page.specs.Handbook.Register.{after_read, value_in}
use Rattle.pdp_io_page.specs.declared.io_page.IoPage.{IoPage}
use Rattle.pdp_io_page.specs.declared.register.Register.{Register}
use Rattle.pdp_io_page.specs.declared.register.Register.TheVariants as register
use Rattle.pdp_unibus.specs.Handbook.BusWorld.{BusWorld}
use Rattle.pdp_unibus.specs.Handbook.Cycle.{Slave, Core, Device, Nobody, slave_at}
use Rattle.pdp_action.specs.declared.trap.Trap.{Trap}
use Rattle.pdp_operand.specs.Handbook.Operand.{reading}
use Rattle.pdp_operand.specs.Handbook.Reference.{Reference, is_odd, perform, reference_to, translation}
use Rattle.pdp_operand.proofs.Shape.{reply_by, shape_at, shape_by, shape_if, shape_of, perform_is}
use Rattle.pdp_made.specs.Cells.{Half, Low, High, byte_in, Data, CodeNow, bus_with, data_on, io_page_with}
use Rattle.pdp_made.specs.ReferenceRows.{Halves, half_of_address, halves_at, halves_if_placed, halves_of_device, halves_read, halves_referred}
use Rattle.pdp_made.proofs.Halves.{HalvesTell, codes_same, status_tells}

-- A read leaves all data.
abbrev page_of : Kt → BusWorld → IoPage
page_of mapping b = record b.io_page { mapping = mapping }

read_by_register : (r : Register) (mapping : Kt) (b : BusWorld) → data_on (record b { io_page = after_read r (page_of mapping b) }) ≡ data_on b
unfolding after_read
read_by_register (register.Console KeyboardStatus) mapping b = refl
read_by_register (register.Console KeyboardBuffer) mapping b = refl
read_by_register (register.Console PrinterStatus) mapping b = refl
read_by_register (register.Console PrinterBuffer) mapping b = refl
read_by_register register.Clock mapping b = refl
read_by_register (register.PaperTape ReaderStatus) mapping b = refl
read_by_register (register.PaperTape ReaderBuffer) mapping b = refl
read_by_register (register.PaperTape PunchStatus) mapping b = refl
read_by_register (register.PaperTape PunchBuffer) mapping b = refl
read_by_register (register.Disk k) mapping b = refl
read_by_register register.Switches mapping b = refl
read_by_register (register.Mapping k) mapping b = refl
read_by_register register.ProgramStatus mapping b = refl

read_by_slave : (size : Size) (physical turn drives : ℕ) (mapping : Kt) (b : BusWorld) (slave : Slave)
    → data_on (reply_by (shape_at (reading size) physical turn drives (page_of mapping b) slave) b).after ≡ data_on b
read_by_slave Word physical turn drives mapping b (Core k) = refl
read_by_slave Word physical turn drives mapping b (Device r) = read_by_register r mapping b
read_by_slave Word physical turn drives mapping b Nobody = refl
read_by_slave Byte physical turn drives mapping b (Core k) = refl
read_by_slave Byte physical turn drives mapping b (Device r) = read_by_register r mapping b
read_by_slave Byte physical turn drives mapping b Nobody = refl

read_by_place : (size : Size) (words turn drives : ℕ) (mapping : Kt) (b : BusWorld) (place : Result ℕ Abort)
    → data_on (reply_by (shape_by (reading size) words turn drives (page_of mapping b) place) b).after ≡ data_on b
read_by_place size words turn drives mapping b (Ok physical) = read_by_slave size physical turn drives mapping b (slave_at words physical)
read_by_place size words turn drives mapping b (Err abort) = refl

module _ (size : Size) (mode : Mode) (address : ℕ) where
  abbrev pub read_at : Reference
  read_at = reference_to mode (reading size) address

  read_if_odd : (odd : Bool) (b : BusWorld) → data_on (reply_by (shape_if odd read_at b) b).after ≡ data_on b
  read_if_odd true b = refl
  read_if_odd false b = read_by_place size (length b.core) b.turn (length b.drives) (translation read_at b).after b (translation read_at b).address

  read_shape : (b : BusWorld) → data_on (reply_by (shape_of read_at b) b).after ≡ data_on b
  unfolding shape_of
  read_shape b = read_if_odd (is_odd (reading size) address) b

  pub read_keeps_data : (b : BusWorld) → data_on (perform read_at b).after ≡ data_on b
  read_keeps_data b = rw (perform_is read_at b) (read_shape b)

-- What is read is made of the word that answers.
abbrev pub ValuesTell : Data → Data → Halves → Result ℕ Trap → Result ℕ Trap → Type 0
ValuesTell d e from (Ok b) (Ok a) = HalvesTell d e from b a
ValuesTell d e from (Ok b) (Err trap) = Unit {0}
ValuesTell d e from (Err trap) (Ok a) = Unit {0}
ValuesTell d e from (Err trap) (Err other) = Unit {0}

half_if : (even : Bool) (half : Half) (a b : ℕ) → byte_in (if even then Low else High) b ≡ byte_in (if even then Low else High) a
    → byte_in half (if even then b % 256 else b / 256) ≡ byte_in half (if even then a % 256 else a / 256)
half_if true half a b same = ap (byte_in half) same
half_if false half a b same = ap (byte_in half) same

-- what a register of the bus holds: with other data d, and with those of e
pub device_tells : (d e : Data) (r : Register) (drives : ℕ) (page : IoPage)
    → HalvesTell d e (halves_of_device r) (value_in r drives (io_page_with d.bus page)) (value_in r drives (io_page_with e.bus page))
unfolding value_in
device_tells d e (register.Console KeyboardStatus) drives page = λ half all. refl
device_tells d e (register.Console KeyboardBuffer) drives page = λ half all. ap (byte_in half) all.0
device_tells d e (register.Console PrinterStatus) drives page = λ half all. refl
device_tells d e (register.Console PrinterBuffer) drives page = λ half all. refl
device_tells d e register.Clock drives page = λ half all. refl
device_tells d e (register.PaperTape ReaderStatus) drives page = λ half all. refl
device_tells d e (register.PaperTape ReaderBuffer) drives page = λ half all. ap (byte_in half) all.0
device_tells d e (register.PaperTape PunchStatus) drives page = λ half all. refl
device_tells d e (register.PaperTape PunchBuffer) drives page = λ half all. refl
device_tells d e (register.Disk k) drives page = λ half all. refl
device_tells d e register.Switches drives page = λ half all. ap (byte_in half) all.0
device_tells d e (register.Mapping k) drives page = λ half all. refl
device_tells d e register.ProgramStatus drives page =
    status_tells d e CodeNow page.status d.bus.codes e.bus.codes (λ all. codes_same d.bus.codes e.bus.codes all.0 all.1.0 all.1.1.0 all.1.1.1.0)

module _ (d : Data) (log : KeptCycles) (b : BusWorld) (others : Data) where
  -- the data of this bus
  abbrev pub here : Data
  here = record others { bus = data_on b }

  value_by_slave : (size : Size) (physical turn drives : ℕ) (mapping : Kt) (slave : Slave)
      → ValuesTell d here (halves_read size physical (halves_at slave))
      (reply_by (shape_at (reading size) physical turn drives (page_of mapping (bus_with d.bus log b)) slave) (bus_with d.bus log b)).value
      (reply_by (shape_at (reading size) physical turn drives (page_of mapping b) slave) b).value
  value_by_slave Word physical turn drives mapping (Core k) = λ half all. all.0
  value_by_slave Word physical turn drives mapping (Device r) = device_tells d here r drives (page_of mapping b)
  value_by_slave Word physical turn drives mapping Nobody = tt
  value_by_slave Byte physical turn drives mapping (Core k) =
      λ half all. half_if (physical % 2 == 0) half (slice_index b.core k) (slice_index d.bus.core k) all.0
  value_by_slave Byte physical turn drives mapping (Device r) =
      λ half all. half_if (physical % 2 == 0) half _ _ (device_tells d here r drives (page_of mapping b) (half_of_address physical) all)
  value_by_slave Byte physical turn drives mapping Nobody = tt

  value_by_place : (size : Size) (turn drives : ℕ) (mapping : Kt) (place : Result ℕ Abort)
      → ValuesTell d here (halves_if_placed size b place)
      (reply_by (shape_by (reading size) (length b.core) turn drives (page_of mapping (bus_with d.bus log b)) place) (bus_with d.bus log b)).value
      (reply_by (shape_by (reading size) (length b.core) turn drives (page_of mapping b) place) b).value
  value_by_place Word turn drives mapping (Ok physical) = value_by_slave Word physical turn drives mapping (slave_at (length b.core) physical)
  value_by_place Byte turn drives mapping (Ok physical) = value_by_slave Byte physical turn drives mapping (slave_at (length b.core) physical)
  value_by_place Word turn drives mapping (Err abort) = tt
  value_by_place Byte turn drives mapping (Err abort) = tt

  module _ (core_size : length d.bus.core ≡ length b.core) (drives_count : length d.bus.drives ≡ length b.drives) (mode : Mode) (address : ℕ) where
    value_if_odd : (size : Size) (odd : Bool)
        → ValuesTell d here (halves_referred size mode address b)
        (reply_by (shape_if odd (read_at size mode address) (bus_with d.bus log b)) (bus_with d.bus log b)).value
        (reply_by (shape_if odd (read_at size mode address) b) b).value
    value_if_odd size true = tt
    value_if_odd Word false =
        rw (core_size, drives_count)
        (value_by_place Word b.turn (length b.drives) (translation (read_at Word mode address) b).after (translation (read_at Word mode address) b).address)
    value_if_odd Byte false =
        rw (core_size, drives_count)
        (value_by_place Byte b.turn (length b.drives) (translation (read_at Byte mode address) b).after (translation (read_at Byte mode address) b).address)

    value_of_shape : (size : Size) → ValuesTell d here (halves_referred size mode address b)
        (reply_by (shape_of (read_at size mode address) (bus_with d.bus log b)) (bus_with d.bus log b)).value
        (reply_by (shape_of (read_at size mode address) b) b).value
    unfolding shape_of
    value_of_shape size = value_if_odd size (is_odd (reading size) address)

    pub read_tells : (size : Size) → ValuesTell d here (halves_referred size mode address b)
        (perform (read_at size mode address) (bus_with d.bus log b)).value (perform (read_at size mode address) b).value
    read_tells size = rw (perform_is (read_at size mode address) (bus_with d.bus log b), perform_is (read_at size mode address) b) (value_of_shape size)
