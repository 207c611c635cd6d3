-- References that write: what they change is made of what is written.
use Rattle.std.proofs.Common.{◌≡◌, ◌∙◌, ℕ, ◌+◌, ◌-◌, ◌*◌, ◌%◌, ◌==◌, Bool, true, false, List, [], ◌∷◌, length, slice_get, slice_index, slice_set, get_or, Result, Ok, Err, refl, ap₂, sym, true≢false, if◌then◌else◌}
use Rattle.pdp_word.specs.declared.size.Size.{Size}
use Rattle.pdp_word.specs.declared.size.Size.TheVariants.{Word, Byte}
use Rattle.pdp_device.specs.Operation.{is_under_way}
use Rattle.pdp_device.specs.Transmitter.{byte_written}
use Rattle.pdp_device.specs.declared.transmitter.Transmitter.{Transmitter}
use Rattle.pdp_kt11.specs.declared.kt.Kt.{Kt}
use Rattle.pdp_kt11.specs.declared.mode.Mode.{Mode}
use Rattle.pdp_kt11.specs.declared.place.Abort.{Abort}
use Rattle.pdp_console.specs.declared.kl.KlRegister.TheVariants.{KeyboardStatus, KeyboardBuffer, PrinterStatus, PrinterBuffer}
use Rattle.pdp_tape.specs.Reader.{reader_status_written}
use Rattle.pdp_tape.specs.declared.pc11.Pc11Register.TheVariants.{ReaderStatus, ReaderBuffer, PunchStatus, PunchBuffer}
use Rattle.pdp_store.specs.CycleLogs.{KeptCycles}
use Rattle.pdp_io_page.specs.Handbook.Register.{after_byte, after_write, value_in, word_with_byte}
use Rattle.pdp_io_page.specs.Handbook.Status.{status_of_word, status_written}
use Rattle.pdp_io_page.specs.declared.io_page.IoPage.{IoPage}
use Rattle.pdp_io_page.specs.declared.register.Register.{Register}
use Rattle.pdp_io_page.specs.declared.register.Register.TheVariants as register
use Rattle.pdp_unibus.specs.Handbook.BusWorld.{BusWorld}
use Rattle.pdp_unibus.specs.Handbook.Cycle.{Slave, Core, Device, Nobody, slave_at}
use Rattle.pdp_action.specs.declared.trap.Trap.{Trap}
use Rattle.pdp_operand.specs.Handbook.Reference.{Kind, WriteWord, WriteByte, Reference, is_odd, perform, reference_to, translation}
use Rattle.pdp_operand.proofs.Shape.{reply_by, shape_at, shape_by, shape_if, shape_of, perform_is}
use Rattle.pdp_made.specs.Cells.{Half, Low, High, byte_in, BusData, ConditionCode, flag_in, Data, DataCell, CoreByte, DriveByte, CodeNow, Buffer, TapeByte, DeviceBuffer, Keyboard, Printer, Reader, Punch, Switches, held_in, EachSame, bus_with, data_on}
use Rattle.pdp_made.specs.ReferenceRows.{Halves, changed_if_placed, device_changed, halves_of_device, halves_put, of_each, place_of_write, slave_changed, with_byte_at}
use Rattle.pdp_made.proofs.Halves.{HalvesTell, codes_tell, high_byte_tells, low_byte_tells, whole_tells}
use Rattle.pdp_made.proofs.Readings.{device_tells}
use Rattle.pdp_made.proofs.Registers.{set_tells}

-- a write of a word, or of a byte
abbrev pub put_kind : Size → ℕ → Kind
put_kind Word word = WriteWord word
put_kind Byte byte = WriteByte byte

-- the cells of the bus
pub record BusTells (d e : Data) (made : DataCell → List DataCell) (x y : BusData) : Type 0 where
  pub core : (k : ℕ) (half : Half) → EachSame d e (made (CoreByte k half)) → byte_in half (slice_index x.core k) ≡ byte_in half (slice_index y.core k)
  pub drives : (n k : ℕ) (half : Half) → EachSame d e (DriveByte n k half ∷ []) → byte_in half (slice_index (get_or x.drives n []) k) ≡ byte_in half (slice_index (get_or y.drives n []) k)
  pub tape : (k : ℕ) → EachSame d e (TapeByte k ∷ []) → slice_get x.tape k ≡ slice_get y.tape k
  pub codes : (code : ConditionCode) → EachSame d e (made (CodeNow code)) → flag_in code x.codes ≡ flag_in code y.codes
  pub buffers : (buffer : DeviceBuffer) → EachSame d e (made (Buffer buffer)) → held_in buffer x ≡ held_in buffer y

-- The word that is written to a register of the bus
abbrev word_put : Size → ℕ → Register → ℕ → IoPage → ℕ → ℕ
word_put Word physical r drives page word = word
word_put Byte physical r drives page byte = word_with_byte (value_in r drives page) physical byte

byte_at_tells : (d e : Data) (even : Bool) (old from : Halves) (x y a b : ℕ) → HalvesTell d e old x y → HalvesTell d e from a b
    → HalvesTell d e (with_byte_at (if even then Low else High) old from) (if even then x - x % 256 + a else a * 256 + x % 256) (if even then y - y % 256 + b else b * 256 + y % 256)
byte_at_tells d e true old from x y a b was new = low_byte_tells d e old from x y a b was new
byte_at_tells d e false old from x y a b was new = high_byte_tells d e old from x y a b was new

-- a word with its byte replaced, or a word
pub put_tells : (d e : Data) (size : Size) (physical : ℕ) (old from : Halves) (x y a b : ℕ) → HalvesTell d e old x y → HalvesTell d e from a b
    → HalvesTell d e (halves_put size physical old from) (elim size as (λ _. ℕ) [ Word ↦ a | Byte ↦ word_with_byte x physical a ]) (elim size as (λ _. ℕ) [ Word ↦ b | Byte ↦ word_with_byte y physical b ])
put_tells d e Word physical old from x y a b was new = new
put_tells d e Byte physical old from x y a b was new = byte_at_tells d e (physical % 2 == 0) old from x y a b was new

-- A byte on its way to the printer or the punch
byte_if : (byte : ℕ) (busy : Bool) (x y : Transmitter) → x.byte ≡ byte → y.byte ≡ byte → (if busy then x else y).byte ≡ byte
byte_if byte true x y one other = one
byte_if byte false x y one other = other

byte_after : (byte turn delay : ℕ) (o : Transmitter) → (byte_written byte turn delay o).byte ≡ byte
byte_after byte turn delay o = byte_if byte (is_under_way o.operation) _ _ refl refl

bytes_after : (a b turn delay : ℕ) (o p : Transmitter) → a ≡ b → (byte_written a turn delay o).byte ≡ (byte_written b turn delay p).byte
bytes_after a b turn delay o p same = byte_after a turn delay o ∙ same ∙ sym (byte_after b turn delay p)

abbrev page_of : Kt → BusWorld → IoPage
page_of mapping b = record b.io_page { mapping = mapping }

module _ (d : Data) (log : KeptCycles) (b : BusWorld) (others : Data) where
  -- the data of this bus
  abbrev pub here : Data
  here = record others { bus = data_on b }

  abbrev pub other_bus : BusWorld
  other_bus = bus_with d.bus log b

  module _ (turn : ℕ) (mapping : Kt) (physical : ℕ) where
    -- a word is written to a register
    module _ (w : Halves) (one other : ℕ) (new : HalvesTell d here w other one) where
      abbrev WordTells : Register → Type 0
      WordTells r = BusTells d here (device_changed Word physical r w)
          (data_on (record other_bus { io_page = after_write r other turn (page_of mapping other_bus) }))
          (data_on (record b { io_page = after_write r one turn (page_of mapping b) }))

      printed : (buffer : DeviceBuffer) → EachSame d here (device_changed Word physical (register.Console PrinterBuffer) w (Buffer buffer))
          → held_in buffer (data_on (record other_bus { io_page = after_write (register.Console PrinterBuffer) other turn (page_of mapping other_bus) }))
          ≡ held_in buffer (data_on (record b { io_page = after_write (register.Console PrinterBuffer) one turn (page_of mapping b) }))
      unfolding after_write
      printed Printer all = bytes_after (other % 256) (one % 256) turn b.io_page.delays.printer (page_of mapping other_bus).console.printer b.io_page.console.printer (new Low all)
      printed Keyboard all = all.0
      printed Reader all = all.0
      printed Punch all = all.0
      printed Switches all = all.0

      punched : (buffer : DeviceBuffer) → EachSame d here (device_changed Word physical (register.PaperTape PunchBuffer) w (Buffer buffer))
          → held_in buffer (data_on (record other_bus { io_page = after_write (register.PaperTape PunchBuffer) other turn (page_of mapping other_bus) }))
          ≡ held_in buffer (data_on (record b { io_page = after_write (register.PaperTape PunchBuffer) one turn (page_of mapping b) }))
      unfolding after_write
      punched Punch all = bytes_after (other % 256) (one % 256) turn b.io_page.delays.punch (page_of mapping other_bus).paper_tape.punch b.io_page.paper_tape.punch (new Low all)
      punched Keyboard all = all.0
      punched Reader all = all.0
      punched Printer all = all.0
      punched Switches all = all.0

      abbrev byte_left : ℕ → ℕ → ℕ
      byte_left word byte = (reader_status_written word turn b.io_page.delays.reader (record b.io_page.paper_tape.reader { byte = byte })).byte

      begun : (buffer : DeviceBuffer) → EachSame d here (device_changed Word physical (register.PaperTape ReaderStatus) w (Buffer buffer))
          → held_in buffer (data_on (record other_bus { io_page = after_write (register.PaperTape ReaderStatus) other turn (page_of mapping other_bus) }))
          ≡ held_in buffer (data_on (record b { io_page = after_write (register.PaperTape ReaderStatus) one turn (page_of mapping b) }))
      unfolding after_write
      begun Reader all = ap₂ byte_left (whole_tells d here w other one new all.1) all.0
      begun Keyboard all = all.0
      begun Punch all = all.0
      begun Printer all = all.0
      begun Switches all = all.0

      coded : (buffer : DeviceBuffer) → EachSame d here (Buffer buffer ∷ [])
          → held_in buffer (data_on (record other_bus { io_page = after_write register.ProgramStatus other turn (page_of mapping other_bus) }))
          ≡ held_in buffer (data_on (record b { io_page = after_write register.ProgramStatus one turn (page_of mapping b) }))
      unfolding after_write
      coded Reader all = all.0
      coded Keyboard all = all.0
      coded Punch all = all.0
      coded Printer all = all.0
      coded Switches all = all.0

      pub word_tells : (r : Register) → WordTells r
      unfolding after_write status_written status_of_word
      word_tells (register.Console PrinterBuffer) = record { core = λ k half all. all.0; drives = λ n k half all. all.0; tape = λ k all. all.0; codes = λ code all. all.0; buffers = printed }
      word_tells (register.PaperTape PunchBuffer) = record { core = λ k half all. all.0; drives = λ n k half all. all.0; tape = λ k all. all.0; codes = λ code all. all.0; buffers = punched }
      word_tells (register.PaperTape ReaderStatus) = record { core = λ k half all. all.0; drives = λ n k half all. all.0; tape = λ k all. all.0; codes = λ code all. all.0; buffers = begun }
      word_tells register.ProgramStatus = record { core = λ k half all. all.0; drives = λ n k half all. all.0; tape = λ k all. all.0; codes = λ code all. codes_tell code other one (new Low all); buffers = coded }
      word_tells (register.Console KeyboardStatus) = record { core = λ k half all. all.0; drives = λ n k half all. all.0; tape = λ k all. all.0; codes = λ code all. all.0; buffers = λ buffer all. all.0 }
      word_tells (register.Console KeyboardBuffer) = record { core = λ k half all. all.0; drives = λ n k half all. all.0; tape = λ k all. all.0; codes = λ code all. all.0; buffers = λ buffer all. all.0 }
      word_tells (register.Console PrinterStatus) = record { core = λ k half all. all.0; drives = λ n k half all. all.0; tape = λ k all. all.0; codes = λ code all. all.0; buffers = λ buffer all. all.0 }
      word_tells register.Clock = record { core = λ k half all. all.0; drives = λ n k half all. all.0; tape = λ k all. all.0; codes = λ code all. all.0; buffers = λ buffer all. all.0 }
      word_tells (register.PaperTape ReaderBuffer) = record { core = λ k half all. all.0; drives = λ n k half all. all.0; tape = λ k all. all.0; codes = λ code all. all.0; buffers = λ buffer all. all.0 }
      word_tells (register.PaperTape PunchStatus) = record { core = λ k half all. all.0; drives = λ n k half all. all.0; tape = λ k all. all.0; codes = λ code all. all.0; buffers = λ buffer all. all.0 }
      word_tells (register.Disk k) = record { core = λ k half all. all.0; drives = λ n k half all. all.0; tape = λ k all. all.0; codes = λ code all. all.0; buffers = λ buffer all. all.0 }
      word_tells register.Switches = record { core = λ k half all. all.0; drives = λ n k half all. all.0; tape = λ k all. all.0; codes = λ code all. all.0; buffers = λ buffer all. all.0 }
      word_tells (register.Mapping k) = record { core = λ k half all. all.0; drives = λ n k half all. all.0; tape = λ k all. all.0; codes = λ code all. all.0; buffers = λ buffer all. all.0 }

    abbrev pub page_kept : BusTells d here (λ c. c ∷ []) (data_on (record other_bus { io_page = page_of mapping other_bus })) (data_on (record b { io_page = page_of mapping b }))
    page_kept = record { core = λ k half all. all.0; drives = λ n k half all. all.0; tape = λ k all. all.0; codes = λ code all. all.0; buffers = λ buffer all. all.0 }

    -- a byte is written to a register
    module _ (from : Halves) (one other : ℕ) (new : HalvesTell d here from other one) where
      abbrev byte_halves : Register → Halves
      byte_halves r = halves_put Byte physical (halves_of_device r) from

      abbrev byte_here : Register → ℕ
      byte_here r = word_with_byte (value_in r (length b.drives) (page_of mapping b)) physical one

      abbrev byte_there : Register → ℕ
      byte_there r = word_with_byte (value_in r (length b.drives) (page_of mapping other_bus)) physical other

      byte_word : (r : Register) → HalvesTell d here (byte_halves r) (byte_there r) (byte_here r)
      byte_word r = byte_at_tells d here (physical % 2 == 0) (halves_of_device r) from
          (value_in r (length b.drives) (page_of mapping other_bus)) (value_in r (length b.drives) (page_of mapping b)) other one
          (device_tells d here r (length b.drives) (page_of mapping b)) new

      abbrev ByteTells : Register → Type 0
      ByteTells r = BusTells d here (device_changed Byte physical r from)
          (data_on (record other_bus { io_page = after_byte r (length b.drives) physical other turn (page_of mapping other_bus) }))
          (data_on (record b { io_page = after_byte r (length b.drives) physical one turn (page_of mapping b) }))

      -- the printer and the punch take the byte of an even address alone
      by_even : (even : Bool) (made : DataCell → List DataCell) (there here_then kept_there kept : IoPage)
          → (even ≡ true → BusTells d here made (data_on (record other_bus { io_page = there })) (data_on (record b { io_page = here_then })))
          → (even ≡ false → BusTells d here made (data_on (record other_bus { io_page = kept_there })) (data_on (record b { io_page = kept })))
          → BusTells d here made (data_on (record other_bus { io_page = if even then there else kept_there })) (data_on (record b { io_page = if even then here_then else kept }))
      by_even true made there here_then kept_there kept put left = put refl
      by_even false made there here_then kept_there kept put left = left refl

      low_if : (even : Bool) (buffer : DataCell) → even ≡ true → EachSame d here (if even then from Low else buffer ∷ [])
          → (if even then 0 - 0 % 256 + other else other * 256 + 0 % 256) % 256 ≡ (if even then 0 - 0 % 256 + one else one * 256 + 0 % 256) % 256
      low_if true buffer is all = low_byte_tells d here (of_each []) from 0 0 other one (λ half all. refl) new Low all
      low_if false buffer is all = absurd (true≢false (sym is))

      kept_if : (even : Bool) (buffer : DataCell) → even ≡ false → EachSame d here (if even then from Low else buffer ∷ []) → EachSame d here (buffer ∷ [])
      kept_if true buffer is all = absurd (true≢false is)
      kept_if false buffer is all = all

      printer_buffers : physical % 2 == 0 ≡ true → (buffer : DeviceBuffer) → EachSame d here (device_changed Byte physical (register.Console PrinterBuffer) from (Buffer buffer))
          → held_in buffer (data_on (record other_bus { io_page = after_write (register.Console PrinterBuffer) (byte_there (register.Console PrinterBuffer)) turn (page_of mapping other_bus) }))
          ≡ held_in buffer (data_on (record b { io_page = after_write (register.Console PrinterBuffer) (byte_here (register.Console PrinterBuffer)) turn (page_of mapping b) }))
      unfolding after_write value_in
      printer_buffers is Printer all = bytes_after _ _ turn b.io_page.delays.printer (page_of mapping other_bus).console.printer b.io_page.console.printer (low_if (physical % 2 == 0) (Buffer Printer) is all)
      printer_buffers is Keyboard all = all.0
      printer_buffers is Reader all = all.0
      printer_buffers is Punch all = all.0
      printer_buffers is Switches all = all.0

      printer_kept : physical % 2 == 0 ≡ false → (buffer : DeviceBuffer) → EachSame d here (device_changed Byte physical (register.Console PrinterBuffer) from (Buffer buffer)) → held_in buffer d.bus ≡ held_in buffer (data_on b)
      printer_kept is Printer all = (kept_if (physical % 2 == 0) (Buffer Printer) is all).0
      printer_kept is Keyboard all = all.0
      printer_kept is Reader all = all.0
      printer_kept is Punch all = all.0
      printer_kept is Switches all = all.0

      printer_codes : (code : ConditionCode) → EachSame d here (CodeNow code ∷ [])
          → flag_in code (after_write (register.Console PrinterBuffer) (byte_there (register.Console PrinterBuffer)) turn (page_of mapping other_bus)).status.codes
          ≡ flag_in code (after_write (register.Console PrinterBuffer) (byte_here (register.Console PrinterBuffer)) turn (page_of mapping b)).status.codes
      unfolding after_write
      printer_codes code all = all.0

      printer_tells : ByteTells (register.Console PrinterBuffer)
      unfolding after_byte
      printer_tells = by_even (physical % 2 == 0) (device_changed Byte physical (register.Console PrinterBuffer) from) _ _ _ _
          (λ is. record { core = λ k half all. all.0; drives = λ n k half all. all.0; tape = λ k all. all.0; codes = printer_codes; buffers = printer_buffers is })
          (λ is. record { core = λ k half all. all.0; drives = λ n k half all. all.0; tape = λ k all. all.0; codes = λ code all. all.0; buffers = printer_kept is })

      punch_buffers : physical % 2 == 0 ≡ true → (buffer : DeviceBuffer) → EachSame d here (device_changed Byte physical (register.PaperTape PunchBuffer) from (Buffer buffer))
          → held_in buffer (data_on (record other_bus { io_page = after_write (register.PaperTape PunchBuffer) (byte_there (register.PaperTape PunchBuffer)) turn (page_of mapping other_bus) }))
          ≡ held_in buffer (data_on (record b { io_page = after_write (register.PaperTape PunchBuffer) (byte_here (register.PaperTape PunchBuffer)) turn (page_of mapping b) }))
      unfolding after_write value_in
      punch_buffers is Punch all = bytes_after _ _ turn b.io_page.delays.punch (page_of mapping other_bus).paper_tape.punch b.io_page.paper_tape.punch (low_if (physical % 2 == 0) (Buffer Punch) is all)
      punch_buffers is Keyboard all = all.0
      punch_buffers is Reader all = all.0
      punch_buffers is Printer all = all.0
      punch_buffers is Switches all = all.0

      punch_kept : physical % 2 == 0 ≡ false → (buffer : DeviceBuffer) → EachSame d here (device_changed Byte physical (register.PaperTape PunchBuffer) from (Buffer buffer)) → held_in buffer d.bus ≡ held_in buffer (data_on b)
      punch_kept is Punch all = (kept_if (physical % 2 == 0) (Buffer Punch) is all).0
      punch_kept is Keyboard all = all.0
      punch_kept is Reader all = all.0
      punch_kept is Printer all = all.0
      punch_kept is Switches all = all.0

      punch_codes : (code : ConditionCode) → EachSame d here (CodeNow code ∷ [])
          → flag_in code (after_write (register.PaperTape PunchBuffer) (byte_there (register.PaperTape PunchBuffer)) turn (page_of mapping other_bus)).status.codes
          ≡ flag_in code (after_write (register.PaperTape PunchBuffer) (byte_here (register.PaperTape PunchBuffer)) turn (page_of mapping b)).status.codes
      unfolding after_write
      punch_codes code all = all.0

      punch_tells : ByteTells (register.PaperTape PunchBuffer)
      unfolding after_byte
      punch_tells = by_even (physical % 2 == 0) (device_changed Byte physical (register.PaperTape PunchBuffer) from) _ _ _ _
          (λ is. record { core = λ k half all. all.0; drives = λ n k half all. all.0; tape = λ k all. all.0; codes = punch_codes; buffers = punch_buffers is })
          (λ is. record { core = λ k half all. all.0; drives = λ n k half all. all.0; tape = λ k all. all.0; codes = λ code all. all.0; buffers = punch_kept is })

      pub byte_tells : (r : Register) → ByteTells r
      unfolding after_byte
      byte_tells (register.Console PrinterBuffer) = printer_tells
      byte_tells (register.PaperTape PunchBuffer) = punch_tells
      byte_tells (register.PaperTape ReaderStatus) = word_tells (byte_halves (register.PaperTape ReaderStatus)) (byte_here (register.PaperTape ReaderStatus)) (byte_there (register.PaperTape ReaderStatus)) (byte_word (register.PaperTape ReaderStatus)) (register.PaperTape ReaderStatus)
      byte_tells register.ProgramStatus = word_tells (byte_halves register.ProgramStatus) (byte_here register.ProgramStatus) (byte_there register.ProgramStatus) (byte_word register.ProgramStatus) register.ProgramStatus
      byte_tells (register.Console KeyboardStatus) = word_tells (byte_halves (register.Console KeyboardStatus)) _ _ (byte_word (register.Console KeyboardStatus)) (register.Console KeyboardStatus)
      byte_tells (register.Console KeyboardBuffer) = word_tells (byte_halves (register.Console KeyboardBuffer)) _ _ (byte_word (register.Console KeyboardBuffer)) (register.Console KeyboardBuffer)
      byte_tells (register.Console PrinterStatus) = word_tells (byte_halves (register.Console PrinterStatus)) _ _ (byte_word (register.Console PrinterStatus)) (register.Console PrinterStatus)
      byte_tells register.Clock = word_tells (byte_halves register.Clock) _ _ (byte_word register.Clock) register.Clock
      byte_tells (register.PaperTape ReaderBuffer) = word_tells (byte_halves (register.PaperTape ReaderBuffer)) _ _ (byte_word (register.PaperTape ReaderBuffer)) (register.PaperTape ReaderBuffer)
      byte_tells (register.PaperTape PunchStatus) = word_tells (byte_halves (register.PaperTape PunchStatus)) _ _ (byte_word (register.PaperTape PunchStatus)) (register.PaperTape PunchStatus)
      byte_tells (register.Disk k) = word_tells (byte_halves (register.Disk k)) _ _ (byte_word (register.Disk k)) (register.Disk k)
      byte_tells register.Switches = word_tells (byte_halves register.Switches) _ _ (byte_word register.Switches) register.Switches
      byte_tells (register.Mapping k) = word_tells (byte_halves (register.Mapping k)) _ _ (byte_word (register.Mapping k)) (register.Mapping k)

  -- What two replies to a write tell: both wrote, at this address, or both failed and changed no data.
  pub record WroteBoth (made : DataCell → List DataCell) (at other : ℕ) (there after : BusWorld) : Type 0 where
    pub same_place : other ≡ at
    pub tells : BusTells d here made (data_on there) (data_on after)

  pub record FailedBoth (there after : BusWorld) : Type 0 where
    pub there_kept : data_on there ≡ d.bus
    pub here_kept : data_on after ≡ data_on b

  abbrev pub RepliesTell : (DataCell → List DataCell) → Result ℕ Trap → Result ℕ Trap → BusWorld → BusWorld → Type 0
  RepliesTell made (Ok other) (Ok at) there after = WroteBoth made at other there after
  RepliesTell made (Ok other) (Err trap) there after = Unit {0}
  RepliesTell made (Err trap) (Ok at) there after = Unit {0}
  RepliesTell made (Err trap) (Err left) there after = FailedBoth there after

  module _ (core_size : length d.bus.core ≡ length b.core) (drives_count : length d.bus.drives ≡ length b.drives) (from : Halves) (one other : ℕ) (new : HalvesTell d here from other one) where
    -- a word of core
    core_tells : (size : Size) (physical k n : ℕ) (half : Half)
        → EachSame d here (if n == k then halves_put size physical (λ at. CoreByte k at ∷ []) from half else CoreByte n half ∷ [])
        → byte_in half (slice_index (slice_set d.bus.core k (elim size as (λ _. ℕ) [ Word ↦ other | Byte ↦ word_with_byte (slice_index d.bus.core k) physical other ])) n)
        ≡ byte_in half (slice_index (slice_set b.core k (elim size as (λ _. ℕ) [ Word ↦ one | Byte ↦ word_with_byte (slice_index b.core k) physical one ])) n)
    core_tells size physical k n half all =
        set_tells d here half (halves_put size physical (λ at. CoreByte k at ∷ []) from half) (CoreByte n half ∷ []) b.core d.bus.core k n _ _ (n == k) refl core_size
        (put_tells d here size physical (λ at. CoreByte k at ∷ []) from (slice_index d.bus.core k) (slice_index b.core k) other one (λ at same. same.0) new half)
        (λ same. same.0) all

    buffers_kept : (there at : List ℕ) (buffer : DeviceBuffer) → EachSame d here (Buffer buffer ∷ [])
        → held_in buffer (record d.bus { core = there }) ≡ held_in buffer (record (data_on b) { core = at })
    buffers_kept there at Keyboard all = all.0
    buffers_kept there at Printer all = all.0
    buffers_kept there at Reader all = all.0
    buffers_kept there at Punch all = all.0
    buffers_kept there at Switches all = all.0

    by_slave : (size : Size) (physical turn : ℕ) (mapping : Kt) (slave : Slave)
        → RepliesTell (slave_changed size physical slave from)
        (reply_by (shape_at (put_kind size other) physical turn (length b.drives) (page_of mapping other_bus) slave) other_bus).value
        (reply_by (shape_at (put_kind size one) physical turn (length b.drives) (page_of mapping b) slave) b).value
        (reply_by (shape_at (put_kind size other) physical turn (length b.drives) (page_of mapping other_bus) slave) other_bus).after
        (reply_by (shape_at (put_kind size one) physical turn (length b.drives) (page_of mapping b) slave) b).after
    by_slave Word physical turn mapping (Core k) = record {
      same_place = refl;
      tells = record { core = core_tells Word physical k; drives = λ n k half all. all.0; tape = λ k all. all.0; codes = λ code all. all.0; buffers = buffers_kept _ _ };
    }
    by_slave Byte physical turn mapping (Core k) = record {
      same_place = refl;
      tells = record { core = core_tells Byte physical k; drives = λ n k half all. all.0; tape = λ k all. all.0; codes = λ code all. all.0; buffers = buffers_kept _ _ };
    }
    by_slave Word physical turn mapping (Device r) = record { same_place = refl; tells = word_tells turn mapping physical from one other new r }
    by_slave Byte physical turn mapping (Device r) = record { same_place = refl; tells = byte_tells turn mapping physical from one other new r }
    by_slave Word physical turn mapping Nobody = record { there_kept = refl; here_kept = refl }
    by_slave Byte physical turn mapping Nobody = record { there_kept = refl; here_kept = refl }

    by_place : (size : Size) (turn : ℕ) (mapping : Kt) (place : Result ℕ Abort)
        → RepliesTell (changed_if_placed size b place from)
        (reply_by (shape_by (put_kind size other) (length b.core) turn (length b.drives) (page_of mapping other_bus) place) other_bus).value
        (reply_by (shape_by (put_kind size one) (length b.core) turn (length b.drives) (page_of mapping b) place) b).value
        (reply_by (shape_by (put_kind size other) (length b.core) turn (length b.drives) (page_of mapping other_bus) place) other_bus).after
        (reply_by (shape_by (put_kind size one) (length b.core) turn (length b.drives) (page_of mapping b) place) b).after
    by_place size turn mapping (Ok physical) = by_slave size physical turn mapping (slave_at (length b.core) physical)
    by_place size turn mapping (Err abort) = record { there_kept = refl; here_kept = refl }

    module _ (mode : Mode) (address : ℕ) where
      abbrev pub put_there : Size → Reference
      put_there size = reference_to mode (put_kind size other) address

      abbrev pub put_here : Size → Reference
      put_here size = reference_to mode (put_kind size one) address

      by_odd : (size : Size) (odd : Bool)
          → RepliesTell (changed_if_placed size b (place_of_write mode address b) from)
          (reply_by (shape_if odd (put_there size) other_bus) other_bus).value (reply_by (shape_if odd (put_here size) b) b).value
          (reply_by (shape_if odd (put_there size) other_bus) other_bus).after (reply_by (shape_if odd (put_here size) b) b).after
      by_odd Word true = record { there_kept = refl; here_kept = refl }
      by_odd Byte true = record { there_kept = refl; here_kept = refl }
      by_odd Word false = rw (core_size, drives_count) (by_place Word b.turn (translation (put_here Word) b).after (translation (put_here Word) b).address)
      by_odd Byte false = rw (core_size, drives_count) (by_place Byte b.turn (translation (put_here Byte) b).after (translation (put_here Byte) b).address)

      by_shape : (size : Size)
          → RepliesTell (changed_if_placed size b (place_of_write mode address b) from)
          (reply_by (shape_of (put_there size) other_bus) other_bus).value (reply_by (shape_of (put_here size) b) b).value
          (reply_by (shape_of (put_there size) other_bus) other_bus).after (reply_by (shape_of (put_here size) b) b).after
      unfolding shape_of
      by_shape Word = by_odd Word (is_odd (WriteWord one) address)
      by_shape Byte = by_odd Byte (is_odd (WriteByte one) address)

      pub write_tells : (size : Size)
          → RepliesTell (changed_if_placed size b (place_of_write mode address b) from)
          (perform (put_there size) other_bus).value (perform (put_here size) b).value (perform (put_there size) other_bus).after (perform (put_here size) b).after
      write_tells size = rw (perform_is (put_there size) other_bus, perform_is (put_here size) b) (by_shape size)
