-- The paper tape: PDP-11 Peripherals Handbook, PC11 (what a write of the reader's buffer does, and
-- what stays, are [P]).
use Rattle.std.specs.Prelude.{ℕ, ◌==◌, false, Option, Some, None, if◌then◌else◌}
use Rattle.pdp_device.specs.Transmitter.{byte_out, transmitter_completed, transmitter_read}
use Rattle.pdp_device.specs.Transmitter.{transmitter_reset, transmitter_served, transmitter_value}
use Rattle.pdp_device.specs.Transmitter.{transmitter_written, init_transmitter}
use Rattle.pdp_device.specs.declared.transmitter.TransmitterRegister.TheVariants.{Status, Buffer}
use Rattle.pdp_tape.specs.Reader.{buffer_read, init_reader, reader_completed, reader_reset}
use Rattle.pdp_tape.specs.Reader.{reader_status, reader_status_written}
use Rattle.pdp_tape.specs.declared.pc11.Pc11.{Pc11}
use Rattle.pdp_tape.specs.declared.pc11.Pc11Register.{Pc11Register}
use Rattle.pdp_tape.specs.declared.pc11.Pc11Register.TheVariants.{ReaderStatus, ReaderBuffer}
use Rattle.pdp_tape.specs.declared.pc11.Pc11Register.TheVariants.{PunchStatus, PunchBuffer}

-- the registers by the bytes from the first one
abbrev pub pc11_register_at : ℕ → Option Pc11Register
pc11_register_at offset = (
    if offset == 0 then Some ReaderStatus else
    if offset == 2 then Some ReaderBuffer else
    if offset == 4 then Some PunchStatus else
    if offset == 6 then Some PunchBuffer else None)

-- at power-up
abbrev pub init_pc11 : Pc11
init_pc11 = record { reader = init_reader; punch = init_transmitter }

-- what a read gives [6.42] [6.43]
abbrev pub pc11_value : Pc11Register → Pc11 → ℕ
pc11_value ReaderStatus p = reader_status p.reader
pc11_value ReaderBuffer p = p.reader.byte
pc11_value PunchStatus p = transmitter_value Status p.punch
pc11_value PunchBuffer p = transmitter_value Buffer p.punch

-- what a read does: one of the reader's buffer clears done [6.43]
abbrev pub pc11_read : Pc11Register → Pc11 → Pc11
pc11_read ReaderStatus p = p
pc11_read ReaderBuffer p = record p { reader = buffer_read p.reader }
pc11_read PunchStatus p = record p { punch = transmitter_read Status p.punch }
pc11_read PunchBuffer p = record p { punch = transmitter_read Buffer p.punch }

-- what a write of a word does in a turn, with the delays of the reader and of the punch [6.42]
-- [6.43]
abbrev pub pc11_written : Pc11Register → ℕ → ℕ → ℕ → ℕ → Pc11 → Pc11
pc11_written ReaderStatus word turn reader_delay punch_delay p =
    record p { reader = reader_status_written word turn reader_delay p.reader }
pc11_written ReaderBuffer word turn reader_delay punch_delay p = p
pc11_written PunchStatus word turn reader_delay punch_delay p =
    record p { punch = transmitter_written Status word turn punch_delay p.punch }
pc11_written PunchBuffer word turn reader_delay punch_delay p =
    record p { punch = transmitter_written Buffer word turn punch_delay p.punch }

-- a completion of the reader, with the next byte of the tape if there is one
abbrev pub pc11_reader_completed : Option ℕ → Pc11 → Pc11
pc11_reader_completed next p = record p { reader = reader_completed next p.reader }

-- the byte that a completion of the punch punches
abbrev pub pc11_punched : Pc11 → Option ℕ
pc11_punched p = byte_out p.punch

-- a completion of the punch
abbrev pub pc11_punch_completed : Pc11 → Pc11
pc11_punch_completed p = record p { punch = transmitter_completed p.punch }

-- the reader's request is served: it goes, and the condition stays
abbrev pub reader_served : Pc11 → Pc11
reader_served p = record p { reader = record p.reader { request = false } }

-- the punch's request is served
abbrev pub punch_served : Pc11 → Pc11
punch_served p = record p { punch = transmitter_served p.punch }

-- RESET: the buffers stay [6.108]
abbrev pub pc11_reset : Pc11 → Pc11
pc11_reset p = record { reader = reader_reset p.reader; punch = transmitter_reset p.punch }
