-- The printer and the punch: PDP-11 Peripherals Handbook, KL11 and PC11 (bytes written while one is
-- on its way, and when a byte is out, are [P]).
use Rattle.std.specs.Prelude.{ℕ, true, false, Option, Some, None, if◌then◌else◌}
use Rattle.pdp_word.specs.Word.{low_byte}
use Rattle.pdp_device.specs.ReadyEnable.{ready_enable_served, ready_enable_status, enable_written}
use Rattle.pdp_device.specs.ReadyEnable.{init_ready_enable, with_ready}
use Rattle.pdp_device.specs.Operation.{begun_operation, is_under_way}
use Rattle.pdp_device.specs.declared.operation.Operation.TheVariants.{Idle}
use Rattle.pdp_device.specs.declared.transmitter.Transmitter.{Transmitter}
use Rattle.pdp_device.specs.declared.transmitter.TransmitterRegister.{TransmitterRegister}
use Rattle.pdp_device.specs.declared.transmitter.TransmitterRegister.TheVariants.{Status, Buffer}

-- a byte written while one is on its way replaces it and keeps its due turn; else it clears ready
-- and begins [6.59] [6.60]
abbrev pub byte_written : ℕ → ℕ → ℕ → Transmitter → Transmitter
byte_written byte turn delay o =
    if is_under_way o.operation then record o { byte = byte }
    else record {
      ready_enable = with_ready false o.ready_enable;
      byte = byte;
      operation =
          begun_operation turn delay;
    }

-- the byte that a completion puts out
abbrev pub byte_out : Transmitter → Option ℕ
byte_out o = if is_under_way o.operation then Some o.byte else None

-- a completion sets ready; if nothing is under way it does nothing [6.58] [6.59] [6.60]
abbrev pub transmitter_completed : Transmitter → Transmitter
transmitter_completed o =
    if is_under_way o.operation then record o {
      ready_enable = with_ready true o.ready_enable;
      operation = Idle;
    } else o

-- RESET: what was under way is dropped, and the byte stays [6.103] [6.105] [6.108]
abbrev pub transmitter_reset : Transmitter → Transmitter
transmitter_reset o = record o { ready_enable = init_ready_enable true; operation = Idle }

-- at power-up
abbrev pub init_transmitter : Transmitter
init_transmitter = record { ready_enable = init_ready_enable true; byte = 0; operation = Idle }

-- the request is served
abbrev pub transmitter_served : Transmitter → Transmitter
transmitter_served o = record o { ready_enable = ready_enable_served o.ready_enable }

-- what a read gives; the buffer reads 0 [6.46] [6.47]
abbrev pub transmitter_value : TransmitterRegister → Transmitter → ℕ
transmitter_value Status o = ready_enable_status o.ready_enable
transmitter_value Buffer o = 0

-- what a read does: nothing
abbrev pub transmitter_read : TransmitterRegister → Transmitter → Transmitter
transmitter_read register o = o

-- what a write of a word does in a turn, with the delay of a byte [6.46] [6.47]
abbrev pub transmitter_written : TransmitterRegister → ℕ → ℕ → ℕ → Transmitter → Transmitter
transmitter_written Status word turn delay o = record o {
  ready_enable = enable_written word
      o.ready_enable;
}
transmitter_written Buffer word turn delay o = byte_written (low_byte word) turn delay o
