-- The console terminal: PDP-11 Peripherals Handbook, KL11 (when requests appear and go, and what a
-- write of the keyboard's buffer does, are [P]).
use Rattle.std.specs.Prelude.{ℕ, ◌==◌, Option, Some, None, if◌then◌else◌}
use Rattle.pdp_device.specs.ReadyEnable.{ready_enable_served, ready_enable_status, enable_written}
use Rattle.pdp_device.specs.Transmitter.{byte_out, transmitter_completed, transmitter_read}
use Rattle.pdp_device.specs.Transmitter.{transmitter_reset, transmitter_served, transmitter_value}
use Rattle.pdp_device.specs.Transmitter.{transmitter_written, init_transmitter}
use Rattle.pdp_device.specs.declared.transmitter.TransmitterRegister.TheVariants.{Status, Buffer}
use Rattle.pdp_console.specs.Keyboard.{key_struck, key_taken, keyboard_reset, init_keyboard}
use Rattle.pdp_console.specs.declared.kl.Kl.{Kl}
use Rattle.pdp_console.specs.declared.kl.KlRegister.{KlRegister}
use Rattle.pdp_console.specs.declared.kl.KlRegister.TheVariants.{KeyboardStatus, KeyboardBuffer}
use Rattle.pdp_console.specs.declared.kl.KlRegister.TheVariants.{PrinterStatus, PrinterBuffer}

-- the registers by the bytes from the first one
abbrev pub kl_register_at : ℕ → Option KlRegister
kl_register_at offset = (
    if offset == 0 then Some KeyboardStatus else
    if offset == 2 then Some KeyboardBuffer else
    if offset == 4 then Some PrinterStatus else
    if offset == 6 then Some PrinterBuffer else None)

-- at power-up
abbrev pub init_kl : Kl
init_kl = record { keyboard = init_keyboard; printer = init_transmitter }

-- a key sets done, and replaces the byte
abbrev pub kl_struck : Kl → ℕ → Kl
kl_struck k key = record k { keyboard = key_struck key k.keyboard }

-- what a read gives [6.44] [6.45]
abbrev pub kl_value : KlRegister → Kl → ℕ
kl_value KeyboardStatus k = ready_enable_status k.keyboard.ready_enable
kl_value KeyboardBuffer k = k.keyboard.key
kl_value PrinterStatus k = transmitter_value Status k.printer
kl_value PrinterBuffer k = transmitter_value Buffer k.printer

-- what a read does: one of the keyboard's buffer takes the key [6.45]
abbrev pub kl_read : KlRegister → Kl → Kl
kl_read KeyboardStatus k = k
kl_read KeyboardBuffer k = record k { keyboard = key_taken k.keyboard }
kl_read PrinterStatus k = record k { printer = transmitter_read Status k.printer }
kl_read PrinterBuffer k = record k { printer = transmitter_read Buffer k.printer }

-- what a write of a word does in a turn, with the printer's delay [6.44] [6.45]
abbrev pub kl_written : KlRegister → ℕ → ℕ → ℕ → Kl → Kl
kl_written KeyboardStatus word turn delay k =
    record k {
      keyboard = record k.keyboard {
        ready_enable = enable_written word
            k.keyboard.ready_enable;
      };
    }
kl_written KeyboardBuffer word turn delay k = k
kl_written PrinterStatus word turn delay k = record k {
  printer = transmitter_written Status word
      turn delay k.printer;
}
kl_written PrinterBuffer word turn delay k = record k {
  printer = transmitter_written Buffer word
      turn delay k.printer;
}

-- the byte that a completion of the printer prints
abbrev pub kl_printed : Kl → Option ℕ
kl_printed k = byte_out k.printer

-- a completion of the printer
abbrev pub kl_completed : Kl → Kl
kl_completed k = record k { printer = transmitter_completed k.printer }

-- the keyboard's request is served: it goes, and the condition stays
abbrev pub keyboard_served : Kl → Kl
keyboard_served k = record k {
  keyboard = record k.keyboard {
    ready_enable = ready_enable_served
        k.keyboard.ready_enable;
  };
}

-- the printer's request is served
abbrev pub printer_served : Kl → Kl
printer_served k = record k { printer = transmitter_served k.printer }

-- RESET: the buffers stay [6.108]
abbrev pub kl_reset : Kl → Kl
kl_reset k = record { keyboard = keyboard_reset k.keyboard; printer = transmitter_reset k.printer }
