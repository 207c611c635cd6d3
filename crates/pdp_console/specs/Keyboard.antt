-- The keyboard: PDP-11 Peripherals Handbook, KL11 (what stays, and keys while done is set, are
-- [P]).
use Rattle.std.specs.Prelude.{ℕ, true, false}
use Rattle.pdp_device.specs.ReadyEnable.{init_ready_enable, with_ready}
use Rattle.pdp_console.specs.declared.keyboard.Keyboard.{Keyboard}

-- at power-up [7.7]
abbrev pub init_keyboard : Keyboard
init_keyboard = record { ready_enable = init_ready_enable false; key = 0 }

-- a key sets done, and replaces the last [6.54]
abbrev pub key_struck : ℕ → Keyboard → Keyboard
key_struck key k = record { ready_enable = with_ready true k.ready_enable; key = key }

-- a read of the key clears done [6.45]
abbrev pub key_taken : Keyboard → Keyboard
key_taken k = record k { ready_enable = with_ready false k.ready_enable }

-- RESET: status and request are cleared, and the key stays [6.102] [6.108]
abbrev pub keyboard_reset : Keyboard → Keyboard
keyboard_reset k = record k { ready_enable = init_ready_enable false }
