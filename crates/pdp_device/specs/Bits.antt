-- The bits of a status register, of any device: PDP-11 Peripherals Handbook, KL11, PC11 and RK11.
use Rattle.std.specs.Prelude.{ℕ}

-- bit 7: the device is ready, or done
abbrev pub status_ready : ℕ
status_ready = 0o200

-- bit 6: its interrupts are enabled
abbrev pub status_enable : ℕ
status_enable = 0o100
