-- The bits of LKS: PDP-11 Peripherals Handbook, KW11-L.
use Rattle.std.specs.Prelude.{ℕ}

-- bit 7: the clock has ticked, or was initialised, since this was last cleared
abbrev pub lks_monitor : ℕ
lks_monitor = 0o200

-- bit 6: ticks request an interrupt
abbrev pub lks_enable : ℕ
lks_enable = 0o100
