-- The line clock: PDP-11 Peripherals Handbook, KW11-L (when its request appears and goes is [P]).
use Rattle.std.specs.Prelude.{ℕ, ◌+◌, ◌*◌, true, false, ◌&&◌, ◌||◌}
use Rattle.pdp_word.specs.Bits.{bit_of}
use Rattle.pdp_word.specs.Mask.{is_set}
use Rattle.pdp_console.specs.Bits.{lks_enable, lks_monitor}
use Rattle.pdp_console.specs.declared.kw.Kw.{Kw}

-- at power-up and after RESET [6.100]
abbrev pub init_kw : Kw
init_kw = record { monitor = true; enable = false; request = false }

-- 7 monitor, 6 enable [6.41]
abbrev pub kw_value : Kw → ℕ
kw_value c = bit_of c.monitor * lks_monitor + bit_of c.enable * lks_enable

-- a tick sets monitor, and requests if enable is set [6.55] [6.107]
abbrev pub kw_ticked : Kw → Kw
kw_ticked c = record c { monitor = true; request = c.request || c.enable }

-- a write sets enable, clears monitor if bit 7 is clear, and drops a request if bit 6 is clear
-- [6.41] [6.107]
abbrev pub kw_written : ℕ → Kw → Kw
kw_written word c = record {
  monitor = c.monitor && is_set lks_monitor word;
  enable = is_set lks_enable word;
  request = c.request && is_set lks_enable word;
}

-- the request is served [6.107]
abbrev pub kw_served : Kw → Kw
kw_served c = record c { request = false }
