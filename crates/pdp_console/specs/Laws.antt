-- What the laws of the keyboard and of the line clock say: each name is the law's sentence (PDP-11
-- Peripherals Handbook, KL11 and KW11-L; what writes do to the clock's request is [P]).
use Rattle.std.specs.Prelude.{◌≡◌, ◌≢◌, ◌↔◌, ℕ, true, false}
use Rattle.pdp_word.specs.Bits.{field}
use Rattle.pdp_word.specs.Mask.{is_set}
use Rattle.pdp_console.specs.Bits.{lks_enable}
use Rattle.pdp_console.specs.Kl.{kl_read, kl_value, kl_written, kl_struck}
use Rattle.pdp_console.specs.Kw.{kw_value, kw_written, kw_ticked}
use Rattle.pdp_console.specs.declared.kl.Kl.{Kl}
use Rattle.pdp_console.specs.declared.kl.KlRegister.{KlRegister}
use Rattle.pdp_console.specs.declared.kl.KlRegister.TheVariants.{KeyboardStatus, KeyboardBuffer}
use Rattle.pdp_console.specs.declared.kw.Kw.{Kw}

-- done, bit 7 of the keyboard's status
abbrev pub keyboard_done_bit : Kl → ℕ
keyboard_done_bit k = field 7 1 (kl_value KeyboardStatus k)

-- enable, bit 6
abbrev pub keyboard_enable_bit : Kl → ℕ
keyboard_enable_bit k = field 6 1 (kl_value KeyboardStatus k)

-- a key waits in the buffer: done is set
abbrev pub KeysWait : Type 0
KeysWait = (k : Kl) (key : ℕ) → (keyboard_done_bit (kl_struck k key) ≡ 1) ×
    (kl_value KeyboardBuffer (kl_struck k key) ≡ key)

-- a read of the buffer clears done, and leaves the key and enable
abbrev pub ReadsClearDone : Type 0
ReadsClearDone = (k : Kl)
    → (keyboard_done_bit (kl_read KeyboardBuffer k) ≡ 0)
    × (keyboard_enable_bit (kl_read KeyboardBuffer k) ≡ keyboard_enable_bit k)
    × (kl_value KeyboardBuffer (kl_read KeyboardBuffer k) ≡ kl_value KeyboardBuffer k)

-- a write of the status sets enable as in the word, and leaves done and the key
abbrev pub WritesSetEnable : Type 0
WritesSetEnable = (k : Kl) (word turn delay : ℕ)
    → (keyboard_enable_bit (kl_written KeyboardStatus word turn delay k) ≡ field 6 1 word)
    × (keyboard_done_bit (kl_written KeyboardStatus word turn delay k) ≡ keyboard_done_bit k)
    × (kl_value KeyboardBuffer (kl_written KeyboardStatus word turn delay k)
    ≡ kl_value KeyboardBuffer k)

-- a write of any register, and a read of any but the buffer, leave done and the key
abbrev pub OtherUsesLeaveTheKey : Type 0
OtherUsesLeaveTheKey = (register : KlRegister) (k : Kl) (word turn delay : ℕ)
    → ((kl_written register word turn delay k).keyboard.ready_enable.ready
    ≡ k.keyboard.ready_enable.ready)
    × ((kl_written register word turn delay k).keyboard.key ≡ k.keyboard.key)
    × (register ≢ KeyboardBuffer
    → ((kl_read register k).keyboard.ready_enable.ready ≡ k.keyboard.ready_enable.ready)
    × ((kl_read register k).keyboard.key ≡ k.keyboard.key))

-- if there is no request, a tick makes one exactly if enable is set; if there is one, a tick keeps
-- it
abbrev pub TicksRequest : Type 0
TicksRequest = (c : Kw)
    → (c.request ≡ false → ((kw_ticked c).request ≡ true) ↔ (c.enable ≡ true))
    × (c.request ≡ true → (kw_ticked c).request ≡ true)

-- a write makes no request, and keeps one exactly if its bit 6 is set, which is enable from then on
abbrev pub WritesMakeNoRequest : Type 0
WritesMakeNoRequest = (word : ℕ) (c : Kw)
    → (c.request ≡ false → (kw_written word c).request ≡ false)
    × (c.request ≡ true → (kw_written word c).request ≡ is_set lks_enable word)
    × ((kw_written word c).enable ≡ is_set lks_enable word)

-- monitor, bit 7 of the clock's register
abbrev pub monitor_bit : Kw → ℕ
monitor_bit c = field 7 1 (kw_value c)

abbrev pub TicksSetMonitor : Type 0
TicksSetMonitor = (c : Kw) → monitor_bit (kw_ticked c) ≡ 1

-- monitor, if it is set, is clear after a write exactly if bit 7 of the word is clear; no write
-- sets it
abbrev pub MonitorStaysUntilCleared : Type 0
MonitorStaysUntilCleared = (word : ℕ) (c : Kw)
    → (monitor_bit c ≡ 1 → monitor_bit (kw_written word c) ≡ field 7 1 word)
    × (monitor_bit c ≡ 0 → monitor_bit (kw_written word c) ≡ 0)
