-- What the law of the keyboard's registers says: each name is the law's sentence (PDP-11
-- Peripherals Handbook, KL11).
use Rattle.std.specs.Prelude.{◌≡◌, ◌≢◌, ℕ, List, [], ◌∷◌}
use Rattle.pdp_word.specs.Bits.{field}
use Rattle.pdp_console.specs.declared.kl.KlRegister.TheVariants.{KeyboardStatus, KeyboardBuffer}
use Rattle.pdp_io_page.specs.Handbook.Register.{after_read, value_in}
use Rattle.pdp_io_page.specs.Laws.{RegisterUse, Reading, Writing, io_page_after_uses}
use Rattle.pdp_io_page.specs.declared.io_page.IoPage.{IoPage}
use Rattle.pdp_io_page.specs.declared.register.Register.{Register}
use Rattle.pdp_io_page.specs.declared.register.Register.TheVariants.{Console}
use Rattle.pdp_unibus.specs.Handbook.BusWorld.{BusWorld}
use Rattle.pdp_unibus.specs.Handbook.Beginning.{at_start, after_key}

abbrev pub NeverReading : Register → List RegisterUse → Type 0
NeverReading register [] = Unit {0}
NeverReading register (Reading other ∷ uses) = (other ≢ register) × NeverReading register uses
NeverReading register (Writing other word turn ∷ uses) = NeverReading register uses

-- a key that was struck waits until the buffer is read: done, bit 7 of the status, is set, and the
-- buffer holds the key
abbrev pub KeysWaitUntilRead : Type 0
KeysWaitUntilRead = (w : BusWorld) (key drives : ℕ) (uses : List RegisterUse) → NeverReading
    (Console KeyboardBuffer) uses
    → (field 7 1 (value_in (Console KeyboardStatus) drives (io_page_after_uses uses (after_key key
    (at_start w)).bus.io_page)) ≡ 1)
    × (value_in (Console KeyboardBuffer) drives (io_page_after_uses uses (after_key key
    (at_start w)).bus.io_page) ≡ key)

-- a read of the buffer clears done, and no register that is then read or written sets it
abbrev pub KeysAreReadOnce : Type 0
KeysAreReadOnce = (b : IoPage) (drives : ℕ) (uses : List RegisterUse)
    → field 7 1 (value_in (Console KeyboardStatus) drives (io_page_after_uses uses (after_read
    (Console KeyboardBuffer) b))) ≡ 0
