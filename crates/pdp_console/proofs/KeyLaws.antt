-- What uses of the registers leave of a key. An equation of `kl_read` or `kl_written` that leaves done and the key has
-- no line of its own here.
use Rattle.std.proofs.Common.{◌≡◌, ◌+◌, ◌*◌, Bool, true, false, refl}
use Rattle.pdp_word.specs.Bits.{bit_of, field}
use Rattle.pdp_console.specs.Kl.{kl_read, kl_value}
use Rattle.pdp_console.specs.Laws.{OtherUsesLeaveTheKey}
use Rattle.pdp_console.specs.declared.kl.Kl.{Kl}
use Rattle.pdp_console.specs.declared.kl.KlRegister.{KlRegister}
use Rattle.pdp_console.specs.declared.kl.KlRegister.TheVariants.{KeyboardStatus, KeyboardBuffer}

-- bit 7 of the status is done
pub status_shows_done : (k : Kl) → field 7 1 (kl_value KeyboardStatus k) ≡ bit_of k.keyboard.ready_enable.ready
status_shows_done k = shown k.keyboard.ready_enable.ready k.keyboard.ready_enable.enable where
  shown : (done enable : Bool) → field 7 1 (bit_of done * 0o200 + bit_of enable * 0o100) ≡ bit_of done
  shown true true = refl
  shown true false = refl
  shown false true = refl
  shown false false = refl

pub others_leave_the_key : OtherUsesLeaveTheKey
others_leave_the_key KeyboardBuffer k word turn delay = (refl, refl, λ other. absurd (other refl))
others_leave_the_key _ k word turn delay = (refl, refl, λ other. (refl, refl))

-- done, once clear, stays so
pub reads_leave_done_clear : (register : KlRegister) (k : Kl) → k.keyboard.ready_enable.ready ≡ false
    → (kl_read register k).keyboard.ready_enable.ready ≡ false
reads_leave_done_clear KeyboardBuffer k clear = refl
reads_leave_done_clear _ k clear = clear
