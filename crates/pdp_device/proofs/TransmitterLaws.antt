-- The last byte written comes out once, over any list of writes.
use Rattle.std.proofs.Common.{◌≡◌, ℕ, ◌+◌, ◌==◌, Bool, true, false, if◌then◌else◌, Some, List, [], ◌∷◌, refl, ap, ◌∙◌}
use Rattle.pdp_device.specs.Laws.{BytesComeOutOnce, ComesOutOnce, Write, after_writes, byte_after, last_byte}
use Rattle.pdp_device.specs.ReadyEnable.{with_ready}
use Rattle.pdp_device.specs.Operation.{begun_operation, is_under_way}
use Rattle.pdp_device.specs.Transmitter.{transmitter_written}
use Rattle.pdp_device.specs.declared.operation.Operation.TheVariants.{ByEvent, At}
use Rattle.pdp_device.specs.declared.transmitter.Transmitter.{Transmitter}
use Rattle.pdp_device.specs.declared.transmitter.TransmitterRegister.{TransmitterRegister}
use Rattle.pdp_device.specs.declared.transmitter.TransmitterRegister.TheVariants.{Status, Buffer}

-- while a byte is on its way, a write keeps the operation and may replace the byte
one_write : (register : TransmitterRegister) (word turn delay : ℕ) (o : Transmitter) → is_under_way o.operation ≡ true
    → ((transmitter_written register word turn delay o).operation ≡ o.operation)
    × ((transmitter_written register word turn delay o).byte ≡ byte_after register word o.byte)
one_write Status word turn delay o busy = (refl, refl)
one_write Buffer word turn delay o busy = rw busy (refl, refl)

writes_keep_the_operation : (ws : List Write) (o : Transmitter) → is_under_way o.operation ≡ true
    → ((after_writes ws o).operation ≡ o.operation) × ((after_writes ws o).byte ≡ last_byte ws o.byte)
writes_keep_the_operation [] o busy = (refl, refl)
writes_keep_the_operation (w ∷ ws) o busy =
    let one = one_write w.register w.word w.turn w.delay o busy in
    let after = transmitter_written w.register w.word w.turn w.delay o in
    let rest = writes_keep_the_operation ws after (ap is_under_way one.0 ∙ busy) in
    (rest.0 ∙ one.0, rest.1 ∙ ap (last_byte ws) one.1)

comes_out : (o : Transmitter) (byte : ℕ) → is_under_way o.operation ≡ true → o.byte ≡ byte → ComesOutOnce o byte
comes_out o byte busy is = record {
  byte_is_out = rw busy (ap Some is);
  no_more = rw busy refl;
  unchanged = rw busy refl;
}

under_way : (turn delay : ℕ) → is_under_way (begun_operation turn delay) ≡ true
under_way turn delay = by_test (delay == 0) where
  by_test : (test : Bool) → is_under_way (if test then ByEvent else At (turn + delay)) ≡ true
  by_test true = refl
  by_test false = refl

from_begun : (ws : List Write) (o : Transmitter) (turn delay : ℕ) → o.operation ≡ begun_operation turn delay
    → ((after_writes ws o).operation ≡ begun_operation turn delay)
    × ComesOutOnce (after_writes ws o) (last_byte ws o.byte)
from_begun ws o turn delay begun =
    let kept = writes_keep_the_operation ws o (ap is_under_way begun ∙ under_way turn delay) in
    let still = kept.0 ∙ begun in
    (still, comes_out (after_writes ws o) (last_byte ws o.byte) (ap is_under_way still ∙ under_way turn delay) kept.1)

pub bytes_come_out_once : BytesComeOutOnce
bytes_come_out_once o byte turn delay ws idle =
    let begun = begun_operation turn delay in
    let first : Transmitter = record { ready_enable = with_ready false o.ready_enable; byte = byte; operation = begun } in
    rw idle (from_begun ws first turn delay refl)
