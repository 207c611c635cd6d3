-- What the laws of ready/enable pairs, operations and transmitters say: each name is the law's
-- sentence (when requests appear and go, when operations are due and which bytes come out are [P]).
use Rattle.std.specs.Prelude.{◌≡◌, ◌<◌, ◌↔◌, ℕ, ◌+◌, Bool, true, false, Some, None, List, [], ◌∷◌}
use Rattle.pdp_word.specs.Bits.{field}
use Rattle.pdp_word.specs.Word.{low_byte}
use Rattle.pdp_device.specs.ReadyEnable.{ready_enable_served, ready_enable_status}
use Rattle.pdp_device.specs.ReadyEnable.{ready_enable_with, enable_written, wants_interrupt}
use Rattle.pdp_device.specs.ReadyEnable.{with_ready}
use Rattle.pdp_device.specs.Operation.{begun_operation, is_due, is_under_way}
use Rattle.pdp_device.specs.Transmitter.{byte_out, byte_written, transmitter_completed}
use Rattle.pdp_device.specs.Transmitter.{transmitter_written}
use Rattle.pdp_device.specs.declared.ready_enable.ReadyEnable.{ReadyEnable}
use Rattle.pdp_device.specs.declared.operation.Operation.TheVariants.{Idle}
use Rattle.pdp_device.specs.declared.transmitter.Transmitter.{Transmitter}
use Rattle.pdp_device.specs.declared.transmitter.TransmitterRegister.{TransmitterRegister}
use Rattle.pdp_device.specs.declared.transmitter.TransmitterRegister.TheVariants.{Status, Buffer}

-- the condition is what the status shows: bits 7 and 6
abbrev pub ConditionIsShown : Type 0
ConditionIsShown = (c : ReadyEnable)
    → (wants_interrupt c ≡ true) ↔ ((field 7 1 (ready_enable_status c) ≡ 1) × (field 6 1
    (ready_enable_status c) ≡ 1))

-- what happens to a ready/enable pair: ready is set or cleared, a word is written to its status, or
-- ready and enable both change
pub data ReadyEnableUse : Type 0 where
  SetReady : Bool → ReadyEnableUse
  WriteEnable : ℕ → ReadyEnableUse
  SetBoth : Bool → Bool → ReadyEnableUse

abbrev pub ready_enable_after_use : ReadyEnableUse → ReadyEnable → ReadyEnable
ready_enable_after_use (SetReady ready) c = with_ready ready c
ready_enable_after_use (WriteEnable word) c = enable_written word c
ready_enable_after_use (SetBoth ready enable) c = ready_enable_with ready enable c

abbrev pub ready_enable_after_uses : List ReadyEnableUse → ReadyEnable → ReadyEnable
ready_enable_after_uses [] c = c
ready_enable_after_uses (use_of ∷ uses) c = ready_enable_after_uses uses
    (ready_enable_after_use use_of c)

-- if there is no request, a change makes one exactly if the condition goes from false to true
abbrev pub RequestsAppearOnARise : Type 0
RequestsAppearOnARise = (use_of : ReadyEnableUse) (c : ReadyEnable) → c.request ≡ false
    → ((ready_enable_after_use use_of c).request ≡ true)
    ↔ ((wants_interrupt c ≡ false) × (wants_interrupt (ready_enable_after_use use_of c) ≡ true))

-- if there is one, a change leaves it exactly if the condition holds after it
abbrev pub RequestsGoWithTheCondition : Type 0
RequestsGoWithTheCondition = (use_of : ReadyEnableUse) (c : ReadyEnable) → c.request ≡ true
    → (ready_enable_after_use use_of c).request ≡ wants_interrupt (ready_enable_after_use use_of c)

-- the condition holds, and still does after each of the changes
abbrev pub HoldsThroughout : List ReadyEnableUse → ReadyEnable → Type 0
HoldsThroughout [] c = wants_interrupt c ≡ true
HoldsThroughout (use_of ∷ uses) c = (wants_interrupt c ≡ true) × HoldsThroughout uses
    (ready_enable_after_use use_of c)

-- a request that was served stays away while the condition holds
abbrev pub ServedRequestsStayAway : Type 0
ServedRequestsStayAway = (c : ReadyEnable) (uses : List ReadyEnableUse) → HoldsThroughout uses
    (ready_enable_served c)
    → (ready_enable_after_uses uses (ready_enable_served c)).request ≡ false

abbrev pub OperationsBeginUnderWay : Type 0
OperationsBeginUnderWay = (turn delay : ℕ) → is_under_way (begun_operation turn delay) ≡ true

-- with a delay: due that many turns later, and in no other turn
abbrev pub OperationsAreDueOnce : Type 0
OperationsAreDueOnce = (turn delay later : ℕ) → 0 < delay
    → (is_due later (begun_operation turn delay) ≡ true) ↔ (later ≡ turn + delay)

-- with delay 0: due in no turn
abbrev pub EventsAloneCompleteWithoutDelay : Type 0
EventsAloneCompleteWithoutDelay = (turn later : ℕ) → is_due later (begun_operation turn 0) ≡ false

abbrev pub IdleIsNeverDue : Type 0
IdleIsNeverDue = (turn : ℕ) → is_due turn Idle ≡ false

-- a word written to a register of a transmitter, in a turn, with the delay of a byte then
pub record Write : Type 0 where
  pub register : TransmitterRegister
  pub word : ℕ
  pub turn : ℕ
  pub delay : ℕ

abbrev pub after_writes : List Write → Transmitter → Transmitter
after_writes [] o = o
after_writes (w ∷ ws) o = after_writes ws (transmitter_written w.register w.word w.turn w.delay o)

-- the byte after a write, if this one was there before it
abbrev pub byte_after : TransmitterRegister → ℕ → ℕ → ℕ
byte_after Status word byte = byte
byte_after Buffer word byte = low_byte word

-- the last byte written, if this one was there before the writes
abbrev pub last_byte : List Write → ℕ → ℕ
last_byte [] byte = byte
last_byte (w ∷ ws) byte = last_byte ws (byte_after w.register w.word byte)

-- what a transmitter does with this byte, its operation being this one: it comes out, and nothing
-- after it
pub record ComesOutOnce (o : Transmitter) (byte : ℕ) : Type 0 where
  pub byte_is_out : byte_out o ≡ Some byte
  pub no_more : byte_out (transmitter_completed o) ≡ None
  pub unchanged : transmitter_completed (transmitter_completed o) ≡ transmitter_completed o

-- a byte is written if nothing is under way, and then whatever else: the last byte comes out, when
-- the first was due
abbrev pub BytesComeOutOnce : Type 0
BytesComeOutOnce = (o : Transmitter) (byte turn delay : ℕ) (ws : List Write)
    → is_under_way o.operation ≡ false
    → ((after_writes ws (byte_written byte turn delay o)).operation ≡ begun_operation turn delay)
    × ComesOutOnce (after_writes ws (byte_written byte turn delay o)) (last_byte ws byte)
