-- What the laws of the reader say: each name is the law's sentence (PDP-11 Peripherals Handbook,
-- PC11; when requests appear and go, and go while busy, are [P]).
use Rattle.std.specs.Prelude.{◌≡◌, ◌↔◌, ◌⊎◌, ⊤, ℕ, Bool, true, false, ◌&&◌, not, Option, Some, None}
use Rattle.std.specs.Prelude.{List, [], ◌∷◌}
use Rattle.pdp_word.specs.Bits.{field}
use Rattle.pdp_word.specs.Mask.{is_set}
use Rattle.pdp_tape.specs.Bits.{prs_enable, prs_go}
use Rattle.pdp_device.specs.Operation.{is_under_way}
use Rattle.pdp_tape.specs.Pc11.{pc11_read, pc11_reader_completed, pc11_value, pc11_written}
use Rattle.pdp_tape.specs.Pc11.{reader_served}
use Rattle.pdp_tape.specs.Reader.{reader_wants_interrupt}
use Rattle.pdp_tape.specs.declared.pc11.Pc11.{Pc11}
use Rattle.pdp_tape.specs.declared.pc11.Pc11Register.{Pc11Register}
use Rattle.pdp_tape.specs.declared.pc11.Pc11Register.TheVariants.{ReaderStatus, ReaderBuffer}

-- error, bit 15 of the reader's status
abbrev pub reader_error_bit : Pc11 → ℕ
reader_error_bit p = field 15 1 (pc11_value ReaderStatus p)

-- busy, bit 11
abbrev pub busy_bit : Pc11 → ℕ
busy_bit p = field 11 1 (pc11_value ReaderStatus p)

-- done, bit 7
abbrev pub reader_done_bit : Pc11 → ℕ
reader_done_bit p = field 7 1 (pc11_value ReaderStatus p)

-- enable, bit 6
abbrev pub reader_enable_bit : Pc11 → ℕ
reader_enable_bit p = field 6 1 (pc11_value ReaderStatus p)

-- the condition is what the status shows: enable, and one of error and done
abbrev pub ReaderConditionIsShown : Type 0
ReaderConditionIsShown = (p : Pc11)
    → (reader_wants_interrupt p.reader ≡ true) ↔ ((reader_error_bit p ≡ 1 ⊎ reader_done_bit p ≡ 1)
    × (reader_enable_bit p ≡ 1))

-- what happens to the reader: a register is read, or written with a word in a turn with the delays
-- of reader and punch, or a read of the tape is over, with the next byte if there is one
pub data Pc11Use : Type 0 where
  Reading : Pc11Register → Pc11Use
  Writing : Pc11Register → ℕ → ℕ → ℕ → ℕ → Pc11Use
  Completing : Option ℕ → Pc11Use

abbrev pub pc11_after_use : Pc11Use → Pc11 → Pc11
pc11_after_use (Reading register) p = pc11_read register p
pc11_after_use (Writing register word turn reader_delay punch_delay) p =
    pc11_written register word turn reader_delay punch_delay p
pc11_after_use (Completing next) p = pc11_reader_completed next p

abbrev pub pc11_after_uses : List Pc11Use → Pc11 → Pc11
pc11_after_uses [] p = p
pc11_after_uses (c ∷ cs) p = pc11_after_uses cs (pc11_after_use c p)

-- a go that finds error while nothing is under way
abbrev pub is_go_with_error : Pc11Use → Pc11 → Bool
is_go_with_error (Writing ReaderStatus word turn reader_delay punch_delay) p =
    is_set prs_go word && (p.reader.error && not (is_under_way p.reader.operation))
is_go_with_error _ p = false

-- if there is no request, a change makes one exactly if the condition goes from false to true
abbrev pub ReaderRequestsAppearOnARise : Type 0
ReaderRequestsAppearOnARise = (c : Pc11Use) (p : Pc11) → is_go_with_error c p ≡ false
    → p.reader.request ≡ false
    → ((pc11_after_use c p).reader.request ≡ true)
    ↔ ((reader_wants_interrupt p.reader ≡ false) × (reader_wants_interrupt
    (pc11_after_use c p).reader ≡ true))

-- if there is one while the condition holds, a change leaves it exactly if the condition holds
-- after it
abbrev pub ReaderRequestsGoWithTheCondition : Type 0
ReaderRequestsGoWithTheCondition = (c : Pc11Use) (p : Pc11) → p.reader.request ≡ true
    → reader_wants_interrupt p.reader ≡ true
    → (pc11_after_use c p).reader.request ≡ reader_wants_interrupt (pc11_after_use c p).reader

-- a go that finds error requests exactly if it sets enable, whatever was before, and changes
-- nothing else
abbrev pub GoWithErrorRequests : Type 0
GoWithErrorRequests = (word turn reader_delay punch_delay : ℕ) (p : Pc11)
    → is_go_with_error (Writing ReaderStatus word turn reader_delay punch_delay) p ≡ true
    → pc11_written ReaderStatus word turn reader_delay punch_delay p
    ≡ record p {
      reader = record p.reader {
        enable = is_set prs_enable word;
        request = is_set
            prs_enable word;
      };
    }

-- the condition holds, and still does after each of the changes
abbrev pub ReaderHoldsThroughout : List Pc11Use → Pc11 → Type 0
ReaderHoldsThroughout [] p = reader_wants_interrupt p.reader ≡ true
ReaderHoldsThroughout (c ∷ cs) p = (reader_wants_interrupt p.reader ≡ true)
    × ReaderHoldsThroughout cs (pc11_after_use c p)

-- none of the changes is a go that finds error
abbrev pub NeverGoesWithError : List Pc11Use → Pc11 → Type 0
NeverGoesWithError [] p = ⊤
NeverGoesWithError (c ∷ cs) p = (is_go_with_error c p ≡ false) × NeverGoesWithError cs
    (pc11_after_use c p)

-- a request that was served stays away while the condition holds and no go finds error
abbrev pub ServedReaderRequestsStayAway : Type 0
ServedReaderRequestsStayAway = (p : Pc11) (cs : List Pc11Use) → ReaderHoldsThroughout cs
    (reader_served p)
    → NeverGoesWithError cs (reader_served p)
    → (pc11_after_uses cs (reader_served p)).reader.request ≡ false

-- while a byte is being read, a write of the status changes enable, and the request by it, and
-- nothing else
abbrev pub BusyGoChangesNothingButEnable : Type 0
BusyGoChangesNothingButEnable = (word turn reader_delay punch_delay : ℕ) (p : Pc11)
    → is_under_way p.reader.operation ≡ true
    → pc11_written ReaderStatus word turn reader_delay punch_delay p
    ≡ record p {
      reader = record p.reader {
        enable = is_set prs_enable word;
        request = (pc11_written ReaderStatus word turn reader_delay punch_delay p).reader.request;
      };
    }

-- go by this word, and then a completion with the next byte of the tape, if there is one
abbrev pub read_by : ℕ → ℕ → ℕ → ℕ → Option ℕ → Pc11 → Pc11
read_by word turn reader_delay punch_delay next p =
    pc11_reader_completed next (pc11_written ReaderStatus word turn reader_delay punch_delay p)

-- go begins a read: bit 0 is set, with no error and nothing under way
pub record BeginsToRead (word : ℕ) (p : Pc11) : Type 0 where
  pub go : is_set prs_go word ≡ true
  pub no_error : p.reader.error ≡ false
  pub idle : is_under_way p.reader.operation ≡ false

-- a byte was read: done, and no error
abbrev pub ReadingGivesTheNextByte : Type 0
ReadingGivesTheNextByte = (word turn reader_delay punch_delay byte : ℕ) (p : Pc11)
    → BeginsToRead word p
    → (reader_done_bit (read_by word turn reader_delay punch_delay (Some byte) p) ≡ 1)
    × (reader_error_bit (read_by word turn reader_delay punch_delay (Some byte) p) ≡ 0)
    × (busy_bit (read_by word turn reader_delay punch_delay (Some byte) p) ≡ 0)
    × (pc11_value ReaderBuffer (read_by word turn reader_delay punch_delay (Some byte) p) ≡ byte)

-- no byte was left: error, and not done
abbrev pub ReadingPastTheEndSetsError : Type 0
ReadingPastTheEndSetsError = (word turn reader_delay punch_delay : ℕ) (p : Pc11)
    → BeginsToRead word p
    → (reader_error_bit (read_by word turn reader_delay punch_delay None p) ≡ 1)
    × (reader_done_bit (read_by word turn reader_delay punch_delay None p) ≡ 0)
    × (busy_bit (read_by word turn reader_delay punch_delay None p) ≡ 0)
    × (pc11_value ReaderBuffer (read_by word turn reader_delay punch_delay None p) ≡ 0)
