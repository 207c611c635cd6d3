-- The paper tape reader: PDP-11 Peripherals Handbook, PC11 (go while busy or with error, when
-- requests appear and go, and when a byte has come are [P]).
use Rattle.std.specs.Prelude.{ℕ, ◌+◌, ◌*◌, Bool, true, false, ◌&&◌, ◌||◌, not, Option, Some, None}
use Rattle.std.specs.Prelude.{if◌then◌else◌}
use Rattle.pdp_word.specs.Bits.{bit_of}
use Rattle.pdp_word.specs.Mask.{is_set}
use Rattle.pdp_tape.specs.Bits.{prs_busy, prs_done, prs_enable, prs_error, prs_go}
use Rattle.pdp_device.specs.Request.{request_after}
use Rattle.pdp_device.specs.Operation.{begun_operation, is_under_way}
use Rattle.pdp_device.specs.declared.operation.Operation.TheVariants.{Idle}
use Rattle.pdp_tape.specs.declared.reader.Reader.{Reader}

-- at power-up [7.7]
abbrev pub init_reader : Reader
init_reader = record {
  error = false;
  done = false;
  enable = false;
  request = false;
  byte = 0;
  operation = Idle;
}

-- the condition under which the reader requests an interrupt: enable, and one of error and done
-- [6.104]
abbrev pub reader_wants_interrupt : Reader → Bool
reader_wants_interrupt r = (r.error || r.done) && r.enable

-- one change to these flags: the request goes by the condition before it and after it [6.106]
abbrev pub reader_with : Bool → Bool → Bool → Reader → Reader
reader_with error done enable r = record r {
  error = error;
  done = done;
  enable = enable;
  request = request_after (reader_wants_interrupt r) ((error || done) && enable) r.request;
}

-- 15 error, 11 busy, 7 done, 6 enable; go reads 0 [6.42] [6.53]
abbrev pub reader_status : Reader → ℕ
reader_status r =
    bit_of r.error * prs_error + bit_of (is_under_way r.operation) * prs_busy + bit_of r.done *
    prs_done
    + bit_of r.enable * prs_enable

-- go while nothing is under way, by a write that sets or clears enable: with error set it begins
-- nothing, and requests if enable is set; else it clears done and the byte, and begins [6.62]
-- [6.63]
abbrev pub reader_after_go : Bool → ℕ → ℕ → Reader → Reader
reader_after_go enable turn delay r =
    if r.error then record r { enable = enable; request = enable }
    else record (reader_with false false enable r) {
      byte = 0;
      operation = begun_operation turn
          delay;
    }

-- a word written to the status: bit 6 is enable, and bit 0 is go, which does nothing while busy
-- [6.42] [6.61]
abbrev pub reader_status_written : ℕ → ℕ → ℕ → Reader → Reader
reader_status_written word turn delay r =
    if is_under_way r.operation || not (is_set prs_go word) then reader_with r.error r.done
    (is_set prs_enable word) r
    else reader_after_go (is_set prs_enable word) turn delay r

-- a read of the buffer clears done [6.43]
abbrev pub buffer_read : Reader → Reader
buffer_read r = reader_with r.error false r.enable r

-- whether a completion takes a byte from the tape
abbrev pub takes_byte : Reader → Bool
takes_byte r = is_under_way r.operation

-- the read is over, with the next byte of the tape if there is one: done, or else error [6.64]
abbrev pub read_over : Option ℕ → Reader → Reader
read_over (Some byte) r = record (reader_with r.error true r.enable r) {
  byte = byte;
  operation =
      Idle;
}
read_over None r = record (reader_with true r.done r.enable r) { operation = Idle }

-- a completion; if nothing is under way it does nothing [6.58]
abbrev pub reader_completed : Option ℕ → Reader → Reader
reader_completed next r = if is_under_way r.operation then read_over next r else r

-- RESET: flags and request are cleared, what was under way is dropped, and the byte stays [6.64]
-- [6.65] [6.104] [6.108]
abbrev pub reader_reset : Reader → Reader
reader_reset r = record init_reader { byte = r.byte }
