-- Bus cycles: PDP-11 Peripherals Handbook, Unibus (stamps, that a timeout changes nothing, and the
-- log are [P]).
use Rattle.std.specs.Prelude.{ℕ, ◌*◌, ◌/◌, Option, Some, None, Result, Ok, Err, length, slice_index}
use Rattle.std.specs.Prelude.{slice_set, nat_lt, if◌then◌else◌}
use Rattle.pdp_decode.specs.Table.{instr_of_word}
use Rattle.pdp_decode.specs.declared.instruction.Instr.{Instr}
use Rattle.pdp_icache.specs.Meaning.{meaning}
use Rattle.pdp_icache.specs.declared.line.Decoded.{Decoded}
use Rattle.pdp_store.specs.CycleLogs.{log_with}
use Rattle.pdp_store.specs.FirstTouches.{word_touched}
use Rattle.pdp_store.specs.declared.cycle_log.BusCycle.{BusCycle}
use Rattle.pdp_store.specs.declared.cycle_log.CycleKind.TheVariants as kind
use Rattle.pdp_store.specs.declared.part.Part.TheVariants as part
use Rattle.pdp_store.specs.declared.Agent.TheVariants.{Cpu}
use Rattle.pdp_store.specs.declared.Stamp.{Stamp}
use Rattle.pdp_unibus.specs.Handbook.BusWorld.{BusWorld, with_io_page, with_log}
use Rattle.pdp_io_page.specs.Handbook.Register.{register_at, value_in, after_read, after_write}
use Rattle.pdp_io_page.specs.Handbook.Register.{after_byte}
use Rattle.pdp_io_page.specs.Handbook.Register.{word_with_byte}
use Rattle.pdp_io_page.specs.declared.register.Register.{Register}
use Rattle.pdp_io_page.specs.declared.io_page.IoPage.{IoPage}
use Rattle.pdp_unibus.specs.declared.bus.Timeout.{Timeout}

-- one bus cycle: what the master asks for, at a physical byte address
pub data Cycle : Type 0 where
  ReadAt : ℕ → Cycle
  WriteAt : ℕ → ℕ → Cycle
  WriteByteAt : ℕ → ℕ → Cycle

-- what the master is told, and the bus after the cycle; a write is told 0
pub record Answer : Type 0 where
  pub value : Result ℕ Timeout
  pub after : BusWorld

-- who answers an address: a word of core, a register of a device, or nobody
pub data Slave : Type 0 where
  Core : ℕ → Slave
  Device : Register → Slave
  Nobody : Slave

abbrev pub device_slave : Option Register → Slave
device_slave (Some register) = Device register
device_slave None = Nobody

-- core of so many words is at the lowest addresses [6.3] [6.4] [6.29]
abbrev pub slave_at : ℕ → ℕ → Slave
slave_at words address =
    (if nat_lt (address / 2) words then Core (address / 2) else device_slave (register_at address))

-- the stamp that a write of the processor leaves in this turn [6.28]
abbrev pub stamp_of_cycle : BusWorld → Stamp
stamp_of_cycle w = record { turn = w.turn; agent = Cpu }

-- a cycle as a log tells it: a read of this value at this physical byte address, a write, a write
-- of a byte
abbrev pub told_read : ℕ → Option ℕ → BusCycle
told_read address value = record { kind = kind.Read; address = address; value = value }

abbrev pub told_write : ℕ → Option ℕ → BusCycle
told_write address value = record { kind = kind.Write; address = address; value = value }

abbrev pub told_byte_write : ℕ → Option ℕ → BusCycle
told_byte_write address value = record {
  kind = kind.WriteByte;
  address = address;
  value = value;
}

-- the bus after this cycle was told to its log
abbrev pub telling : BusCycle → BusWorld → BusWorld
telling told w = with_log w (log_with told w.log)

-- the bus after a read of word k of core: it touches the word's page [6.27] [6.28]
abbrev pub core_read : BusWorld → ℕ → BusWorld
core_read w k = record w {
  first_touches = word_touched part.Core k w.turn w.first_touches;
  log = log_with (told_read (k * 2) (Some (slice_index w.core k))) w.log;
}

-- and after word k became this one: that touches the page too
abbrev pub core_put : BusWorld → ℕ → ℕ → BusWorld
core_put w k word = record w {
  core = slice_set w.core k word;
  stamps = slice_set w.stamps k (Some (stamp_of_cycle w));
  first_touches = word_touched part.Core k w.turn w.first_touches;
}

-- a write by which word k is this one, with what the log is told of it
abbrev pub core_stored : BusWorld → ℕ → ℕ → BusCycle → BusWorld
core_stored w k word told = telling told (core_put w k word)

-- a write of the word, and of the byte at this physical address
abbrev pub core_written : BusWorld → ℕ → ℕ → BusWorld
core_written w k word = core_stored w k word (told_write (k * 2) (Some word))

abbrev pub core_byte_written : BusWorld → ℕ → ℕ → ℕ → BusWorld
core_byte_written w k address byte =
    core_stored w k (word_with_byte (slice_index w.core k) address byte) (told_byte_write address
    (Some byte))

-- nobody answered: nothing changes, and the log tells it [6.29]
abbrev pub timed_out : BusCycle → BusWorld → Answer
timed_out told w = record { value = Err (record {}); after = telling told w }

-- a read at this physical address, and its effect if a register has one [6.31]
abbrev pub read_from : ℕ → Slave → BusWorld → Answer
read_from address (Core k) w = record { value = Ok (slice_index w.core k); after = core_read w k }
read_from address (Device r) w = record {
  value = Ok (value_in r (length w.drives) w.io_page);
  after = telling (told_read address (Some (value_in r (length w.drives) w.io_page)))
      (with_io_page w (after_read r w.io_page));
}
read_from address Nobody w = timed_out (told_read address None) w

abbrev pub write_to : ℕ → Slave → ℕ → BusWorld → Answer
write_to address (Core k) word w = record { value = Ok 0; after = core_written w k word }
write_to address (Device r) word w = record {
  value = Ok 0;
  after = telling (told_write address (Some word)) (with_io_page w (after_write r word w.turn
      w.io_page));
}
write_to address Nobody word w = timed_out (told_write address None) w

-- a write of a byte, to its half of a word of core or to a register [6.27] [6.30]
abbrev pub write_byte_to : Slave → ℕ → ℕ → BusWorld → Answer
write_byte_to (Core k) address byte w =
    record { value = Ok 0; after = core_byte_written w k address byte }
write_byte_to (Device r) address byte w =
    record {
      value = Ok 0;
      after = telling (told_byte_write address (Some byte)) (with_io_page w (after_byte r
          (length w.drives) address byte w.turn w.io_page));
    }
write_byte_to Nobody address byte w = timed_out (told_byte_write address None) w

-- one bus cycle: who answers, and what
abbrev pub cycle : Cycle → BusWorld → Answer
cycle (ReadAt address) w = read_from address (slave_at (length w.core) address) w
cycle (WriteAt address word) w = write_to address (slave_at (length w.core) address) word w
cycle (WriteByteAt address byte) w = write_byte_to (slave_at (length w.core) address) address byte w

-- what a write is told, without a value
abbrev pub write_result : Result ℕ Timeout → Result (Unit {0}) Timeout
write_result (Ok value) = Ok tt
write_result (Err timeout) = Err timeout

-- a cycle where no word of core answers, register by register: what the master is told, and the I/O
-- page after it
abbrev pub value_at : Option Register → ℕ → IoPage → Result ℕ Timeout
value_at None drives b = Err (record {})
value_at (Some r) drives b = Ok (value_in r drives b)

abbrev pub told_at : Option Register → Result ℕ Timeout
told_at None = Err (record {})
told_at (Some r) = Ok 0

-- what the log is told of it: a value, if a register answers
abbrev pub value_told : Option Register → ℕ → IoPage → Option ℕ
value_told None drives b = None
value_told (Some r) drives b = Some (value_in r drives b)

abbrev pub written_told : Option Register → ℕ → Option ℕ
written_told None value = None
written_told (Some r) value = Some value

abbrev pub left_by_read : Option Register → IoPage → IoPage
left_by_read None b = b
left_by_read (Some r) b = after_read r b

abbrev pub left_by_write : Option Register → ℕ → ℕ → IoPage → IoPage
left_by_write None word turn b = b
left_by_write (Some r) word turn b = after_write r word turn b

abbrev pub left_by_byte : Option Register → ℕ → ℕ → ℕ → ℕ → IoPage → IoPage
left_by_byte None drives address byte turn b = b
left_by_byte (Some r) drives address byte turn b = after_byte r drives address byte turn b

-- what a read is told, decoded: the instruction with what the processor dispatches on, and the
-- instruction alone
abbrev pub as_decoded : Result ℕ Timeout → Result Decoded Timeout
as_decoded (Ok word) = Ok (meaning word)
as_decoded (Err timeout) = Err timeout

abbrev pub as_instr : Result ℕ Timeout → Result Instr Timeout
as_instr (Ok word) = Ok (instr_of_word word)
as_instr (Err timeout) = Err timeout
