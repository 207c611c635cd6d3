-- The last writes to words of core [P].
use Rattle.std.specs.Prelude.{ℕ, ◌≡◌, ◌<◌, List, Option, Some, None, length, slice_index}
use Rattle.std.specs.Prelude.{slice_index_or}
use Rattle.std.specs.List.{All}
use Rattle.pdp_checkpoint.specs.Ladder.{LadderData}
use Rattle.pdp_store.specs.declared.Stamp.{Stamp}
use Rattle.pdp_store.specs.TracedAccess.{last_write}
use Rattle.pdp_cpu.specs.Handbook.MachineState.{MachineState}
use Rattle.pdp_replay.specs.Run.Checkpoints.{AreStatesOf}
use Rattle.pdp_replay.specs.Past.{Past}
use Rattle.pdp_replay.specs.Past.Setup.{core_size}
use Rattle.pdp_replay.specs.Run.States.{at, state_at, trace_at}
use Rattle.pdp_replay.specs.declared.ask.last_write.LastWrite.{LastWrite}

-- a write, if there was one, with the word as it is since
abbrev pub last_write_of : Option Stamp → ℕ → Option LastWrite
last_write_of (Some stamp) word = Some (record {
  turn = stamp.turn;
  agent = stamp.agent;
  word = word;
})
last_write_of None word = None

-- the last write to the core word of this number in the turns before turn n, and the word as it is
-- in state n
abbrev pub last_write_at : Past → ℕ → ℕ → Option LastWrite
last_write_at p n number = last_write_of (last_write (trace_at p n) number None) (slice_index
    (state_at p n).bus.core number)

-- this is the last write to a word, of every past and turn whose machine this is
abbrev pub IsLastWriteIn : MachineState → ℕ → Option LastWrite → Type 0
IsLastWriteIn machine number found = (p : Past) (n : ℕ) → machine ≡ at p n → found
    ≡ last_write_at p n number

-- there is a last stamp for each word of core, and it is that of the last write to the word in the
-- turns before turn n, from power-up on: by the processor or by the disk; none if there was none
pub record AreLastWrites (p : Past) (n : ℕ) (core_stamps : List (Option Stamp)) : Type 0 where
  pub size : length core_stamps ≡ core_size p.setup
  pub stamps : (k : ℕ) → k < core_size p.setup → slice_index_or core_stamps k None ≡
      last_write (trace_at p n) k None

-- so it is in each state of a run
abbrev pub StampsOfStatesAreLastWrites : Type 0
StampsOfStatesAreLastWrites = (p : Past) (n : ℕ) → AreLastWrites p n (state_at p n).bus.stamps

-- and in each checkpoint of it, with the turns before its own
abbrev pub StampsOfCheckpointsAreLastWrites : Type 0
StampsOfCheckpointsAreLastWrites =
    (p : Past) (known : ℕ) (l : LadderData) → AreStatesOf p known l → All
    (λ c. AreLastWrites p c.turn c.saved.bus.stamps) l.kept
