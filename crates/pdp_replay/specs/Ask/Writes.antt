-- The writes to a word of core in some turns [P].
use Rattle.std.specs.Prelude.{ℕ, ◌≡◌, ◌+◌, ◌-◌, ◌<◌, List, Option, None, Some, Result, Ok, Err}
use Rattle.std.specs.Prelude.{slice_index, Bool, is_some}
use Rattle.pdp_store.specs.TracedAccess.{last_write}
use Rattle.pdp_cpu.specs.Handbook.MachineState.{MachineState}
use Rattle.pdp_cpu.specs.Handbook.Turn.{turn_trace}
use Rattle.pdp_script.specs.Entries.{events_at}
use Rattle.pdp_script.specs.Refusal.{result_map}
use Rattle.pdp_script.specs.Script.{ScriptData}
use Rattle.pdp_script.specs.declared.faults.Fault.{Fault}
use Rattle.pdp_replay.specs.Past.{Past}
use Rattle.pdp_replay.specs.Past.Setup.{SetupData, core_size}
use Rattle.pdp_replay.specs.Run.States.{state_at}
use Rattle.pdp_replay.specs.Run.KeptRuns.{IsKeptRun, IsOnWay}
use Rattle.pdp_replay.specs.Ask.LastWrites.{IsLastWriteIn, last_write_of}
use Rattle.pdp_replay.specs.Ask.Listed.{in_turns, list_end}
use Rattle.pdp_replay.specs.Past.Edit.{core_word_at}
use Rattle.pdp_replay.specs.Ask.Searches.{HoldsNowhere, IsFirstTurn, search_checked}
use Rattle.pdp_replay.specs.declared.ask.last_write.LastWrite.{LastWrite}
use Rattle.pdp_replay.specs.declared.run.kept_run.KeptRun.{KeptRun}

-- the last write in turn t to the core word of this number, with the word as it is after the turn;
-- None if the turn doesn't write the word
abbrev pub write_in : Past → ℕ → ℕ → Option LastWrite
write_in p number t = last_write_of
    (last_write (turn_trace t (events_at p.script.entries t) (state_at p t)) number None)
    (slice_index (state_at p (t + 1)).bus.core number)

-- is the word written in turn t?
abbrev pub is_written : Past → ℕ → ℕ → Bool
is_written p number t = is_some (write_in p number t)

-- those of n turns from this one on, in their order
abbrev pub writes_in_turns : Past → ℕ → ℕ → ℕ → List LastWrite
writes_in_turns p number first n = in_turns (write_in p number) first n

-- the turn after this write; the other turn if there is none
abbrev pub turn_after_write : Option LastWrite → ℕ → ℕ
turn_after_write (Some write) to = write.turn + 1
turn_after_write None to = to

-- the turn that a search for writes before turn `to` ends at: the one after the 256th write that it
-- lists, or `to` if it lists fewer
abbrev pub turn_listed : List LastWrite → ℕ → ℕ
turn_listed writes to = list_end (λ write. write.turn) writes to

-- these are the writes of the turns from a run's on and before another, of every past with this
-- script whose run it is
abbrev pub AreWritesFrom : ScriptData → ℕ → ℕ → KeptRun → List LastWrite → Type 0
AreWritesFrom script number to r writes = (p : Past) → p.script ≡ script → IsOnWay p r
    → writes ≡ writes_in_turns p number r.machine.state.turn (to - r.machine.state.turn)

-- this is the first write of the turns from one on and before another; None if there is none
abbrev pub IsNextWrite : Past → ℕ → ℕ → ℕ → Option LastWrite → Type 0
IsNextWrite p number from to (Some write) =
    (IsFirstTurn (is_written p number) from to write.turn)
    × (Some write ≡ write_in p number write.turn)
IsNextWrite p number from to None = HoldsNowhere (is_written p number) from to

-- in every run with this script that is kept, of those from its machine's turn to another one
abbrev pub IsNextWriteTo : ℕ → ScriptData → ℕ → KeptRun → Option LastWrite → Type 0
IsNextWriteTo to script number r write = (p : Past) → p.script ≡ script → IsOnWay p r
    → IsNextWrite p number r.machine.state.turn to write

-- this is what a machine tells of the last write to a word, if a turn was found
abbrev pub IsWriteFound : MachineState → ℕ → Option ℕ → Option LastWrite → Type 0
IsWriteFound machine number (Some t) write = IsLastWriteIn machine number write
IsWriteFound machine number None write = write ≡ None

-- a word can be searched for writes in a run with this script: it is in core
pub record CanSearch (number : ℕ) (script : ScriptData) (r : KeptRun) : Type 0 where
  pub past : Past
  pub same : past.script ≡ script
  pub run : IsKeptRun past r
  pub within : number < core_size past.setup

-- its writes can be listed from the machine's turn on, which is in a state of the run
pub record CanList (number : ℕ) (script : ScriptData) (r : KeptRun) : Type 0 where
  pub past : Past
  pub same : past.script ≡ script
  pub run : IsOnWay past r
  pub within : number < core_size past.setup

-- one test after another
abbrev pub then_checked : Result (Unit {0}) Fault → Result (Unit {0}) Fault
    → Result (Unit {0}) Fault
then_checked (Ok x) next = next
then_checked (Err fault) next = Err fault

-- can turns from one on and before another be searched for writes to the core word at this address?
abbrev pub writes_checked : ℕ → ℕ → ℕ → SetupData → Result (Unit {0}) Fault
writes_checked address from to s =
    then_checked (search_checked from to) (result_map (λ _. tt) (core_word_at address s))
