-- The functions of the disk that are completed in some turns: PDP-11 Peripherals Handbook, RK11
-- (turns are [P]).
use Rattle.std.specs.Prelude.{ℕ, ◌≡◌, ◌-◌, ◌&&◌, Bool, true, false, not, List, Option, Some}
use Rattle.std.specs.Prelude.{None, if◌then◌else◌}
use Rattle.pdp_device.specs.Operation.{is_under_way}
use Rattle.pdp_unibus.specs.declared.event.Event.{Event}
use Rattle.pdp_cpu.specs.Handbook.MachineState.{MachineState}
use Rattle.pdp_cpu.specs.Handbook.TurnDisk.{disk_begun}
use Rattle.pdp_script.specs.Entries.{events_at}
use Rattle.pdp_script.specs.Script.{ScriptData}
use Rattle.pdp_replay.specs.Past.{Past}
use Rattle.pdp_replay.specs.Run.KeptRuns.{IsOnWay}
use Rattle.pdp_replay.specs.Run.States.{at}
use Rattle.pdp_replay.specs.Ask.Backwards.{last_of_turns}
use Rattle.pdp_replay.specs.Ask.Listed.{in_turns, list_end}
use Rattle.pdp_replay.specs.declared.ask.disk_completions.DiskCompletion.{DiskCompletion}
use Rattle.pdp_replay.specs.declared.ask.disk_completions.DiskTurn.{DiskTurn}
use Rattle.pdp_replay.specs.declared.run.kept_run.KeptRun.{KeptRun}

-- the disk in the next turn of a machine with these events: its controller before the turn, and
-- when the turn has begun
abbrev pub disk_turn : List Event → MachineState → DiskTurn
disk_turn events m = record {
  turn = m.turn;
  before = m.world.bus.io_page.disk;
  after = disk_begun m.turn events m.world;
}

-- in turn t of the run of this past
abbrev pub disk_turn_at : Past → ℕ → DiskTurn
disk_turn_at p t = disk_turn (events_at p.script.entries t) (at p t)

-- it does nothing when the turn has begun
abbrev pub is_idle_turn : DiskTurn → Bool
is_idle_turn d = not (is_under_way d.after.operation)

abbrev pub is_disk_idle : Past → ℕ → Bool
is_disk_idle p t = is_idle_turn (disk_turn_at p t)

-- a function is completed in the turn: it was under way before the turn, and isn't any more when
-- the turn has begun
abbrev pub has_completion : DiskTurn → Bool
has_completion d = is_under_way d.before.operation && is_idle_turn d

abbrev pub completion_if : Bool → Option ℕ → DiskTurn → Option DiskCompletion
completion_if false begun d = None
completion_if true begun d =
    Some (record { turn = d.turn; begun = begun; before = d.before; after = d.after })

-- the completion in a turn, if there is one, of a function that was begun in this turn, if in one
-- that is searched
abbrev pub completion_of : Option ℕ → DiskTurn → Option DiskCompletion
completion_of begun d = completion_if (has_completion d) begun d

-- the last turn in which the disk did nothing, up to this one
abbrev pub idle_by : Option ℕ → DiskTurn → Option ℕ
idle_by before d = if is_idle_turn d then Some d.turn else before

-- the completion in turn t of a search from turn `first` on: the act of the last turn from `first`
-- on in which the disk did nothing began the function
abbrev pub completion_in : Past → ℕ → ℕ → Option DiskCompletion
completion_in p first t =
    completion_of (last_of_turns (is_disk_idle p) first (t - first)) (disk_turn_at p t)

-- those of n turns from turn `first` on, in their order
abbrev pub completions_in_turns : Past → ℕ → ℕ → List DiskCompletion
completions_in_turns p first n = in_turns (completion_in p first) first n

-- the turn that a search before turn `to` ends at: the one after the 256th completion that it
-- lists, or `to` if it lists fewer
abbrev pub completions_end : List DiskCompletion → ℕ → ℕ
completions_end completions to = list_end (λ completion. completion.turn) completions to

-- this is the disk in the next turn of a run, of every past with this script whose run it is
abbrev pub IsDiskTurnOf : ScriptData → KeptRun → DiskTurn → Type 0
IsDiskTurnOf script r d = (p : Past) → p.script ≡ script → IsOnWay p r
    → d ≡ disk_turn_at p r.machine.state.turn

-- these are the completions of the turns from a run's on and before another
abbrev pub AreCompletionsFrom : ℕ → ScriptData → KeptRun → List DiskCompletion → Type 0
AreCompletionsFrom to script r completions = (p : Past) → p.script ≡ script → IsOnWay p r
    → completions ≡ completions_in_turns p r.machine.state.turn (to - r.machine.state.turn)

-- the last of these turns in which the disk did nothing
abbrev pub IsLastIdleFrom : ℕ → ScriptData → KeptRun → Option ℕ → Type 0
IsLastIdleFrom to script r idle = (p : Past) → p.script ≡ script → IsOnWay p r
    → idle ≡ last_of_turns (is_disk_idle p) r.machine.state.turn (to - r.machine.state.turn)
