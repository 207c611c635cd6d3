-- What some turns have in them, with each cycle of the processor on the bus [P].
use Rattle.std.specs.Prelude.{ℕ, zero, suc, ◌≡◌, ◌+◌, ◌-◌, ◌++◌, Bool, true, false, List, [], ◌∷◌}
use Rattle.std.specs.Prelude.{drop, length, map, nat_le, None, Option, Some, option_to_list}
use Rattle.std.specs.Prelude.{if◌then◌else◌}
use Rattle.pdp_store.specs.CycleLogs.{KeptCycles}
use Rattle.pdp_store.specs.declared.cycle_log.BusCycle.{BusCycle}
use Rattle.pdp_unibus.specs.declared.event.Event.{Event}
use Rattle.pdp_operand.specs.Phases.World.{World}
use Rattle.pdp_cpu.specs.Handbook.MachineState.{MachineState}
use Rattle.pdp_cpu.specs.Handbook.Regs.{regs_of}
use Rattle.pdp_cpu.specs.Handbook.Turn.{printed_in, punched_in, turn_act}
use Rattle.pdp_script.specs.Entries.{events_at}
use Rattle.pdp_script.specs.Script.{ScriptData}
use Rattle.pdp_replay.specs.Past.{Past}
use Rattle.pdp_replay.specs.Run.States.{at, state_at}
use Rattle.pdp_replay.specs.Ask.DiskCompletions.{disk_turn_at, has_completion}
use Rattle.pdp_replay.specs.Ask.Reads.{IsLoggedState, log_of_turn}
use Rattle.pdp_replay.specs.declared.ask.accesses.ToldTurn.{ToldTurn}
use Rattle.pdp_replay.specs.declared.ask.accesses.TurnDetail.{TurnDetail}
use Rattle.pdp_replay.specs.declared.ask.accesses.TurnDetail.TheVariants as detail
use Rattle.pdp_replay.specs.declared.ask.accesses.TurnHead.{TurnHead}
use Rattle.pdp_replay.specs.declared.ask.disk_completions.DiskTurn.{DiskTurn}
use Rattle.pdp_replay.specs.declared.ask.text_part.TextKind.TheVariants.{Printed, Punched}

-- the most cycles that are listed
abbrev pub most_cycles : ℕ
most_cycles = 256

-- an empty log of all cycles, with room for one more than are listed
abbrev pub log_of_all : KeptCycles
log_of_all = record { reads_of = None; room = most_cycles + 1; told = [] }

-- the cycles of the processor in turn t of the run of this past, in their order
abbrev pub cycles_in : Past → ℕ → List BusCycle
cycles_in p t = (log_of_turn log_of_all (events_at p.script.entries t) (at p t)).told

-- turn t with these events begins: the mode and PC before it, and its act
abbrev pub turn_head : ℕ → List Event → World → TurnHead
turn_head t events w = record {
  turn = t;
  mode = w.bus.io_page.status.mode;
  pc = (regs_of w).pc;
  act = turn_act t events w;
}

abbrev pub completion_detail_if : Bool → DiskTurn → Option TurnDetail
completion_detail_if true d = Some (detail.Completion d)
completion_detail_if false d = None

-- what a turn has in it, in its order: its events, the bytes that come out, the function of the
-- disk that is completed, and then the cycles of its act
abbrev pub details_of : TurnHead → List Event → List ℕ → List ℕ → DiskTurn → List BusCycle
    → List TurnDetail
details_of head events printed punched disk cycles =
    detail.Head head ∷ map detail.Event events ++ map (detail.Output Printed) printed
    ++ map (detail.Output Punched) punched
    ++ option_to_list (completion_detail_if (has_completion disk) disk)
    ++ map detail.Cycle cycles

-- the details of turn t of the run of this past
abbrev pub details_in : Past → ℕ → List TurnDetail
details_in p t = let events = events_at p.script.entries t in
    details_of (turn_head t events (state_at p t)) events (printed_in t events (state_at p t))
    (punched_in t events (state_at p t)) (disk_turn_at p t) (cycles_in p t)

-- those of n turns from this one on, in their order
unfoldable pub details_in_turns : Past → ℕ → ℕ → List TurnDetail
details_in_turns p first zero = []
details_in_turns p first (suc n) = details_in_turns p first n ++ details_in p (first + n)

-- how many of n turns from this one on, whole ones, have together at most so many cycles
unfoldable pub turns_within : ℕ → Past → ℕ → ℕ → ℕ
turns_within room p first zero = 0
turns_within room p first (suc n) = if nat_le (length (cycles_in p first)) room
    then suc (turns_within (room - length (cycles_in p first)) p (first + 1) n) else 0

-- the turn before which the turns are listed, of those from one on and before another
abbrev pub accesses_end : Past → ℕ → ℕ → ℕ
accesses_end p first to = first + turns_within most_cycles p first (to - first)

-- these are the details of the turns from a machine's on and before another
abbrev pub AreDetailsFrom : ℕ → ScriptData → MachineState → List TurnDetail → Type 0
AreDetailsFrom to script m details = (p : Past) → p.script ≡ script → IsLoggedState p m
    → details ≡ details_in_turns p m.turn (to - m.turn)

-- this is the turn before which those from a machine's on and before another are listed
abbrev pub EndsAccesses : ℕ → ScriptData → MachineState → ℕ → Type 0
EndsAccesses to script m reached = (p : Past) → p.script ≡ script → IsLoggedState p m
    → reached ≡ accesses_end p m.turn to

-- the details of a turn with these events that was told, of the machine as it is after it
abbrev pub details_told : List Event → MachineState → ToldTurn → List TurnDetail
details_told events after told =
    details_of told.head events (drop told.printed after.text) (drop told.punched after.punched)
    told.disk after.world.bus.log.told

-- this tells the turn that a machine ran
abbrev pub IsToldTurn : ScriptData → MachineState → MachineState → ToldTurn → Type 0
IsToldTurn script before after told = (p : Past) → p.script ≡ script → IsLoggedState p before
    → details_told (events_at script.entries before.turn) after told ≡ details_in p before.turn

-- the log has the cycles of the turn that a machine ran
abbrev pub HasCyclesOf : ScriptData → MachineState → MachineState → Type 0
HasCyclesOf script before after = (p : Past) → p.script ≡ script → IsLoggedState p before
    → after.world.bus.log.told ≡ cycles_in p before.turn
