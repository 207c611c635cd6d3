-- The cycles that a log tells of a turn, and the accesses of its trace. No rule of the handbook is
-- here.
use Rattle.std.specs.Prelude.{ℕ, ◌≡◌, ◌+◌, ◌/◌, ◌<◌, ◌++◌, ◌↔◌, true, List, [], ◌∷◌, length, nat_lt}
use Rattle.std.specs.Prelude.{not, take, if◌then◌else◌}
use Rattle.std.specs.List.{Contains}
use Rattle.pdp_rk11.specs.Handbook.Geometry.{most_words_asked}
use Rattle.pdp_rk11.specs.Trace.{read_by_disk}
use Rattle.pdp_store.specs.CycleLogs.{KeptCycles, is_read, log_with}
use Rattle.pdp_store.specs.TracedAccess.{TracedAccess}
use Rattle.pdp_store.specs.declared.Agent.TheVariants.{Cpu}
use Rattle.pdp_store.specs.declared.cycle_log.BusCycle.{BusCycle}
use Rattle.pdp_store.specs.declared.part.Part.TheVariants as part
use Rattle.pdp_unibus.specs.Trace.{begun_touches}
use Rattle.pdp_unibus.specs.declared.event.Event.{Event}
use Rattle.pdp_operand.specs.Phases.World.{World}
use Rattle.pdp_cpu.specs.Handbook.MachineState.{MachineState, world_with_log}
use Rattle.pdp_cpu.specs.Handbook.Turn.{one_turn, turn_trace}
use Rattle.pdp_script.specs.Entries.{events_at}
use Rattle.pdp_replay.specs.Ask.Accesses.{cycles_in, most_cycles}
use Rattle.pdp_replay.specs.Ask.DiskCompletions.{disk_turn}
use Rattle.pdp_replay.specs.Ask.Reads.{is_read_by_disk}
use Rattle.pdp_replay.specs.Past.{Past}
use Rattle.pdp_replay.specs.Run.States.{state_at}

-- a cycle of the processor in this turn, as an access to a core of so many words; none if its
-- address isn't in core
abbrev pub core_access : ℕ → ℕ → BusCycle → List TracedAccess
core_access turn words cycle = if nat_lt (cycle.address / 2) words then record {
  turn = turn;
  agent = Cpu;
  writes = not (is_read cycle.kind);
  part = part.Core;
  word = cycle.address / 2;
} ∷ [] else []

-- the same of cycles, in their order
unfoldable pub core_accesses : ℕ → ℕ → List BusCycle → List TracedAccess
core_accesses turn words [] = []
core_accesses turn words (cycle ∷ cycles) =
    core_access turn words cycle ++ core_accesses turn words cycles

-- a log after these cycles, in their order
unfoldable pub log_after_all : List BusCycle → KeptCycles → KeptCycles
log_after_all [] log = log
log_after_all (cycle ∷ cycles) log = log_after_all cycles (log_with cycle log)

-- turn t with these events in a world: whatever log is kept, it is told of these cycles in their
-- order, and nothing else differs. Those in core are all accesses of the turn's trace after those
-- of the disk, with which the turn begins.
pub record IsTurnLogged (t : ℕ) (events : List Event) (w : World) : Type 0 where
  pub cycles : List BusCycle
  pub world_is : (log : KeptCycles) → one_turn t events (world_with_log w log)
      ≡ world_with_log (one_turn t events w) (log_after_all cycles log)
  pub trace : turn_trace t events w
      ≡ begun_touches t events w.bus ++ core_accesses t (length w.bus.core) cycles

abbrev pub TurnsAreLogged : Type 0
TurnsAreLogged = (t : ℕ) (events : List Event) (w : World) → IsTurnLogged t events w

-- the cycles that are listed of turn t of a run are the first 257 of its cycles
abbrev pub CyclesAreListed : Type 0
CyclesAreListed =
    (p : Past) (t : ℕ) (logged : IsTurnLogged t (events_at p.script.entries t) (state_at p t))
    → cycles_in p t ≡ take (most_cycles + 1) logged.cycles

-- if RKWC has 16 bits, the disk is said to read a word of core in a machine's next turn exactly if
-- the trace of the turn has that read
abbrev pub DiskReadsAreTraced : Type 0
DiskReadsAreTraced =
    (events : List Event) (m : MachineState) (number : ℕ)
    → m.world.bus.io_page.disk.word_count < most_words_asked
    → (is_read_by_disk number (disk_turn events m) ≡ true)
    ↔ Contains (turn_trace m.turn events m.world) (read_by_disk m.turn part.Core number)
