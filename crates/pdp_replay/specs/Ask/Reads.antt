-- The reads of a word of core in some turns [P].
use Rattle.std.specs.Prelude.{ℕ, ◌≡◌, ◌+◌, ◌-◌, ◌*◌, ◌≤◌, ◌&&◌, Bool, true, false, List, [], Option}
use Rattle.std.specs.Prelude.{None, Some, min, nat_le, nat_lt, option_map, slice_get, slice_index}
use Rattle.std.specs.Prelude.{if◌then◌else◌}
use Rattle.pdp_store.specs.CycleLogs.{KeptCycles, without_cycles}
use Rattle.pdp_store.specs.declared.Agent.TheVariants.{Cpu, Disk}
use Rattle.pdp_store.specs.declared.cycle_log.BusCycle.{BusCycle}
use Rattle.pdp_rk11.specs.Handbook.Completion.{core_word_of_bus_address}
use Rattle.pdp_rk11.specs.WordsDone.{words_counted}
use Rattle.pdp_rk11.specs.declared.function.Function.{Function}
use Rattle.pdp_rk11.specs.declared.function.Function.TheVariants.{Write, WriteCheck}
use Rattle.pdp_unibus.specs.declared.event.Event.{Event}
use Rattle.pdp_cpu.specs.Handbook.MachineState.{MachineState, after_turn, state_with_log}
use Rattle.pdp_script.specs.Entries.{events_at}
use Rattle.pdp_script.specs.Script.{ScriptData}
use Rattle.pdp_replay.specs.Past.{Past}
use Rattle.pdp_replay.specs.Run.KeptRuns.{MetersTurns}
use Rattle.pdp_replay.specs.Run.States.{at, state_at}
use Rattle.pdp_replay.specs.Ask.DiskCompletions.{disk_turn_at, has_completion}
use Rattle.pdp_replay.specs.Ask.Listed.{in_turns, list_end}
use Rattle.pdp_replay.specs.declared.ask.disk_completions.DiskTurn.{DiskTurn}
use Rattle.pdp_replay.specs.declared.ask.reads.WordRead.{WordRead}

-- the log of the next turn of a machine with these events, put into this log
abbrev pub log_of_turn : KeptCycles → List Event → MachineState → KeptCycles
log_of_turn log events m = (after_turn events (state_with_log log m)).world.bus.log

-- an empty log of the first read at this physical byte address
abbrev pub log_of_first_read : ℕ → KeptCycles
log_of_first_read address = record { reads_of = Some address; room = 1; told = [] }

-- the first read of the processor at this physical byte address in turn t of the run of this past
abbrev pub first_read_at : Past → ℕ → ℕ → Option BusCycle
first_read_at p address t = slice_get
    (log_of_turn (log_of_first_read address) (events_at p.script.entries t) (at p t)).told 0

-- a read of the processor in turn t
abbrev pub processor_read : ℕ → Option BusCycle → Option WordRead
processor_read t (Some cycle) =
    option_map (λ word. record { turn = t; agent = Cpu; word = word }) cycle.value
processor_read t None = None

-- a write reads core, and so does a write check [6.72]
abbrev pub reads_core : Function → Bool
reads_core Write = true
reads_core WriteCheck = true
reads_core _ = false

-- the words of core that a function moved or compared: as many as were done from the first on, or
-- that one alone if the address isn't incremented
abbrev pub words_spanned : DiskTurn → ℕ
words_spanned d = if d.before.no_increment
    then min (words_counted d.before d.after) 1 else words_counted d.before d.after

abbrev pub is_spanned : ℕ → DiskTurn → Bool
is_spanned number d =
    nat_le (core_word_of_bus_address d.before.address) number
    && nat_lt number (core_word_of_bus_address d.before.address + words_spanned d)

-- the disk read the core word of this number, as the turn began
abbrev pub is_read_by_disk : ℕ → DiskTurn → Bool
is_read_by_disk number d =
    has_completion d && (reads_core d.before.function && is_spanned number d)

-- the read of the disk, with the word before the turn, or the first one of the processor
abbrev pub disk_or_processor_read : Bool → ℕ → ℕ → Option BusCycle → Option WordRead
disk_or_processor_read true t word cycle = Some (record { turn = t; agent = Disk; word = word })
disk_or_processor_read false t word cycle = processor_read t cycle

-- the first read in turn t of the core word of this number: as the turn begins by the disk, or in
-- its act by the processor
abbrev pub read_in : Past → ℕ → ℕ → Option WordRead
read_in p number t =
    disk_or_processor_read (is_read_by_disk number (disk_turn_at p t)) t
    (slice_index (state_at p t).bus.core number) (first_read_at p (number * 2) t)

-- those of n turns from this one on, in their order
abbrev pub reads_in_turns : Past → ℕ → ℕ → ℕ → List WordRead
reads_in_turns p number first n = in_turns (read_in p number) first n

-- the turn that a search for reads before turn `to` ends at: the one after the 256th read that it
-- lists, or `to` if it lists fewer
abbrev pub reads_end : List WordRead → ℕ → ℕ
reads_end reads to = list_end (λ read. read.turn) reads to

-- the machine is in a state of the run of this past, but for its log
abbrev pub IsLoggedState : Past → MachineState → Type 0
IsLoggedState p m = m ≡ state_with_log m.world.bus.log (at p m.turn)

-- a logging machine went on with this script
abbrev pub GoesOnLogging : ScriptData → MachineState → MachineState → Type 0
GoesOnLogging script before after = (p : Past) → p.script ≡ script → IsLoggedState p before
    → IsLoggedState p after

-- A machine that keeps a log was run with this script from one state to another, of turn `to` at
-- the latest, and a meter from one count to another: it counted each turn that was run. The log
-- keeps what this one does.
pub record RunsLogging (to : ℕ) (script : ScriptData) (log : KeptCycles)
    (before after : MachineState) (metered counted : ℕ) : Type 0 where
  pub way : GoesOnLogging script before after
  pub least : before.turn ≤ after.turn
  pub most : after.turn ≤ to
  pub ran : MetersTurns (after.turn - before.turn) metered counted
  pub grows : metered ≤ counted
  pub log_is : without_cycles after.world.bus.log ≡ log

-- these are the reads of the turns from a machine's on and before another
abbrev pub AreReadsFrom : ℕ → ScriptData → ℕ → MachineState → List WordRead → Type 0
AreReadsFrom to script number m reads = (p : Past) → p.script ≡ script → IsLoggedState p m
    → reads ≡ reads_in_turns p number m.turn (to - m.turn)
