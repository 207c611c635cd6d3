-- The states of a run, its texts and its trace [P].
use Rattle.std.specs.Prelude.{ℕ, ◌≡◌, zero, suc, ◌+◌, ◌++◌, List, [], length, take}
use Rattle.std.specs.Prelude.{None, replicate}
use Rattle.pdp_store.specs.Parts.{words_of_drive}
use Rattle.pdp_store.specs.TracedAccess.{TracedAccess}
use Rattle.pdp_operand.specs.Phases.World.{World}
use Rattle.pdp_cpu.specs.Handbook.Turn.{one_turn, printed_in, punched_in, turn_trace}
use Rattle.pdp_cpu.specs.Handbook.MachineState.{MachineState, world_at_power_up}
use Rattle.pdp_script.specs.Entries.{events_at}
use Rattle.pdp_script.specs.Script.{ScriptData}
use Rattle.pdp_replay.specs.Past.Setup.{SetupData, core_size}
use Rattle.pdp_replay.specs.Past.FirstWords.{core_words, drives_words}
use Rattle.pdp_replay.specs.Past.{Past}

-- power-up: core and the drives with the patches, the tape in the reader, and the delays [7.5]
-- [7.6] [7.8]
unfoldable pub first_world : SetupData → World
first_world s = world_at_power_up s.start (core_words s) (replicate (core_size s) None)
    (drives_words s) s.tape s.delays

-- the state before turn n: that of power-up, taken through the turns 0 to n - 1, each with its
-- events of the script [8.3]
unfoldable pub state_at : Past → ℕ → World
state_at p zero = first_world p.setup
state_at p (suc n) = one_turn n (events_at p.script.entries n) (state_at p n)

-- the bytes that were printed on the console before turn n, in their order: those of the turns 0 to
-- n - 1 [8.6]
unfoldable pub text_at : Past → ℕ → List ℕ
text_at p zero = []
text_at p (suc n) = text_at p n ++ printed_in n (events_at p.script.entries n) (state_at p n)

-- and those that were punched [8.6]
unfoldable pub punched_at : Past → ℕ → List ℕ
punched_at p zero = []
punched_at p (suc n) = punched_at p n ++ punched_in n (events_at p.script.entries n) (state_at p n)

-- all accesses to words in the turns before turn n, in their order: those of the turns 0 to n - 1
unfoldable pub trace_at : Past → ℕ → List TracedAccess
trace_at p zero = []
trace_at p (suc n) = trace_at p n ++ turn_trace n (events_at p.script.entries n) (state_at p n)

-- the words of a drive
abbrev pub disk_of : World → ℕ → List ℕ
disk_of w drive = words_of_drive w.bus.drives drive

-- the machine as of power-up: no byte was printed or punched
abbrev pub first_state : SetupData → MachineState
first_state s = record { turn = 0; world = first_world s; text = []; punched = [] }

-- the machine before turn n
abbrev pub at : Past → ℕ → MachineState
at p n = record { turn = n; world = state_at p n; text = text_at p n; punched = punched_at p n }

-- the bytes of one list begin those of another
abbrev pub Begins : List ℕ → List ℕ → Type 0
Begins first whole = first ≡ take (length first) whole

-- nothing that was printed is ever taken back, and nothing that was punched
abbrev pub TextOnlyGrows : Type 0
TextOnlyGrows = (p : Past) (n k : ℕ) → Begins (text_at p n) (text_at p (n + k))

abbrev pub PunchedOnlyGrows : Type 0
PunchedOnlyGrows = (p : Past) (n k : ℕ) → Begins (punched_at p n) (punched_at p (n + k))

-- this holds of the machine that a run with this script reaches, whatever past brought it to where
-- the run begins
abbrev pub RunsTo : ScriptData → ℕ → ℕ → MachineState → (MachineState → Type 0) → Type 0
RunsTo script from to machine There = (p : Past) → p.script ≡ script → machine ≡ at p from → There
    (at p to)
