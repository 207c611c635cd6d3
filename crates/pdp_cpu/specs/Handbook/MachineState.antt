-- A machine as a contract sees it; its state as of power-up is [P].
use Rattle.std.specs.Prelude.{ℕ, ◌+◌, ◌<◌, ◌++◌, List, [], Option, length}
use Rattle.pdp_store.specs.CycleLogs.{KeptCycles}
use Rattle.pdp_store.specs.declared.Stamp.{Stamp}
use Rattle.pdp_unibus.specs.SavedBusData.{bus_with_tape}
use Rattle.pdp_store.specs.FirstTouches.{FirstTouches, no_first_touches}
use Rattle.pdp_unibus.specs.Handbook.BusWorld.{bus_at_power_up, with_first_touches, with_log}
use Rattle.pdp_unibus.specs.Handbook.BusWorld.{with_stamps}
use Rattle.pdp_io_page.specs.declared.delays.Delays.{Delays}
use Rattle.pdp_unibus.specs.declared.event.Event.{Event}
use Rattle.pdp_operand.specs.Handbook.Processor.{processor_at_power_up}
use Rattle.pdp_operand.specs.Phases.World.{World, world}
use Rattle.pdp_cpu.specs.KeptTexts.{kept_over}
use Rattle.pdp_cpu.specs.Handbook.Turn.{beginning, one_turn, printed_in, punched_in}
use Rattle.pdp_cpu.specs.declared.kept_text.KeptByte.{KeptByte}

-- the turns that it has run, its world, and the bytes that were printed and punched in them, in
-- their order
pub record MachineState : Type 0 where
  pub turn : ℕ
  pub world : World
  pub text : List ℕ
  pub punched : List ℕ

-- a machine with the printed and the punched bytes that it keeps, of which the first are those of
-- its state, and for how many more of each it has room
pub record MachineWithTexts : Type 0 where
  pub state : MachineState
  pub kept_text : List KeptByte
  pub kept_punched : List KeptByte
  pub text_room : ℕ
  pub punched_room : ℕ
  -- the first touches of the pages of core and of the drives; the world of the state has none
  pub first_touches : FirstTouches

-- a world with these first touches, and a world without any
abbrev pub world_with_first_touches : World → FirstTouches → World
world_with_first_touches w first_touches =
    world w.processor (with_first_touches w.bus first_touches)

abbrev pub without_first_touches : World → World
without_first_touches w = world_with_first_touches w no_first_touches

-- a world with these last stamps of core
abbrev pub world_with_stamps : World → List (Option Stamp) → World
world_with_stamps w stamps = world w.processor (with_stamps w.bus stamps)

-- a world with this log, and a state with it in its world
abbrev pub world_with_log : World → KeptCycles → World
world_with_log w log = world w.processor (with_log w.bus log)

abbrev pub state_with_log : KeptCycles → MachineState → MachineState
state_with_log log m = record m { world = world_with_log m.world log }

-- a machine with this log
abbrev pub machine_with_log : KeptCycles → MachineWithTexts → MachineWithTexts
machine_with_log log m = record m { state = state_with_log log m.state }

-- the world of a machine with its first touches, and the machine with these in the world of its
-- state
abbrev pub machine_world : MachineWithTexts → World
machine_world m = world_with_first_touches m.state.world m.first_touches

abbrev pub touched_machine : MachineWithTexts → MachineWithTexts
touched_machine m = record m { state = record m.state { world = machine_world m } }

-- the world as of power-up
abbrev pub world_at_power_up : ℕ → List ℕ → List (Option Stamp) → List (List ℕ) → List ℕ → Delays
    → World
world_at_power_up start words stamps drives tape delays =
    world (processor_at_power_up start) (bus_at_power_up words stamps drives tape delays)

-- the machine as of power-up: no byte was printed or punched [7.8]
abbrev pub machine_at_power_up : ℕ → List ℕ → List (Option Stamp) → List (List ℕ) → List ℕ → Delays
    → MachineState
machine_at_power_up start words stamps drives tape delays = record {
  turn = 0;
  world = world_at_power_up start words stamps drives tape delays;
  text = [];
  punched = [];
}

-- the machine has the room that a turn may need, for a printed and a punched byte
abbrev pub IsReady : MachineWithTexts → Type 0
IsReady m = (0 < m.text_room) × (0 < m.punched_room)

-- the machine when its next turn has begun, with these events
abbrev pub with_begun : List Event → MachineState → MachineState
with_begun events m = record m {
  world = beginning m.turn events m.world;
  text = m.text ++ printed_in m.turn events m.world;
  punched = m.punched ++ punched_in m.turn events m.world;
}

-- the machine after its next turn, with these events [8.3]
abbrev pub after_turn : List Event → MachineState → MachineState
after_turn events m = record {
  turn = m.turn + 1;
  world = one_turn m.turn events m.world;
  text = m.text ++ printed_in m.turn events m.world;
  punched = m.punched ++ punched_in m.turn events m.world;
}

-- the printed and the punched bytes that are kept after the next turn, with these events
abbrev pub printed_kept : List Event → MachineWithTexts → List KeptByte
printed_kept events m =
    kept_over m.state.turn (printed_in m.state.turn events m.state.world)
    (length m.state.text) m.kept_text

abbrev pub punched_kept : List Event → MachineWithTexts → List KeptByte
punched_kept events m =
    kept_over m.state.turn (punched_in m.state.turn events m.state.world)
    (length m.state.punched) m.kept_punched

-- the state with another tape in the reader
abbrev pub state_with_tape : List ℕ → MachineState → MachineState
state_with_tape tape m = record m {
  world = world m.world.processor (bus_with_tape m.world.bus tape);
}
