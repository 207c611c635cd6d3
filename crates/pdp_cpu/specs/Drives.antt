-- The drives of a machine, exchanged for others.
use Rattle.std.specs.Prelude.{ℕ, List}
use Rattle.pdp_operand.specs.Phases.World.{world}
use Rattle.pdp_store.specs.FirstTouches.{first_touches_of}
use Rattle.pdp_unibus.specs.Handbook.Drives.{with_drives}
use Rattle.pdp_cpu.specs.Handbook.MachineState.{MachineState, MachineWithTexts}

-- the state with drives of these words
abbrev pub state_with_drives : List (List ℕ) → MachineState → MachineState
state_with_drives drives m = record m {
  world = world m.world.processor
      (with_drives m.world.bus drives);
}

-- the machine in that state, with these first touches of the pages of its drives
abbrev pub machine_with_drives : List (List ℕ) → List (List ℕ) → MachineWithTexts
    → MachineWithTexts
machine_with_drives drives first_touches m = record m {
  state = state_with_drives drives m.state;
  first_touches = first_touches_of m.first_touches.core first_touches;
}
