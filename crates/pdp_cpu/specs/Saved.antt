-- What is saved of a machine.
use Rattle.std.specs.Prelude.{ℕ, ◌≡◌, ◌≤◌, ◌+◌, ◌-◌, List, length, take}
use Rattle.pdp_store.specs.declared.part.WordAt.{WordAt}
use Rattle.pdp_operand.specs.Phases.World.{World, world}
use Rattle.pdp_operand.specs.declared.processor.Processor.{Processor}
use Rattle.pdp_unibus.specs.SavedBusData.{SavedBusData, HasSizesOf, saved_bus, bus_of}
use Rattle.pdp_unibus.specs.SavedBusData.{saved_bus_with_delays as bus_with_delays}
use Rattle.pdp_unibus.specs.SavedBusData.{SavedBusHasWord as BusHasWord}
use Rattle.pdp_unibus.specs.SavedBusData.{saved_bus_with_word as bus_with_word}
use Rattle.pdp_unibus.specs.SavedBusData.{saved_bus_with_stamps as bus_with_stamps}
use Rattle.pdp_unibus.specs.SavedBusData.{saved_bus_over as bus_over}
use Rattle.pdp_io_page.specs.declared.delays.Delays.{Delays}
use Rattle.pdp_cpu.specs.KeptTexts.{without_turns}
use Rattle.pdp_cpu.specs.Handbook.MachineState.{MachineState, MachineWithTexts}

-- the turns that the machine has run, its processor, its saved bus, and how many bytes were printed
-- and punched
pub record SavedMachineData : Type 0 where
  pub turn : ℕ
  pub processor : Processor
  pub bus : SavedBusData
  pub text_length : ℕ
  pub punched_length : ℕ

abbrev pub saved_machine : MachineState → SavedMachineData
saved_machine m = record {
  turn = m.turn;
  processor = m.world.processor;
  bus = saved_bus m.world.bus;
  text_length = length m.text;
  punched_length = length m.punched;
}

-- the world of this saved machine, with this tape in the reader
abbrev pub world_of : List ℕ → SavedMachineData → World
world_of tape c = world c.processor (bus_of tape c.bus)

-- the state of a saved machine on this one: its tape is the machine's, and its texts are the first
-- bytes that the machine keeps
abbrev pub state_on : MachineWithTexts → SavedMachineData → MachineState
state_on m c = record {
  turn = c.turn;
  world = world_of m.state.world.bus.tape c;
  text = without_turns (take c.text_length m.kept_text);
  punched = without_turns (take c.punched_length m.kept_punched);
}

-- a machine can be made this saved one: it has a bus of the same sizes, and keeps as many bytes
pub record CanHold (m : MachineWithTexts) (c : SavedMachineData) : Type 0 where
  pub sizes : HasSizesOf c.bus m.state.world.bus
  pub text : c.text_length ≤ length m.kept_text
  pub punched : c.punched_length ≤ length m.kept_punched

-- two saved machines are of the same turn and equal, except for the last stamps of core, of which
-- there are as many, and for how many bytes were printed and punched
pub record SavedMeet (here there : SavedMachineData) : Type 0 where
  pub turn : here.turn ≡ there.turn
  pub processor : here.processor ≡ there.processor
  pub bus : here.bus ≡ bus_with_stamps here.bus.stamps there.bus
  pub size : length here.bus.stamps ≡ length there.bus.stamps

-- a later saved machine `s` of the run of `there`, as one of the run of `here`, where both meet in
-- turn c: its stamps of turn c and of later turns over those of `here`, and as many bytes more than
-- `here` as `s` has more than `there`
abbrev pub saved_over : ℕ → SavedMachineData → SavedMachineData → SavedMachineData
    → SavedMachineData
saved_over c here there s = record s {
  bus = bus_over c here.bus.stamps s.bus;
  text_length = here.text_length + (s.text_length - there.text_length);
  punched_length = here.punched_length + (s.punched_length - there.punched_length);
}

-- the saved machine with other delays
abbrev pub saved_machine_with_delays : Delays → SavedMachineData → SavedMachineData
saved_machine_with_delays delays c = record c { bus = bus_with_delays delays c.bus }

-- there is such a word, and the saved machine with this value in it
unfoldable pub HasWord : WordAt → SavedMachineData → Type 0
HasWord at c = BusHasWord at c.bus

unfoldable pub saved_machine_with_word : WordAt → ℕ → SavedMachineData → SavedMachineData
saved_machine_with_word at value c = record c { bus = bus_with_word at value c.bus }

-- the machine's state if only so many of its printed and punched bytes are left
abbrev pub state_cut : ℕ → ℕ → MachineState → MachineState
state_cut printed punched m = record m {
  text = take printed m.text;
  punched = take punched
      m.punched;
}
