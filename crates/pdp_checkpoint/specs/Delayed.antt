-- The checkpoint of turn 0 with other delays of the devices.
use Rattle.std.specs.Prelude.{[], nat_le, map}
use Rattle.std.specs.List.{filter}
use Rattle.pdp_io_page.specs.declared.delays.Delays.{Delays}
use Rattle.pdp_cpu.specs.Saved.{saved_machine_with_delays}
use Rattle.pdp_checkpoint.specs.declared.checkpoint.Checkpoint.{Checkpoint}
use Rattle.pdp_checkpoint.specs.Ladder.{LadderData}

-- a state with these delays
abbrev pub checkpoint_with_delays : Delays → Checkpoint → Checkpoint
checkpoint_with_delays delays c = record c { saved = saved_machine_with_delays delays c.saved }

-- the states of turn 0 alone, each with these delays, and none between; and no former run
abbrev pub ladder_with_delays : Delays → LadderData → LadderData
ladder_with_delays delays l = record l {
  kept = map (checkpoint_with_delays delays) (filter
      (λ c. nat_le c.turn 0) l.kept);
  near = [];
  formers = [];
}
