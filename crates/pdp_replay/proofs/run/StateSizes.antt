-- What no turn of a run changes: its tape, and how large core, its stamps and its drive are.
use Rattle.std.proofs.Common.{◌≡◌, ◌∙◌, ℕ, zero, suc, refl, sym}
use Rattle.pdp_cpu.proofs.TurnLaws.{turn_keeps_tape}
use Rattle.pdp_cpu.specs.Handbook.MachineState.{MachineWithTexts}
use Rattle.pdp_cpu.specs.Saved.{SavedMachineData, saved_machine}
use Rattle.pdp_unibus.specs.SavedBusData.{HasSizesOf}
use Rattle.pdp_script.specs.Entries.{events_at}
use Rattle.pdp_replay.specs.Run.Checkpoints.{IsBuiltFrom}
use Rattle.pdp_replay.specs.Past.{Past}
use Rattle.pdp_replay.specs.Run.States.{at, first_world, state_at}
use Rattle.pdp_replay.proofs.run.CoreSizes.{core_keeps_size}
use Rattle.pdp_replay.proofs.run.DriveSizes.{drives_keep_sizes}
use Rattle.pdp_replay.proofs.ask.LastWrites.{stamps_keep_size}

pub tape_stays : (p : Past) (n : ℕ) → (state_at p n).bus.tape ≡ p.setup.tape
unfolding state_at first_world
tape_stays p zero = refl
tape_stays p (suc n) = turn_keeps_tape n (events_at p.script.entries n) (state_at p n) ∙ tape_stays p n

-- a machine in a state of a run has what no turn of it changes
pub at_is_built : (p : Past) (n : ℕ) (m : MachineWithTexts) → m.state ≡ at p n → IsBuiltFrom p.setup m
at_is_built p n m here = record {
  tape = rw here (tape_stays p n);
  core = rw here (core_keeps_size p n);
  stamps = rw here (stamps_keep_size p n);
  drives = rw here (drives_keep_sizes p n);
}

-- and what is saved of a state fits it
pub saved_machine_fits : (p : Past) (n : ℕ) (m : MachineWithTexts) (saved : SavedMachineData) → saved ≡ saved_machine (at p n) → IsBuiltFrom p.setup m
    → HasSizesOf saved.bus m.state.world.bus
saved_machine_fits p n m saved is built = record {
  core = rw is (core_keeps_size p n) ∙ sym built.core;
  stamps = rw is (stamps_keep_size p n) ∙ sym built.stamps;
  drives = rw is (drives_keep_sizes p n) ∙ sym built.drives;
}
