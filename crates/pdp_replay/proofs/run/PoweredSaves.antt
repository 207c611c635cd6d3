-- What an edit of the delays or of the tape makes of the saved state at turn 0: the delays, or
-- nothing.
use Rattle.std.proofs.Common.{◌≡◌, ℕ, List, ap, refl}
use Rattle.pdp_io_page.specs.declared.delays.Delays.{Delays}
use Rattle.pdp_cpu.specs.Saved.{SavedMachineData, saved_machine_with_delays, saved_machine}
use Rattle.pdp_replay.specs.Past.{Past}
use Rattle.pdp_replay.specs.Past.Setup.{SetupData}
use Rattle.pdp_replay.specs.Past.FirstWords.{core_words, disk_words, drives_words}
use Rattle.pdp_replay.specs.Run.States.{at, first_world, first_state}
use Rattle.pdp_replay.proofs.run.States.{at_first}

-- what is saved of a machine as of power-up
abbrev pub first_saved_machine : SetupData → SavedMachineData
first_saved_machine s = saved_machine (first_state s)

pub first_is : (p : Past) → saved_machine (at p 0) ≡ first_saved_machine p.setup
first_is p = ap saved_machine (at_first p)

pub first_of_delays : (s : SetupData) (delays : Delays) → first_saved_machine (record s { delays = delays }) ≡ saved_machine_with_delays delays (first_saved_machine s)
unfolding first_world core_words drives_words disk_words
first_of_delays s delays = refl

-- the tape isn't in what is saved
pub first_of_tape : (s : SetupData) (tape : List ℕ) → first_saved_machine (record s { tape = tape }) ≡ first_saved_machine s
unfolding first_world core_words drives_words disk_words
first_of_tape s tape = refl
