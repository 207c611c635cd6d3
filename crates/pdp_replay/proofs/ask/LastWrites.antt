-- The last stamps of core are those of the last writes in the trace.
use Rattle.std.proofs.Common.{◌≡◌, ◌∙◌, ℕ, zero, suc, ◌<◌, None, refl, ap, get_or, length, slice_index, slice_index_or, replicate}
use Rattle.std.proofs.lemmas.List.{length-replicate}
use Rattle.pdp_store.proofs.Traces.{last_write-append}
use Rattle.pdp_store.specs.TracedAccess.{last_write}
use Rattle.pdp_cpu.proofs.TurnLaws.{turn_keeps_stamps, turn_stamps}
use Rattle.pdp_cpu.specs.Handbook.MachineState.{MachineState}
use Rattle.pdp_cpu.specs.Handbook.Turn.{turn_trace}
use Rattle.pdp_script.specs.Entries.{events_at}
use Rattle.pdp_cpu.specs.Saved.{SavedMachineData, saved_machine}
use Rattle.pdp_replay.specs.Ask.LastWrites.{AreLastWrites, StampsOfCheckpointsAreLastWrites, StampsOfStatesAreLastWrites, last_write_of, last_write_at}
use Rattle.pdp_replay.specs.Past.{Past}
use Rattle.pdp_replay.specs.Past.Setup.{core_size}
use Rattle.pdp_replay.specs.Run.States.{at, first_world, state_at, trace_at}
use Rattle.pdp_replay.proofs.run.CoreSizes.{core_keeps_size}

pub stamps_keep_size : (p : Past) (n : ℕ) → length (state_at p n).bus.stamps ≡ core_size p.setup
unfolding state_at first_world
stamps_keep_size p zero = length-replicate (core_size p.setup) None
stamps_keep_size p (suc n) = turn_keeps_stamps n (events_at p.script.entries n) (state_at p n) ∙ stamps_keep_size p n

all_the_same : {X : Type 0} (size k : ℕ) (x : X) → slice_index_or (replicate size x) k x ≡ x
all_the_same zero k x = refl
all_the_same (suc size) zero x = refl
all_the_same (suc size) (suc k) x = all_the_same size k x

-- the stamp of a word is that of its last write in the turns before
pub stamps_are : (p : Past) (n k : ℕ) → k < core_size p.setup
    → slice_index_or (state_at p n).bus.stamps k None ≡ last_write (trace_at p n) k None
unfolding state_at trace_at first_world
stamps_are p zero k below = all_the_same (core_size p.setup) k None
stamps_are p (suc n) k below =
    turn_stamps n (events_at p.script.entries n) (state_at p n) k (rw (stamps_keep_size p n) below)
    ∙ ap (last_write (turn_trace n (events_at p.script.entries n) (state_at p n)) k) (stamps_are p n k below)
    ∙ rw (last_write-append (trace_at p n) (turn_trace n (events_at p.script.entries n) (state_at p n)) k None) refl

-- what a machine tells of a word's last write
pub last_is : (p : Past) (n k : ℕ) (machine : MachineState) → machine ≡ at p n → k < length machine.world.bus.core
    → last_write_of (slice_index_or machine.world.bus.stamps k None) (slice_index machine.world.bus.core k) ≡ last_write_at p n k
last_is p n k machine here below =
    let within : k < core_size p.setup = rw (here, core_keeps_size p n) at below in
    rw (here, stamps_are p n k within) refl

pub stamps_of_states : StampsOfStatesAreLastWrites
stamps_of_states p n = record { size = stamps_keep_size p n; stamps = λ k below. stamps_are p n k below }

stamps_of_saved : (p : Past) (n : ℕ) (saved : SavedMachineData) → saved ≡ saved_machine (at p n) → AreLastWrites p n saved.bus.stamps
stamps_of_saved p n saved is = rw is (stamps_of_states p n)

pub stamps_of_checkpoints : StampsOfCheckpointsAreLastWrites
stamps_of_checkpoints p known l are i d below =
    let c = get_or l.kept i d in stamps_of_saved p c.turn c.saved (are.states i d below)
