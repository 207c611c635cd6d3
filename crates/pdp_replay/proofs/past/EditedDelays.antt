-- An engine after an edit of the delays or of the tape.
use Rattle.std.proofs.Common.{◌≡◌, ◌∙◌, ℕ, List, [], ◌∷◌, ap, arith, map, refl, subst, sym}
use Rattle.pdp_checkpoint.specs.Delayed.{ladder_with_delays, checkpoint_with_delays}
use Rattle.pdp_checkpoint.specs.Ladder.{LadderData, checkpoint_of}
use Rattle.pdp_checkpoint.specs.declared.checkpoint.Checkpoint.{Checkpoint}
use Rattle.pdp_cpu.specs.Saved.{SavedMachineData, saved_machine_with_delays, saved_machine}
use Rattle.pdp_operand.specs.Phases.World.{world}
use Rattle.pdp_unibus.specs.SavedBusData.{bus_with_tape}
use Rattle.pdp_io_page.specs.declared.delays.Delays.{Delays}
use Rattle.pdp_replay.specs.Past.FirstWords.{AllThere}
use Rattle.pdp_replay.specs.Run.KeptRuns.{IsForgotten, IsKeptRun, cut_to_first}
use Rattle.pdp_replay.specs.Run.Checkpoints.{AreKept, IsBuiltFrom}
use Rattle.pdp_replay.specs.Past.{Past}
use Rattle.pdp_replay.specs.Past.Setup.{IsGood, SetupData, core_size}
use Rattle.pdp_replay.specs.Run.States.{at}
use Rattle.pdp_replay.specs.Timeline.{IsEngine}
use Rattle.pdp_replay.specs.declared.run.kept_run.KeptRun.{KeptRun}
use Rattle.pdp_replay.proofs.run.Forgotten.{first_kept, kept_anew, checkpoints_anew}
use Rattle.pdp_replay.proofs.run.RunFirstTouches.{untouched_alike}
use Rattle.pdp_replay.proofs.run.PoweredSaves.{first_saved_machine, first_is, first_of_delays, first_of_tape}

-- the machine is said to be in no state of the run
kept_forgotten : (q : Past) (before after : KeptRun) → IsForgotten before after → AreKept q after.known after.machine after.ladder → IsKeptRun q after
kept_forgotten q before after forgotten kept = record {
  kept = kept;
  current = λ yes. let no = forgotten.current in absurd cc;
}

-- of which all but turn 0 was forgotten, over a setup with the same core size, patches and stride
pub engine_anew : (p q : Past) (highest : ℕ) (before after : KeptRun) → IsEngine p highest before
    → IsForgotten before after → IsGood q.setup → AllThere q.setup q.setup.patches → q.setup.stride ≡ p.setup.stride
    → after.ladder.stride ≡ before.ladder.stride → AreKept q after.known after.machine after.ladder
    → IsEngine q highest after
engine_anew p q highest before after engine forgotten good there start stride kept = record {
  good = good;
  there = there;
  reached = rw forgotten.known (omega arith);
  limit = engine.limit;
  stride = rw (start, stride) engine.stride;
  run = kept_forgotten q before after forgotten kept;
}

abbrev with_those_delays : Delays → SetupData → SetupData
with_those_delays delays s = record s { delays = delays }

abbrev with_that_tape : List ℕ → SetupData → SetupData
with_that_tape tape s = record s { tape = tape }

abbrev saved_first : SavedMachineData → Checkpoint
saved_first saved = record { turn = 0; saved = saved }

-- the delays in the state of turn 0 are all that an edit of them changes
delays_kept : (p q : Past) (delays : Delays) (before after : KeptRun) → AreKept p before.known before.machine before.ladder
    → q.setup ≡ with_those_delays delays p.setup → IsForgotten before after → after.ladder ≡ ladder_with_delays delays before.ladder
    → after.machine.state.world ≡ before.machine.state.world → AreKept q after.known after.machine after.ladder
delays_kept p q delays before after kept setup forgotten ladder same =
    let content : saved_machine (at q 0) ≡ saved_machine_with_delays delays (saved_machine (at p 0)) =
    first_is q ∙ ap first_saved_machine setup ∙ first_of_delays p.setup delays ∙ ap (saved_machine_with_delays delays) (sym (first_is p)) in
    let first : after.ladder.kept ≡ checkpoint_of (at q 0) ∷ [] =
    ap (λ (l : LadderData). l.kept) ladder
    ∙ ap (map (checkpoint_with_delays delays)) (first_kept p before.known before.ladder kept.states)
    ∙ ap (λ s. saved_first s ∷ []) (sym content) in
    let built = kept.built in
    let now : IsBuiltFrom (with_those_delays delays p.setup) after.machine =
    record { tape = rw same built.tape; core = rw same built.core; stamps = rw same built.stamps; drives = rw same built.drives } in
    kept_anew p q before after (untouched_alike q.setup p.setup (ap core_size setup) (ap (λ (s : SetupData). s.drives) setup)) kept forgotten first (ap (λ (l : LadderData). l.near) ladder) (ap (λ (l : LadderData). l.formers) ladder) (checkpoints_anew q before.ladder after.ladder kept.states.checkpoints first (ap (λ (l : LadderData). l.stride) ladder))
    (subst (λ s. IsBuiltFrom s after.machine) (sym setup) now)

pub engine_delayed : (p q : Past) (delays : Delays) (highest : ℕ) (before after : KeptRun) → IsEngine p highest before
    → q.setup ≡ with_those_delays delays p.setup → IsForgotten before after → after.ladder ≡ ladder_with_delays delays before.ladder
    → after.machine.state.world ≡ before.machine.state.world → IsEngine q highest after
engine_delayed p q delays highest before after engine setup forgotten ladder same =
    let good : IsGood (with_those_delays delays p.setup) =
    record { units = engine.good.units; some = engine.good.some; widest = engine.good.widest; core = engine.good.core; disks = engine.good.disks } in
    engine_anew p q highest before after engine forgotten (subst IsGood (sym setup) good) (rw setup engine.there) (ap (λ (s : SetupData). s.stride) setup)
    (ap (λ (l : LadderData). l.stride) ladder) (delays_kept p q delays before after engine.run.kept setup forgotten ladder same)

-- another tape changes no state that is saved
tape_kept : (p q : Past) (tape : List ℕ) (before after : KeptRun) → AreKept p before.known before.machine before.ladder
    → q.setup ≡ with_that_tape tape p.setup → IsForgotten before after → after.ladder ≡ cut_to_first before.ladder
    → after.machine.state.world ≡ world before.machine.state.world.processor (bus_with_tape before.machine.state.world.bus tape)
    → AreKept q after.known after.machine after.ladder
tape_kept p q tape before after kept setup forgotten ladder changed =
    let content : saved_machine (at q 0) ≡ saved_machine (at p 0) =
    first_is q ∙ ap first_saved_machine setup ∙ first_of_tape p.setup tape ∙ sym (first_is p) in
    let first : after.ladder.kept ≡ checkpoint_of (at q 0) ∷ [] =
    ap (λ (l : LadderData). l.kept) ladder
    ∙ first_kept p before.known before.ladder kept.states
    ∙ ap (λ s. saved_first s ∷ []) (sym content) in
    let built = kept.built in
    let now : IsBuiltFrom (with_that_tape tape p.setup) after.machine =
    record { tape = rw changed refl; core = rw changed built.core; stamps = rw changed built.stamps; drives = rw changed built.drives } in
    kept_anew p q before after (untouched_alike q.setup p.setup (ap core_size setup) (ap (λ (s : SetupData). s.drives) setup)) kept forgotten first (ap (λ (l : LadderData). l.near) ladder) (ap (λ (l : LadderData). l.formers) ladder) (checkpoints_anew q before.ladder after.ladder kept.states.checkpoints first (ap (λ (l : LadderData). l.stride) ladder))
    (subst (λ s. IsBuiltFrom s after.machine) (sym setup) now)

pub engine_with_tape : (p q : Past) (tape : List ℕ) (highest : ℕ) (before after : KeptRun) → IsEngine p highest before
    → q.setup ≡ with_that_tape tape p.setup → IsForgotten before after → after.ladder ≡ cut_to_first before.ladder
    → after.machine.state.world ≡ world before.machine.state.world.processor (bus_with_tape before.machine.state.world.bus tape)
    → IsEngine q highest after
engine_with_tape p q tape highest before after engine setup forgotten ladder changed =
    let good : IsGood (with_that_tape tape p.setup) =
    record { units = engine.good.units; some = engine.good.some; widest = engine.good.widest; core = engine.good.core; disks = engine.good.disks } in
    engine_anew p q highest before after engine forgotten (subst IsGood (sym setup) good) (rw setup engine.there) (ap (λ (s : SetupData). s.stride) setup)
    (ap (λ (l : LadderData). l.stride) ladder) (tape_kept p q tape before after engine.run.kept setup forgotten ladder changed)
