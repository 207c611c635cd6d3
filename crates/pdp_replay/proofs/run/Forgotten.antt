-- What is kept of a run once all but turn 0 was forgotten.
use Rattle.std.proofs.Common.{◌≡◌, ◌∙◌, ◌+◌, ◌/◌, ◌<◌, ℕ, List, [], ◌∷◌, ap, ap₂, arith, get_or, length, nat_le, refl, subst, sym, take}
use Rattle.std.specs.List.{filter}
use Rattle.std.proofs.Math.Nat.{zero-div}
use Rattle.pdp_checkpoint.proofs.Checkpoints.{below_is_first, first_checkpoint, turn_at}
use Rattle.pdp_checkpoint.specs.Formers.{FormerData}
use Rattle.pdp_checkpoint.specs.Ladder.{AreCheckpoints, LadderData, checkpoint_of}
use Rattle.pdp_checkpoint.specs.declared.checkpoint.Checkpoint.{Checkpoint}
use Rattle.pdp_cpu.specs.Saved.{SavedMachineData, saved_machine}
use Rattle.pdp_cpu.specs.Handbook.MachineState.{MachineWithTexts}
use Rattle.pdp_replay.specs.Run.KeptRuns.{IsForgotten}
use Rattle.pdp_replay.specs.Run.Checkpoints.{AreKept, AreStatesOf, IsBuiltFrom, KeepsTexts, punched_kept_at, text_kept_at}
use Rattle.pdp_replay.specs.Past.{Past}
use Rattle.pdp_replay.specs.Run.States.{at, trace_at}
use Rattle.pdp_store.specs.FirstTouches.{first_touches_after}
use Rattle.pdp_replay.specs.Run.FirstTouches.{untouched_all}
use Rattle.pdp_replay.specs.declared.run.kept_run.KeptRun.{KeptRun}
use Rattle.pdp_replay.proofs.run.Checkpoints.{states_first}
use Rattle.pdp_replay.proofs.run.Lowered.{texts_cut}

-- before turn 0 nothing came out of any run
texts_of_none : (p q : Past) (m : MachineWithTexts) → untouched_all q.setup ≡ untouched_all p.setup → KeepsTexts p 0 m → KeepsTexts q 0 m
unfolding text_kept_at punched_kept_at trace_at first_touches_after
texts_of_none p q m same keeps = record { text = keeps.text; punched = keeps.punched; first_touches = keeps.first_touches ∙ sym same }

-- the first state of the other run is all that is kept of it
pub kept_anew : (p q : Past) (before after : KeptRun) → untouched_all q.setup ≡ untouched_all p.setup
    → AreKept p before.known before.machine before.ladder → IsForgotten before after → after.ladder.kept ≡ checkpoint_of (at q 0) ∷ [] → after.ladder.near ≡ [] → after.ladder.formers ≡ [] → AreCheckpoints after.ladder → IsBuiltFrom q.setup after.machine
    → AreKept q after.known after.machine after.ladder
kept_anew p q before after same kept forgotten is none no_former checkpoints built =
    let texts : KeepsTexts p 0 after.machine =
    texts_cut p before.known 0 before.machine after.machine kept.texts (omega arith) (omega arith) forgotten.text forgotten.punched forgotten.first_touches in
    rw forgotten.known (record {
      states = states_first q after.ladder is none no_former checkpoints;
      texts = texts_of_none p q after.machine same texts;
      built = built;
    })

-- a saved state, with its turn
abbrev saved_at : SavedMachineData → ℕ → Checkpoint
saved_at saved turn = record { turn = turn; saved = saved }

first_alone : (p : Past) (cs : List Checkpoint) → 0 < length cs → ((d : Checkpoint) → (get_or cs 0 d).turn ≡ 0)
    → ((d : Checkpoint) → (get_or cs 0 d).saved ≡ saved_machine (at p (get_or cs 0 d).turn)) → take 1 cs ≡ checkpoint_of (at p 0) ∷ []
first_alone p [] some turn is = absurd (omega arith)
first_alone p (c ∷ cs) some turn is =
    let start : c.turn ≡ 0 = turn c in
    let saved : c.saved ≡ saved_machine (at p 0) = is c ∙ ap (λ n. saved_machine (at p n)) start in
    ap₂ (λ s n. saved_at s n ∷ []) saved start

-- the checkpoint of turn 0 is that of power-up
pub first_kept : (p : Past) (known : ℕ) (l : LadderData) → AreStatesOf p known l → filter (λ c. nat_le c.turn 0) l.kept ≡ checkpoint_of (at p 0) ∷ []
first_kept p known l are =
    let one : 0 / l.stride + 1 ≡ 1 = ap (λ n. n + 1) (zero-div l.stride) in
    below_is_first l 0 are.checkpoints
    ∙ ap (λ n. take n l.kept) one
    ∙ first_alone p l.kept are.checkpoints.some (λ d. turn_at l 0 d are.checkpoints are.checkpoints.some ∙ omega arith) (λ d. are.states 0 d are.checkpoints.some)

abbrev ladder_of : List FormerData → List Checkpoint → List Checkpoint → ℕ → LadderData
ladder_of formers near kept stride = record { kept = kept; stride = stride; near = near; formers = formers }

-- the state of turn 0 alone makes a ladder of the same stride
pub checkpoints_anew : (q : Past) (l now : LadderData) → AreCheckpoints l → now.kept ≡ checkpoint_of (at q 0) ∷ [] → now.stride ≡ l.stride → AreCheckpoints now
checkpoints_anew q l now checkpoints kept stride =
    subst AreCheckpoints (sym (ap₂ (ladder_of now.formers now.near) kept stride)) (first_checkpoint (checkpoint_of (at q 0)) l.stride now.near now.formers refl checkpoints.positive checkpoints.widest)
