-- What a run keeps as of power-up.
use Rattle.std.proofs.Common.{◌≡◌, ◌∙◌, ℕ, List, [], ◌∷◌, None, Option, ap, ap₂, arith, refl, replicate, sym}
use Rattle.pdp_checkpoint.specs.Ladder.{AreCheckpoints, LadderData, checkpoint_of}
use Rattle.pdp_cpu.specs.Handbook.MachineState.{MachineState, MachineWithTexts, machine_at_power_up}
use Rattle.pdp_store.specs.declared.Stamp.{Stamp}
use Rattle.pdp_store.specs.Stored.{no_touch_in}
use Rattle.pdp_replay.specs.Past.FirstWords.{core_words, drives_words}
use Rattle.pdp_replay.specs.Past.Image.{padded_image}
use Rattle.pdp_replay.specs.Run.Checkpoints.{AreKept, IsInRun, KeepsTexts, punched_kept_at, text_kept_at}
use Rattle.pdp_replay.specs.Past.{Past, past_without_events}
use Rattle.pdp_replay.specs.Past.Setup.{IsGood, SetupData, core_size, drive_words, image_of}
use Rattle.pdp_replay.specs.Run.States.{at, first_world, first_state, trace_at}
use Rattle.pdp_store.specs.FirstTouches.{first_touches_after, first_touches_of}
use Rattle.pdp_replay.specs.Run.FirstTouches.{untouched_all}
use Rattle.pdp_replay.proofs.past.FirstWords.{core_is_padded, drive_is_padded, image_fits, one_drive}
use Rattle.pdp_replay.proofs.run.Checkpoints.{states_first}
use Rattle.pdp_replay.proofs.run.StateSizes.{at_is_built}
use Rattle.pdp_replay.proofs.run.States.{at_first}

-- the machine of this setup over such core, such stamps and such drives
abbrev pub machine_over : SetupData → List ℕ → List (Option Stamp) → List (List ℕ) → MachineState
machine_over s core stamps drives = machine_at_power_up s.start core stamps drives s.tape s.delays

machine_is_powered : (s : SetupData) → machine_over s (core_words s) (replicate (core_size s) None) (drives_words s) ≡ first_state s
unfolding first_world
machine_is_powered s = refl

-- over padded images, of one drive, it is in the first state of the run
pub powered_over : (s : SetupData) (core : List ℕ) (stamps : List (Option Stamp)) (drives : List (List ℕ)) → IsGood s → s.patches ≡ [] → s.drives ≡ 1
    → core ≡ padded_image (core_size s) s.core → stamps ≡ replicate (core_size s) None → drives ≡ padded_image drive_words (image_of s.disks 0) ∷ []
    → machine_over s core stamps drives ≡ at (past_without_events s) 0
powered_over s core stamps drives good none one core_is stamps_are drives_are =
    ap (λ words. machine_over s words stamps drives) (core_is ∙ core_is_padded s good.core none)
    ∙ ap (λ stamps. machine_over s (core_words s) stamps drives) stamps_are
    ∙ ap (λ words. machine_over s (core_words s) (replicate (core_size s) None) words) (drives_are
    ∙ ap (λ words. words ∷ []) (drive_is_padded s 0 (image_fits s.disks 0 good.disks) (λ number. rw none refl))
    ∙ sym (one_drive s one))
    ∙ machine_is_powered s
    ∙ sym (at_first (past_without_events s))

-- with one drive, no page of core and of the drive is touched
pub untouched_over : (s : SetupData) (core : List ℕ) (drives : List (List ℕ)) → s.drives ≡ 1 → core ≡ no_touch_in (core_size s)
    → drives ≡ no_touch_in drive_words ∷ [] → first_touches_of core drives ≡ untouched_all s
unfolding untouched_all
untouched_over s core drives one core_is drives_are =
    ap₂ first_touches_of core_is (drives_are ∙ ap (λ count. replicate count (no_touch_in drive_words)) (sym one))

no_texts : (p : Past) (m : MachineWithTexts) → m.kept_text ≡ [] → m.kept_punched ≡ [] → m.first_touches ≡ untouched_all p.setup → KeepsTexts p 0 m
unfolding text_kept_at punched_kept_at trace_at first_touches_after
no_texts p m text punched first_touches = record { text = text; punched = punched; first_touches = first_touches }

-- its first state is all that is kept
pub powered_kept : (p : Past) (m now : MachineWithTexts) (l : LadderData) → m.state ≡ at p 0 → m.kept_text ≡ [] → m.kept_punched ≡ []
    → m.first_touches ≡ untouched_all p.setup → now ≡ m → l.kept ≡ checkpoint_of m.state ∷ [] → l.near ≡ [] → l.formers ≡ [] → AreCheckpoints l → AreKept p 0 now l
powered_kept p m now l state text punched first_touches same kept none no_former checkpoints = rw same (record {
  states = states_first p l (kept ∙ ap (λ s. checkpoint_of s ∷ []) state) none no_former checkpoints;
  texts = no_texts p m text punched first_touches;
  built = at_is_built p 0 m state;
})

-- and its machine is in that state
pub powered_in_run : (p : Past) (m now : MachineWithTexts) → m.state ≡ at p 0 → now ≡ m → IsInRun p 0 now
powered_in_run p m now state same =
    let turn : m.state.turn ≡ 0 = ap (λ (s : MachineState). s.turn) state in
    rw same (record { here = state ∙ ap (at p) (sym turn); reached = omega (arith, turn) })
