-- A machine that is made a checkpoint of a run is in that state of the run.
use Rattle.std.proofs.Common.{◌≡◌, ◌∙◌, ℕ, ◌≤◌, List, ap, ap₂, sym, take}
use Rattle.pdp_cpu.specs.KeptTexts.{without_turns}
use Rattle.pdp_cpu.specs.Saved.{CanHold, SavedMachineData, saved_machine, state_on, world_of}
use Rattle.pdp_cpu.specs.Handbook.MachineState.{MachineState, MachineWithTexts, world_with_first_touches, world_with_log}
use Rattle.pdp_operand.specs.Phases.World.{World}
use Rattle.pdp_replay.specs.Run.Checkpoints.{IsBuiltFrom, KeepsTexts}
use Rattle.pdp_replay.proofs.run.Bare.{state_is_bare, state_is_unlogged}
use Rattle.pdp_replay.specs.Past.{Past}
use Rattle.pdp_replay.specs.Run.States.{at, state_at, text_at}
use Rattle.pdp_replay.proofs.run.KeptTexts.{text_shown, text_kept_reaches, punched_shown, punched_kept_reaches}
use Rattle.pdp_replay.proofs.run.StateSizes.{saved_machine_fits, tape_stays}

pub can_hold : (p : Past) (n known : ℕ) (m : MachineWithTexts) (saved : SavedMachineData) → saved ≡ saved_machine (at p n) → n ≤ known
    → KeepsTexts p known m → IsBuiltFrom p.setup m → CanHold m saved
can_hold p n known m saved is le texts built =
    let text_is = texts.text in
    let punched_is = texts.punched in
    record {
      sizes = saved_machine_fits p n m saved is built;
      text = rw (is, text_is) (text_kept_reaches p n known le);
      punched = rw (is, punched_is) (punched_kept_reaches p n known le);
    }

abbrev state_of : ℕ → World → List ℕ → List ℕ → MachineState
state_of n w text punched = record { turn = n; world = w; text = text; punched = punched }

on_saved_machine : (p : Past) (n known : ℕ) (m : MachineWithTexts) → n ≤ known → KeepsTexts p known m → IsBuiltFrom p.setup m
    → state_on m (saved_machine (at p n)) ≡ at p n
on_saved_machine p n known m le texts built =
    let tape : m.state.world.bus.tape ≡ (state_at p n).bus.tape = built.tape ∙ sym (tape_stays p n) in
    let content : SavedMachineData = saved_machine (at p n) in
    ap (λ t. state_of n (world_of t content) (without_turns (take content.text_length m.kept_text)) (without_turns (take content.punched_length m.kept_punched))) tape
    ∙ ap₂ (λ f log. state_of n (world_with_log (world_with_first_touches (state_at p n) f) log) (without_turns (take content.text_length m.kept_text)) (without_turns (take content.punched_length m.kept_punched)))
    (sym (state_is_bare p n)) (sym (state_is_unlogged p n))
    ∙ ap (λ xs. state_of n (state_at p n) (without_turns (take content.text_length xs)) (without_turns (take content.punched_length m.kept_punched))) texts.text
    ∙ ap (λ xs. state_of n (state_at p n) xs (without_turns (take content.punched_length m.kept_punched))) (text_shown p n known le)
    ∙ ap (λ xs. state_of n (state_at p n) (text_at p n) (without_turns (take content.punched_length xs))) texts.punched
    ∙ ap (λ xs. state_of n (state_at p n) (text_at p n) xs) (punched_shown p n known le)

pub resumes : (p : Past) (n known : ℕ) (m : MachineWithTexts) (saved : SavedMachineData) → saved ≡ saved_machine (at p n) → n ≤ known
    → KeepsTexts p known m → IsBuiltFrom p.setup m → state_on m saved ≡ at p n
resumes p n known m saved is le texts built = ap (state_on m) is ∙ on_saved_machine p n known m le texts built
