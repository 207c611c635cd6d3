use Rattle.std.proofs.Common.{◌≡◌, ◌∙◌, [], ◌∷◌, List, ℕ, ap, refl}
use Rattle.pdp_cpu.specs.Handbook.MachineState.{machine_at_power_up}
use Rattle.pdp_replay.specs.Past.Image.{padded_image}
use Rattle.pdp_replay.specs.Past.Setup.{SetupData, drive_count, drive_words, first_setup, image_of}
use Rattle.pdp_replay.proofs.run.PoweredRuns.{powered_over, untouched_over}
use Rattle.pdp_replay.proofs.run.kept_run.first_machine.Goals as goal

pub returns-clause-state : goal.returns-clause-state
returns-clause-state c =
    let s : SetupData = first_setup c.args.base_setup.now c.args.tape.items in
    let core = c.in_ok-core.core in
    let drives : List (List ℕ) = c.in_ok-drive_store.field-0.words ∷ [] in
    let drives_are : drives ≡ padded_image drive_words (image_of s.disks 0) ∷ [] = ap (λ (words : List ℕ). words ∷ []) (c.in_ok-drive_store.ensures.words ∙ ap (padded_image drive_words) c.image.ensures) in
    let first : c.at_power_up.result.state ≡ machine_at_power_up s.start core.words core.stamps drives s.tape s.delays =
    c.at_power_up.ensures.state ∙ rw (c.in_ok-drives.ensures.items, c.standard-delays.ensures) refl in
    first ∙ powered_over s core.words core.stamps drives c.requires.good refl (ap drive_count c.requires.one) c.in_ok-core.ensures.words c.in_ok-core.ensures.stamps drives_are

pub returns-clause-first_touches : goal.returns-clause-first_touches
returns-clause-first_touches c =
    let s : SetupData = first_setup c.args.base_setup.now c.args.tape.items in
    c.at_power_up.ensures.first_touches
    ∙ untouched_over s c.in_ok-core.core.first_touches _ (ap drive_count c.requires.one) c.in_ok-core.ensures.first_touches (rw (c.in_ok-drives.ensures.items, c.in_ok-drive_store.ensures.first_touches) refl)
