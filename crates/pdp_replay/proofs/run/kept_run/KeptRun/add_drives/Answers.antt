use Rattle.std.proofs.Common.{◌≡◌, ◌∙◌, ◌++◌, List, ap, ap₂, map, refl, take, ℕ}
use Rattle.pdp_cpu.specs.Drives.{machine_with_drives}
use Rattle.pdp_cpu.specs.Handbook.MachineState.{MachineWithTexts}
use Rattle.pdp_store.specs.Pages.{PagedWords}
use Rattle.pdp_replay.proofs.past.MoreDrives.{one_kept}
use Rattle.pdp_replay.proofs.run.kept_run.KeptRun.add_drives.Goals as goal

pub returns-in-Err-clause-refused : goal.returns-in-Err-clause-refused
returns-in-Err-clause-refused c =
    let old : MachineWithTexts = c.args.self.now.machine in
    let drives : List (List ℕ) = old.state.world.bus.drives in
    let first_touches : List (List ℕ) = old.first_touches.drives in
    let more : List (List ℕ) = map (λ (drive : PagedWords). drive.words) c.args.drives.items in
    let touches : List (List ℕ) = map (λ (drive : PagedWords). drive.first_touches) c.args.drives.items in
    let added : c.new.new.machine ≡ machine_with_drives (drives ++ more) (first_touches ++ touches) old = c.in-Err.ensures.machine ∙ c.in_ok-add_drives.ensures.added in
    let kept : c.keep_drives.new.self ≡ old =
    c.keep_drives.ensures
    ∙ ap (λ (m : MachineWithTexts). machine_with_drives (take 1 m.state.world.bus.drives) (take 1 m.first_touches.drives) m) added
    ∙ ap₂ (λ drives first_touches. machine_with_drives drives first_touches old) (one_kept drives more c.requires.one) (one_kept first_touches touches c.requires.first_touches) in
    rw kept refl
