use Rattle.std.proofs.Common.{◌≡◌, ◌∙◌, List, ap, arith, map, subst, ℕ}
use Rattle.pdp_cpu.specs.Handbook.MachineState.{MachineState}
use Rattle.pdp_store.specs.Pages.{PagedWords}
use Rattle.pdp_replay.specs.Past.Edit.{with_eight_drives}
use Rattle.pdp_replay.specs.Past.Image.{more_drives}
use Rattle.pdp_replay.specs.Run.KeptRuns.{BeginsAnew}
use Rattle.pdp_replay.specs.Past.{Past, past_from}
use Rattle.pdp_replay.specs.Past.Setup.{drive_count, setup_from}
use Rattle.pdp_replay.specs.declared.past.base_setup.DriveCount.TheVariants.{Eight}
use Rattle.pdp_replay.specs.declared.past.base_setup.BaseSetup.{BaseSetup}
use Rattle.pdp_replay.proofs.past.MoreDrives.{engine_begun, first_touches_counted}
use Rattle.pdp_replay.proofs.engine.Engine.use_eight_drives.Goals as goal

pub add_drives-requires-clause-first_touches : goal.add_drives-requires-clause-first_touches
add_drives-requires-clause-first_touches c =
    let old = c.self.inside in
    let before = c.resume.new.self in
    let p : Past = past_from old.base_setup old.run.machine.state.world.bus.tape old.delays old.patches old.script in
    let on = c.resume.ensures.way p c.self.invariant.run in
    first_touches_counted p before.known before.machine on.kept.texts ∙ ap drive_count c.in-One.is

pub invariant_of-self-in-One : goal.invariant_of-self-in-One
invariant_of-self-in-One c =
    let old = c.self.inside in
    let before = c.resume.new.self in
    let run = c.add_drives.new.self in
    let base_setup : BaseSetup = record old.base_setup { drives = Eight } in
    let p : Past = past_from old.base_setup old.run.machine.state.world.bus.tape old.delays old.patches old.script in
    let q : Past = past_from base_setup run.machine.state.world.bus.tape old.delays old.patches old.script in
    let on = c.resume.ensures.way p c.self.invariant.run in
    let most = c.resume.ensures.resumed.most in
    let added = c.in_ok-add_drives-in-One.ensures in
    let drives = c.in_ok-drives-in-One.ensures in
    let first_touches : List (List ℕ) = map (λ (drive : PagedWords). drive.first_touches) c.in_ok-drives-in-One.drives.items in
    let words : List (List ℕ) = more_drives p.setup.disks in
    let over : BeginsAnew words first_touches before run = subst (λ words. BeginsAnew words first_touches before run) drives.words added.anew in
    let anew = subst (λ touches. BeginsAnew words touches before run) drives.first_touches over in
    let tape = ap (λ (m : MachineState). m.world.bus.tape) anew.state ∙ on.kept.built.tape in
    let setup : q.setup ≡ with_eight_drives p.setup = ap (λ tape. setup_from base_setup tape old.delays old.patches) tape in
    engine_begun p q old.highest old.run before run c.self.invariant on (omega (arith, most)) c.resume.ensures.resumed.ladder
    (ap drive_count c.in-One.is) setup anew added.stride
