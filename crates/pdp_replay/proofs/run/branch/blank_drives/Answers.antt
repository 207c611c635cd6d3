use Rattle.std.proofs.Common.{◌≡◌, ◌∙◌, ◌+◌, ap, arith, length, length-append, refl, replicate}
use Rattle.pdp_store.specs.Pages.{PagedWords}
use Rattle.pdp_store.specs.Stored.{no_touch_in}
use Rattle.pdp_replay.specs.Past.Setup.{drive_words}
use Rattle.pdp_replay.proofs.past.MoreDrives.{all_alike}
use Rattle.pdp_replay.proofs.run.BranchingOff.{blank_length, blank_touches}
use Rattle.pdp_replay.proofs.run.branch.blank_drives.Goals as goal

pub loop-init : goal.loop-init
loop-init c = rw c.in_ok-drives.ensures.items (record { so_many = refl; sizes = refl; touches = refl })

pub loop-preserved : goal.loop-preserved
loop-preserved c =
    let before = c.loop.invariant in
    let so_many = before.so_many in
    let long : length c.push.new.self.items ≡ length c.loop.drives.items + 1 =
    ap length c.in_ok-push.ensures.items ∙ length-append c.loop.drives.items _ in
    record {
      so_many = omega (arith, so_many, long);
      sizes = all_alike (λ (drive : PagedWords). length drive.words) c.loop.drives.items _ _ drive_words (blank_length drive_words c.in_ok-blank.field-0 c.in_ok-blank.ensures) c.in_ok-push.ensures.items before.sizes;
      touches = all_alike (λ (drive : PagedWords). drive.first_touches) c.loop.drives.items _ _ (no_touch_in drive_words) (blank_touches drive_words c.in_ok-blank.field-0 c.in_ok-blank.ensures) c.in_ok-push.ensures.items before.touches;
    }

pub returns-clause-sizes : goal.returns-clause-sizes
returns-clause-sizes c =
    let before = c.loop.invariant in
    let so_many = before.so_many in
    let past = c.loop-test.false in
    before.sizes ∙ ap (λ n. replicate n drive_words) (so_many ∙ omega (arith, past, c.loop.auto.counter-end))

pub returns-clause-touches : goal.returns-clause-touches
returns-clause-touches c =
    let before = c.loop.invariant in
    let so_many = before.so_many in
    let past = c.loop-test.false in
    before.touches ∙ ap (λ n. replicate n (no_touch_in drive_words)) (so_many ∙ omega (arith, past, c.loop.auto.counter-end))
