use Rattle.std.proofs.Common.{◌≡◌, ◌∙◌, ◌+◌, ap, arith, length, length-append, map, replicate}
use Rattle.std.specs.List.{range_with_len}
use Rattle.pdp_store.specs.Pages.{PagedWords}
use Rattle.pdp_store.specs.Stored.{no_touch_in}
use Rattle.pdp_replay.specs.Past.Image.{more_drives, padded_image, padded_drive}
use Rattle.pdp_replay.specs.Past.Setup.{drive_words, images_of}
use Rattle.pdp_replay.proofs.past.MoreDrives.{all_alike, one_more}
use Rattle.pdp_replay.proofs.past.image.more_drives.Goals as goal

pub loop-number-preserved : goal.loop-number-preserved
loop-number-preserved c =
    let before = c.loop-number.invariant in
    let so_many = before.so_many in
    let long : length c.push.new.self.items ≡ length c.loop-number.drives.items + 1 =
    ap length c.in_ok-push.ensures.items ∙ length-append c.loop-number.drives.items _ in
    record {
      so_many = omega (arith, so_many, long);
      words = one_more (λ (drive : PagedWords). drive.words) (padded_drive (images_of c.args.base_setup.now.disks.items)) c.loop-number.drives.items _ _ c.loop-number.number
          so_many (c.in_ok-drive_store.ensures.words ∙ ap (padded_image drive_words) c.image.ensures) c.in_ok-push.ensures.items before.words;
      first_touches = all_alike (λ (drive : PagedWords). drive.first_touches) c.loop-number.drives.items _ _ (no_touch_in drive_words) c.in_ok-drive_store.ensures.first_touches c.in_ok-push.ensures.items before.first_touches;
    }

pub returns-clause-words : goal.returns-clause-words
unfolding more_drives
returns-clause-words c =
    let before = c.loop-number.invariant in
    let so_many = before.so_many in
    let past = c.loop-number-test.false in
    let seven : length c.loop-number.drives.items ≡ 7 = omega (arith, so_many, past) in
    before.words ∙ ap (λ n. map (padded_drive (images_of c.args.base_setup.now.disks.items)) (range_with_len 1 n)) seven

pub returns-clause-first_touches : goal.returns-clause-first_touches
returns-clause-first_touches c =
    let before = c.loop-number.invariant in
    let so_many = before.so_many in
    let past = c.loop-number-test.false in
    let seven : length c.loop-number.drives.items ≡ 7 = omega (arith, so_many, past) in
    before.first_touches ∙ ap (λ n. replicate n (no_touch_in drive_words)) seven
