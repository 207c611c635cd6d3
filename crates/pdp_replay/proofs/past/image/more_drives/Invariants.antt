use Rattle.std.proofs.Common.{◌≡◌, ◌+◌, length, map, replicate}
use Rattle.std.specs.List.{range_with_len}
use Rattle.pdp_store.specs.Pages.{PagedWords}
use Rattle.pdp_store.specs.Stored.{no_touch_in}
use Rattle.pdp_replay.specs.Past.Image.{padded_drive}
use Rattle.pdp_replay.specs.Past.Setup.{drive_words, images_of}
use Rattle.pdp_replay.proofs.past.image.more_drives.Given as goal

abbrev pub invariant-loop-number : goal.invariant-loop-number
invariant-loop-number l = record {
  so_many : length l.drives.items + 1 ≡ l.number;
  words : map (λ (drive : PagedWords). drive.words) l.drives.items
      ≡ map (padded_drive (images_of l.base_setup.disks.items)) (range_with_len 1 (length l.drives.items));
  first_touches : map (λ (drive : PagedWords). drive.first_touches) l.drives.items ≡ replicate (length l.drives.items) (no_touch_in drive_words);
}
