use Rattle.std.proofs.Common.{◌≡◌, length, map, replicate}
use Rattle.pdp_store.specs.Pages.{PagedWords}
use Rattle.pdp_store.specs.Stored.{no_touch_in}
use Rattle.pdp_replay.specs.Past.Setup.{drive_words}
use Rattle.pdp_replay.proofs.run.branch.blank_drives.Given as goal

abbrev pub invariant-loop : goal.invariant-loop
invariant-loop l = record {
  so_many : length l.drives.items ≡ l.counter;
  sizes : map (λ (drive : PagedWords). length drive.words) l.drives.items ≡ replicate (length l.drives.items) drive_words;
  touches : map (λ (drive : PagedWords). drive.first_touches) l.drives.items ≡ replicate (length l.drives.items) (no_touch_in drive_words);
}
