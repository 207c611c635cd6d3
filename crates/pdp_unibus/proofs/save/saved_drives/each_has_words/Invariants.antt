use Rattle.std.proofs.Common.{◌≡◌, length, map, take}
use Rattle.pdp_unibus.specs.SavedDrives.{pages_words}
use Rattle.pdp_unibus.proofs.save.saved_drives.each_has_words.Given as goal

abbrev pub invariant-loop-number : goal.invariant-loop-number
invariant-loop-number g l =
    (take l.number (map g.D.Store.words l.drives.items) ≡ take l.number (map pages_words l.pages.items))
    × (length l.drives.items ≡ l.number-end) × (length l.pages.items ≡ l.number-end)
