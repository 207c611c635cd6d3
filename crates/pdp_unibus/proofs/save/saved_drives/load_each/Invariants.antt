use Rattle.std.proofs.Common.{◌≡◌, length, map}
use Rattle.pdp_unibus.specs.SavedDrives.{pages_stamps, pages_words}
use Rattle.pdp_unibus.proofs.SavedDrives.{Loaded}
use Rattle.pdp_unibus.proofs.save.saved_drives.load_each.Given as goal

abbrev pub invariant-loop-number : goal.invariant-loop-number
invariant-loop-number g l =
    Loaded (map pages_words l.pages.items) (map g.D.Store.words l.initial.drives.items) (map g.D.Store.words l.drives.items) l.number
    × Loaded (map pages_stamps l.pages.items) (map g.D.Store.stamps l.initial.drives.items) (map g.D.Store.stamps l.drives.items) l.number
    × (map g.D.Store.first_touches l.drives.items ≡ map g.D.Store.first_touches l.initial.drives.items)
    × (length l.drives.items ≡ l.number-end) × (length l.pages.items ≡ l.number-end) × (length l.initial.drives.items ≡ l.number-end)
