use Rattle.std.proofs.Common.{◌≡◌, length, map, take}
use Rattle.pdp_unibus.specs.SavedTouches.{turns_in}
use Rattle.pdp_unibus.proofs.save.saved_touches.touches_of_each.Given as goal

abbrev pub invariant-loop-number : goal.invariant-loop-number
invariant-loop-number g l =
    (map turns_in l.taken.items ≡ take l.number (map g.D.Store.first_touches l.drives.items)) × (length l.drives.items ≡ l.number-end)
