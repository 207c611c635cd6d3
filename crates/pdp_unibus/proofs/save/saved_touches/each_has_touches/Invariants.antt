use Rattle.std.proofs.Common.{◌≡◌, length, map, take}
use Rattle.pdp_store.specs.FirstTouches.{first_touches_before}
use Rattle.pdp_store.specs.Overlays.{drives_over}
use Rattle.pdp_unibus.specs.SavedTouches.{turns_in}
use Rattle.pdp_unibus.proofs.save.saved_touches.each_has_touches.Given as goal

abbrev pub invariant-loop-number : goal.invariant-loop-number
invariant-loop-number g l =
    (take l.number (drives_over l.turn (map g.D.Store.first_touches l.drives.items) (map (first_touches_before l.turn) (map turns_in l.over.items)))
    ≡ take l.number (map g.D.Store.first_touches l.drives.items))
    × (length l.drives.items ≡ l.number-end) × (length l.over.items ≡ l.number-end)
