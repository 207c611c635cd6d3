use Rattle.std.proofs.Common.{◌≡◌, ◌++◌, drop, length, map, take}
use Rattle.pdp_store.specs.FirstTouches.{first_touches_before}
use Rattle.pdp_store.specs.Overlays.{drives_over}
use Rattle.pdp_unibus.specs.SavedTouches.{turns_in}
use Rattle.pdp_unibus.proofs.save.saved_touches.lay_each.Given as goal

abbrev pub invariant-loop-number : goal.invariant-loop-number
invariant-loop-number g l =
    (map g.D.Store.words l.drives.items ≡ map g.D.Store.words l.initial.drives.items)
    × (map g.D.Store.first_touches l.drives.items
    ≡ take l.number (drives_over l.from (map g.D.Store.first_touches l.initial.drives.items) (map (first_touches_before l.to) (map turns_in l.over.items)))
    ++ drop l.number (map g.D.Store.first_touches l.initial.drives.items))
    × (length l.drives.items ≡ l.number-end) × (length l.over.items ≡ l.number-end) × (length l.initial.drives.items ≡ l.number-end)
