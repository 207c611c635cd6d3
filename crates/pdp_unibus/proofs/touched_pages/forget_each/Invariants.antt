use Rattle.std.proofs.Common.{◌≡◌, ◌++◌, map, take, drop, length}
use Rattle.pdp_store.specs.FirstTouches.{first_touches_before}
use Rattle.pdp_unibus.proofs.touched_pages.forget_each.Given as goal

abbrev pub invariant-loop-number : goal.invariant-loop-number
invariant-loop-number g l =
    (map g.D.Store.words l.drives.items ≡ map g.D.Store.words l.initial.drives.items)
    × (map g.D.Store.first_touches l.drives.items
    ≡ map (first_touches_before l.turn) (take l.number (map g.D.Store.first_touches l.initial.drives.items))
    ++ drop l.number (map g.D.Store.first_touches l.initial.drives.items))
    × (length l.drives.items ≡ l.number-end) × (length l.initial.drives.items ≡ l.number-end)
