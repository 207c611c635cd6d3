use Rattle.std.proofs.Common.{◌≡◌, take}
use Rattle.pdp_store.specs.FirstTouches.{first_touches_before}
use Rattle.pdp_store.specs.Overlays.{touches_over}
use Rattle.pdp_store.proofs.touches.StoreTouches.has_all_of.Given as goal

abbrev pub invariant-loop-page : goal.invariant-loop-page
invariant-loop-page l =
    take l.page (touches_over l.turn l.self (first_touches_before l.turn l.over)) ≡ take l.page l.self
