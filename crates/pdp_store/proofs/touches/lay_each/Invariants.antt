use Rattle.std.proofs.Common.{◌≡◌, ◌++◌, take, drop}
use Rattle.pdp_store.specs.FirstTouches.{first_touches_before}
use Rattle.pdp_store.specs.Overlays.{touches_over}
use Rattle.pdp_store.proofs.touches.lay_each.Given as goal

abbrev pub invariant-loop-page : goal.invariant-loop-page
invariant-loop-page l =
    l.firsts ≡ take l.page (touches_over l.from l.initial.firsts (first_touches_before l.to l.over)) ++ drop l.page l.initial.firsts
