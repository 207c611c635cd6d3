use Rattle.std.proofs.Common.{◌≡◌, ◌++◌, map, take, drop}
use Rattle.pdp_store.specs.FirstTouches.{first_before}
use Rattle.pdp_store.proofs.touches.StoreTouches.forget.Given as goal

abbrev pub invariant-loop-page : goal.invariant-loop-page
invariant-loop-page l = l.self-inside.first_touches.items ≡ map (first_before l.turn) (take l.page l.fn.self) ++ drop l.page l.fn.self
