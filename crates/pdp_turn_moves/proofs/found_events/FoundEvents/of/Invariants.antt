use Rattle.std.proofs.Common.{◌≡◌, take}
use Rattle.pdp_turn_moves.specs.Beginnings.{found_in}
use Rattle.pdp_turn_moves.proofs.found_events.FoundEvents.of.Given as goal

abbrev pub invariant-loop-number : goal.invariant-loop-number
invariant-loop-number l = l.found ≡ found_in (take l.number l.events)
