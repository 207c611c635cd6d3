use Rattle.std.proofs.Common.{◌≡◌, take}
use Rattle.pdp_store.specs.Overlays.{latest_turn}
use Rattle.pdp_store.proofs.overlay.latest_turn.Given as goal

abbrev pub invariant-loop-last : goal.invariant-loop-last
invariant-loop-last l = l.latest ≡ latest_turn (take l.last-index l.stamps)
