use Rattle.std.proofs.Common.{◌≡◌, take}
use Rattle.pdp_store.specs.Overlays.{stamps_over}
use Rattle.pdp_store.proofs.overlay.are_hidden.Given as goal

abbrev pub invariant-loop-k : goal.invariant-loop-k
invariant-loop-k l = take l.k (stamps_over l.turn l.under l.over) ≡ take l.k l.under
