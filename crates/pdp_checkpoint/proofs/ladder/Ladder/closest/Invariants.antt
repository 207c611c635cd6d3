use Rattle.std.proofs.Common.{◌≤◌, ◌*◌, ◌++◌, take}
use Rattle.pdp_checkpoint.specs.Formers.{IsClosest}
use Rattle.pdp_checkpoint.specs.Ladder.{best_of}
use Rattle.pdp_checkpoint.proofs.ladder.Ladder.closest.Given as goal

abbrev pub invariant-loop-state : goal.invariant-loop-state
invariant-loop-state l =
    (IsClosest (l.self.kept ++ take l.state-index l.self.near) l.turn l.closest)
    × (best_of l.self l.turn * l.self.stride ≤ l.closest.turn)
