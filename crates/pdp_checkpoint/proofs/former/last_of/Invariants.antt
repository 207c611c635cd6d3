use Rattle.std.proofs.Common.{◌++◌, List, option_map, take}
use Rattle.pdp_checkpoint.specs.declared.checkpoint.Checkpoint.{Checkpoint}
use Rattle.pdp_checkpoint.specs.Formers.{IsLastBy}
use Rattle.pdp_checkpoint.proofs.former.last_of.Given as goal

abbrev pub invariant-loop-state : goal.invariant-loop-state
invariant-loop-state l =
    (others : List Checkpoint) → IsLastBy others l.turn (option_map (λ c. c.now) l.initial.last) → IsLastBy (others ++ take l.state-index l.states) l.turn (option_map (λ c. c.now) l.last)
