use Rattle.std.proofs.Common.{◌++◌, List, take}
use Rattle.pdp_checkpoint.specs.declared.checkpoint.Checkpoint.{Checkpoint}
use Rattle.pdp_checkpoint.specs.Formers.{IsFirstFrom}
use Rattle.pdp_checkpoint.proofs.former.first_of.Given as goal

abbrev pub invariant-loop-state : goal.invariant-loop-state
invariant-loop-state l =
    (others : List Checkpoint) → IsFirstFrom others l.turn l.initial.first → IsFirstFrom (others ++ take l.state-index l.states) l.turn l.first
