use Rattle.std.proofs.Common.{◌≡◌}
use Rattle.pdp_moves.specs.CellNames.{named_cells}
use Rattle.pdp_turn_moves.proofs.ActTold.{registers_below}
use Rattle.pdp_turn_moves.proofs.told_act.other_cells.Given as goal

abbrev pub invariant-loop-place : goal.invariant-loop-place
invariant-loop-place l =
    named_cells l.cells.items ≡ registers_below l.place
