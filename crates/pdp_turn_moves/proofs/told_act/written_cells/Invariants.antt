use Rattle.std.proofs.Common.{◌≡◌, ◌++◌, drop}
use Rattle.pdp_moves.specs.CellNames.{named_cells}
use Rattle.pdp_turn_moves.specs.ActMoves.{cells_written}
use Rattle.pdp_turn_moves.proofs.told_act.written_cells.Given as goal

abbrev pub invariant-loop-cycle : goal.invariant-loop-cycle
invariant-loop-cycle l =
    named_cells l.cells.items ++ cells_written (drop l.cycle-index l.cycles) ≡ cells_written l.cycles
