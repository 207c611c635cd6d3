use Rattle.std.proofs.Common.{◌≡◌, ◌++◌, drop}
use Rattle.pdp_moves.specs.CellNames.{named_cells}
use Rattle.pdp_moves.specs.CourseMoves.{sources_of_act}
use Rattle.pdp_turn_moves.specs.ActMoves.{moves_of_cells}
use Rattle.pdp_turn_moves.proofs.told_act.add_moves_of_cells.Given as goal

abbrev pub invariant-loop-cell : goal.invariant-loop-cell
invariant-loop-cell l =
    l.moves.items ++ moves_of_cells (sources_of_act l.noted) (named_cells (drop l.cell-index l.cells)) ≡ l.fn.moves.items ++ moves_of_cells (sources_of_act l.noted) (named_cells l.cells)
