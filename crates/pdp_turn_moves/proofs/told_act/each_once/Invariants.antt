use Rattle.std.proofs.Common.{◌≡◌, [], drop}
use Rattle.pdp_moves.specs.CellNames.{named_cells}
use Rattle.pdp_turn_moves.specs.ActMoves.{with_cells}
use Rattle.pdp_turn_moves.proofs.told_act.each_once.Given as goal

abbrev pub invariant-loop-cell : goal.invariant-loop-cell
invariant-loop-cell l =
    with_cells (named_cells l.once.items) (named_cells (drop l.cell-index l.cells)) ≡ with_cells [] (named_cells l.cells)
