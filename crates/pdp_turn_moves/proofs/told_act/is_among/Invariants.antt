use Rattle.std.proofs.Common.{◌≡◌, drop}
use Rattle.pdp_moves.specs.CellNames.{named_cell, named_cells}
use Rattle.pdp_moves.specs.Moves.{is_cell_among}
use Rattle.pdp_turn_moves.proofs.told_act.is_among.Given as goal

abbrev pub invariant-loop-one : goal.invariant-loop-one
invariant-loop-one l =
    is_cell_among (named_cells (drop l.one-index l.cells)) (named_cell l.cell) ≡ is_cell_among (named_cells l.cells) (named_cell l.cell)
