use Rattle.std.proofs.Common.{◌≡◌, ◌++◌, drop}
use Rattle.pdp_turn_moves.proofs.act_sources.add_cells.Given as goal

abbrev pub invariant-loop-cell : goal.invariant-loop-cell
invariant-loop-cell l =
    l.sources.items ++ drop l.cell-index l.cells ≡ l.fn.sources.items ++ l.cells
