use Rattle.std.proofs.Common.{◌≡◌, ◌++◌, drop, flat_map}
use Rattle.pdp_moves.specs.CellNames.{named_cells, named_moves}
use Rattle.pdp_moves.specs.Moves.{sources_in}
use Rattle.pdp_turn_moves.proofs.act_sources.through_step.Given as goal

abbrev pub invariant-loop-cell : goal.invariant-loop-cell
invariant-loop-cell l =
    named_cells l.sources.items ++ flat_map (sources_in (named_moves l.moves.items)) (named_cells (drop l.cell-index l.cells)) ≡ flat_map (sources_in (named_moves l.moves.items)) (named_cells l.cells)
