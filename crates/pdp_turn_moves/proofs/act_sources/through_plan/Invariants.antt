use Rattle.std.proofs.Common.{◌≡◌, ◌++◌, drop, flat_map}
use Rattle.pdp_moves.specs.CellNames.{named_cells}
use Rattle.pdp_moves.specs.CourseMoves.{sources_of_plan}
use Rattle.pdp_turn_moves.proofs.act_sources.through_plan.Given as goal

abbrev pub invariant-loop-cell : goal.invariant-loop-cell
invariant-loop-cell l =
    named_cells l.sources.items ++ flat_map (sources_of_plan l.plan) (named_cells (drop l.cell-index l.cells)) ≡ flat_map (sources_of_plan l.plan) (named_cells l.cells)
