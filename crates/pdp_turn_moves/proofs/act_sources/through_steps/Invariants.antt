use Rattle.std.proofs.Common.{◌≡◌, ◌-◌, length, drop}
use Rattle.pdp_moves.specs.CellNames.{named_cell, named_cells}
use Rattle.pdp_moves.specs.Moves.{sources_before}
use Rattle.pdp_moves.specs.PlanRows.{moves_noted}
use Rattle.pdp_turn_moves.proofs.act_sources.through_steps.Given as goal

abbrev pub invariant-loop-done : goal.invariant-loop-done
invariant-loop-done l =
    named_cells l.sources.items ≡ sources_before (moves_noted (drop (length l.steps - l.done) l.steps)) (named_cell l.fn.cell)
