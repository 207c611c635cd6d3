use Rattle.std.proofs.Common.{◌≡◌, drop}
use Rattle.pdp_moves.specs.CellNames.{named_cell, named_moves}
use Rattle.pdp_moves.specs.Moves.{sources_in}
use Rattle.pdp_turn_moves.proofs.act_sources.add_step_sources.Given as goal

abbrev pub invariant-loop-one : goal.invariant-loop-one
invariant-loop-one l =
    (sources_in (named_moves (drop l.one-index l.one-items)) (named_cell l.cell) ≡ sources_in (named_moves l.moves.items) (named_cell l.cell)) × (l.sources.items ≡ l.fn.sources.items)
