use Rattle.std.proofs.Common.{◌≡◌, length, take, drop, flat_map}
use Rattle.pdp_moves.specs.CellNames.{named_cells}
use Rattle.pdp_made.specs.CourseRows.{of_saved_codes}
use Rattle.pdp_turn_moves.proofs.act_sources.through_saving.Given as goal

abbrev pub invariant-loop-index : goal.invariant-loop-index
invariant-loop-index l =
    record {
      changed : named_cells (take l.index l.cells.items) ≡ flat_map of_saved_codes (named_cells (take l.index l.fn.cells.items));
      rest : drop l.index l.cells.items ≡ drop l.index l.fn.cells.items;
      count : length l.cells.items ≡ length l.fn.cells.items;
    }
