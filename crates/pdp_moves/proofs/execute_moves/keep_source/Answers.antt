use Rattle.std.proofs.Common.{◌∙◌, ap, refl, sym, subst}
use Rattle.pdp_made.specs.Cells.{SourceByte}
use Rattle.pdp_made.specs.EffectRows.{value_halves}
use Rattle.pdp_made.specs.InstructionRows.{source_changed}
use Rattle.pdp_moves.specs.CellNames.{named_cells}
use Rattle.pdp_moves.specs.Moves.{AreMoves}
use Rattle.pdp_moves.proofs.RowMoves.{source_moves}
use Rattle.pdp_moves.proofs.execute_moves.keep_source.Goals as goal

pub returns : goal.returns
returns c = subst (λ moves. AreMoves source_changed moves)
    (sym (c.tell_halves.ensures.moves SourceByte value_halves refl refl
    (record { low = ap named_cells c.sources.ensures; high = ap named_cells c.sources-2.ensures }) ∙ rw c.new-moves.ensures refl))
    source_moves
