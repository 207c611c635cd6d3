use Rattle.std.proofs.Common.{◌∙◌, refl, sym, subst}
use Rattle.pdp_made.specs.Cells.{ValueByte}
use Rattle.pdp_made.specs.OperandRows.{value_changed}
use Rattle.pdp_moves.specs.Moves.{AreMoves}
use Rattle.pdp_moves.proofs.RowMoves.{value_moves}
use Rattle.pdp_moves.proofs.operand_moves.value_moves.Goals as goal

pub returns : goal.returns
returns c = λ halves are. subst (λ moves. AreMoves (value_changed halves) moves)
    (sym (c.tell_halves.ensures.moves ValueByte halves refl refl are ∙ rw c.new-moves.ensures refl)) (value_moves halves)
