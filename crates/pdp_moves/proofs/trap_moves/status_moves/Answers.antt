use Rattle.std.proofs.Common.{◌∙◌, refl, sym, subst}
use Rattle.pdp_made.specs.Cells.{StatusByte}
use Rattle.pdp_made.specs.TrapRows.{status_changed}
use Rattle.pdp_moves.specs.Moves.{AreMoves}
use Rattle.pdp_moves.proofs.RowMoves.{status_moves}
use Rattle.pdp_moves.proofs.trap_moves.status_moves.Goals as goal

pub returns : goal.returns
returns c = λ halves are. subst (λ moves. AreMoves (status_changed halves) moves)
    (sym (c.tell_halves.ensures.moves StatusByte halves refl refl are ∙ rw c.new-moves.ensures refl)) (status_moves halves)
