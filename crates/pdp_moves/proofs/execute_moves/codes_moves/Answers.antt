use Rattle.std.proofs.Common.{◌∙◌, refl, sym, subst}
use Rattle.pdp_made.specs.InstructionRows.{codes_changed}
use Rattle.pdp_moves.specs.Moves.{AreMoves}
use Rattle.pdp_moves.proofs.RowMoves.{codes_move}
use Rattle.pdp_moves.proofs.execute_moves.codes_moves.Goals as goal

pub returns : goal.returns
returns c = λ cells are. subst (λ moves. AreMoves (codes_changed cells) moves)
    (sym (c.tell_codes.ensures.moves cells are ∙ rw c.new-moves.ensures refl)) (codes_move cells)
