use Rattle.std.proofs.Common.{sym, subst}
use Rattle.pdp_made.specs.InstructionRows.{effect_changed}
use Rattle.pdp_moves.specs.Moves.{AreMoves}
use Rattle.pdp_moves.proofs.RowMoves.{effects_move}
use Rattle.pdp_moves.proofs.execute_moves.effect.Goals as goal

pub returns : goal.returns
returns c = λ cells are. subst (λ moves. AreMoves (effect_changed cells) moves) (sym (c.moves_of_effect.ensures cells are)) (effects_move cells)
