use Rattle.std.proofs.Common.{sym, subst}
use Rattle.pdp_made.specs.PhaseRows.{of_itself}
use Rattle.pdp_made.specs.ReferenceRows.{of_nothing, register_changed}
use Rattle.pdp_moves.specs.Moves.{AreMoves}
use Rattle.pdp_moves.proofs.RowMoves.{registers_move}
use Rattle.pdp_moves.proofs.jump_moves.lose_register.Goals as goal

pub returns : goal.returns
returns c = subst (λ moves. AreMoves (register_changed c.args.id of_nothing of_itself) moves)
    (sym (c.register_moves.ensures of_nothing c.none.ensures)) (registers_move c.args.id of_nothing)
