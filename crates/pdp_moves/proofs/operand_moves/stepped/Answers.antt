use Rattle.std.proofs.Common.{sym, subst}
use Rattle.pdp_made.specs.EffectRows.{going_up}
use Rattle.pdp_made.specs.OperandRows.{register_stepped}
use Rattle.pdp_made.specs.ReferenceRows.{halves_of}
use Rattle.pdp_moves.specs.Moves.{AreMoves}
use Rattle.pdp_moves.proofs.RowMoves.{registers_move}
use Rattle.pdp_moves.proofs.operand_moves.stepped.Goals as goal

pub returns : goal.returns
returns c = subst (λ moves. AreMoves (register_stepped c.args.id) moves)
    (sym (c.register_moves.ensures (going_up (halves_of c.args.id)) c.register_stepped.ensures)) (registers_move c.args.id (going_up (halves_of c.args.id)))
