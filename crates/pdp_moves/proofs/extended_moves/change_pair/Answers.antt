use Rattle.std.proofs.Common.{sym, subst}
use Rattle.pdp_instruction.specs.declared.pair.Pair.{Pair}
use Rattle.pdp_made.specs.InstructionRows.{pair_changed}
use Rattle.pdp_moves.specs.CellNames.{named_cells}
use Rattle.pdp_moves.specs.Moves.{AreMoves}
use Rattle.pdp_moves.proofs.RegisterMoves.{pairs_move}
use Rattle.pdp_moves.proofs.extended_moves.change_pair.Goals as goal

pub returns : goal.returns
returns c = λ pair is.
    let from = named_cells c.args.from.now.items in
    let own : Pair = record { high = c.args.high; low = c.args.low } in
    rw is (subst (λ moves. AreMoves (pair_changed own from) moves) (sym c.pair_moves.ensures) (pairs_move from own))
