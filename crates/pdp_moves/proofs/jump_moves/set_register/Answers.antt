use Rattle.std.proofs.Common.{ap, sym, subst}
use Rattle.pdp_made.specs.EffectRows.{value_halves}
use Rattle.pdp_made.specs.PhaseRows.{of_itself}
use Rattle.pdp_made.specs.ReferenceRows.{register_changed}
use Rattle.pdp_moves.specs.CellNames.{named_cells}
use Rattle.pdp_moves.specs.Moves.{AreMoves}
use Rattle.pdp_moves.proofs.RowMoves.{registers_move}
use Rattle.pdp_moves.proofs.jump_moves.set_register.Goals as goal

pub returns : goal.returns
returns c = subst (λ moves. AreMoves (register_changed c.args.id value_halves of_itself) moves)
    (sym (c.register_moves.ensures value_halves (record { low = ap named_cells c.sources.ensures; high = ap named_cells c.sources-2.ensures })))
    (registers_move c.args.id value_halves)
