use Rattle.std.proofs.Common.{◌∙◌, ap, sym, subst}
use Rattle.pdp_made.specs.InstructionRows.{due_changed, shift_cells}
use Rattle.pdp_made.specs.ReferenceRows.{of_each, register_changed}
use Rattle.pdp_moves.specs.Built.{shift_moves}
use Rattle.pdp_moves.specs.Moves.{AreMoves}
use Rattle.pdp_moves.proofs.RegisterMoves.{shifts_move}
use Rattle.pdp_moves.proofs.extended_moves.shift.Goals as goal

pub returns : goal.returns
returns c = subst (λ moves. AreMoves (register_changed c.args.id (of_each (shift_cells c.args.id)) (due_changed (shift_cells c.args.id))) moves)
    (sym (c.tell_shifted.ensures ∙ rw c.new-moves.ensures (ap (λ from. shift_moves c.args.id from) c.with_count.ensures.cells)))
    (shifts_move (shift_cells c.args.id) c.args.id)
