use Rattle.std.proofs.Common.{◌∙◌, refl, sym, subst}
use Rattle.pdp_made.specs.Cells.{ResultByte}
use Rattle.pdp_made.specs.InstructionRows.{result_changed}
use Rattle.pdp_made.specs.ReferenceRows.{halves_of}
use Rattle.pdp_moves.specs.Moves.{AreMoves}
use Rattle.pdp_moves.proofs.RowMoves.{result_moves}
use Rattle.pdp_moves.proofs.jump_moves.take_link.Goals as goal

pub returns : goal.returns
returns c = subst (λ moves. AreMoves (result_changed (halves_of c.args.id)) moves)
    (sym (c.tell_halves.ensures.moves ResultByte (halves_of c.args.id) refl refl
    (record { low = c.register_half.ensures.cells; high = c.register_half-2.ensures.cells }) ∙ rw c.new-moves.ensures refl))
    (result_moves (halves_of c.args.id))
