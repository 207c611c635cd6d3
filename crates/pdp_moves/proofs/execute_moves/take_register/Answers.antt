use Rattle.std.proofs.Common.{◌∙◌, ◌++◌, ap, refl, sym, subst}
use Rattle.pdp_made.specs.Cells.{SourceByte, ValueByte}
use Rattle.pdp_made.specs.InstructionRows.{both_changed}
use Rattle.pdp_made.specs.ReferenceRows.{Halves, cut_to, halves_of}
use Rattle.pdp_moves.specs.Built.{half_moves}
use Rattle.pdp_moves.specs.Moves.{AreMoves}
use Rattle.pdp_moves.proofs.RowMoves.{both_operands_move}
use Rattle.pdp_moves.proofs.execute_moves.take_register.Goals as goal

pub returns : goal.returns
returns c =
    let from : Halves = cut_to c.args.size (halves_of c.args.id) in
    subst (λ moves. AreMoves (both_changed from) moves)
    (sym (c.tell_halves-2.ensures.moves SourceByte from refl refl c.register_operand-2.ensures
    ∙ ap (λ xs. xs ++ half_moves SourceByte from) (c.tell_halves.ensures.moves ValueByte from refl refl c.register_operand.ensures ∙ rw c.new-moves.ensures refl)))
    (both_operands_move from)
