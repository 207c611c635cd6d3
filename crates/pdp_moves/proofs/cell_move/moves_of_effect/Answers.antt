use Rattle.std.proofs.Common.{◌∙◌, ◌++◌, ap, refl}
use Rattle.pdp_made.specs.Cells.{CodeDue, ResultByte}
use Rattle.pdp_moves.specs.Built.{code_moves}
use Rattle.pdp_moves.proofs.cell_move.moves_of_effect.Goals as goal

pub returns : goal.returns
returns c = λ cells are. c.tell_codes_due.ensures.moves cells.codes are.codes
    ∙ ap (λ xs. xs ++ code_moves CodeDue cells.codes) (c.tell_halves.ensures.moves ResultByte cells.value refl refl are.value
    ∙ rw c.new-moves.ensures refl)
