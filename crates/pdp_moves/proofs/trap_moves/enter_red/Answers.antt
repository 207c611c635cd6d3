use Rattle.std.proofs.Common.{◌∙◌, ◌++◌, ◌∷◌, [], List, ap, refl, sym, subst}
use Rattle.pdp_operand.specs.declared.processor.RegisterId.TheVariants.{KernelStack}
use Rattle.pdp_made.specs.Cells.{CodeNow, ConditionCode, DataCell, Low, StatusByte}
use Rattle.pdp_made.specs.ReferenceRows.{of_nothing, register_changed}
use Rattle.pdp_made.specs.TrapRows.{of_new_status}
use Rattle.pdp_moves.specs.Built.{code_moves, register_moves}
use Rattle.pdp_moves.specs.Moves.{AreMoves}
use Rattle.pdp_moves.proofs.RowMoves.{red_moves}
use Rattle.pdp_moves.proofs.trap_moves.enter_red.Goals as goal

pub returns : goal.returns
returns c =
    let codes : ConditionCode → List DataCell = λ _. StatusByte Low ∷ [] in
    subst (λ moves. AreMoves (register_changed KernelStack of_nothing of_new_status) moves)
    (sym (c.tell_codes.ensures.moves codes c.each_code.ensures
    ∙ ap (λ xs. xs ++ code_moves CodeNow codes) {y = register_moves KernelStack of_nothing} (c.tell_register.ensures.moves of_nothing c.none.ensures ∙ rw c.new-moves.ensures refl)))
    (red_moves of_nothing codes)
