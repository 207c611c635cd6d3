use Rattle.std.proofs.Common.{◌∷◌, []}
use Rattle.pdp_moves.specs.CellNames.{named_cell}
use Rattle.pdp_moves.proofs.jump_moves.codes_of.Goals as goal

pub returns : goal.returns
returns c = c.codes_moves.ensures (λ _. named_cell c.args.cell ∷ []) c.each_code.ensures
