use Rattle.std.proofs.Common.{◌∷◌, [], ap}
use Rattle.pdp_made.specs.Cells.{CodeSaved}
use Rattle.pdp_moves.specs.CellNames.{named_cells}
use Rattle.pdp_moves.proofs.trap_moves.give_up.Goals as goal

pub returns : goal.returns
returns c = c.codes_moves.ensures (λ code. CodeSaved code ∷ []) (record {
  negative = ap named_cells c.sources.ensures;
  zero = ap named_cells c.sources-2.ensures;
  overflow = ap named_cells c.sources-3.ensures;
  carry = ap named_cells c.sources-4.ensures;
})
