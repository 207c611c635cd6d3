use Rattle.std.proofs.Common.{◌∷◌, [], ap}
use Rattle.pdp_made.specs.Cells.{CodeDue}
use Rattle.pdp_moves.specs.CellNames.{named_cells}
use Rattle.pdp_moves.proofs.RowMoves.{none_due}
use Rattle.pdp_moves.proofs.execute_moves.store_codes.Goals as goal

pub returns-in-Some : goal.returns-in-Some
returns-in-Some c = rw c.in-Some.is (c.codes_moves.ensures (λ code. CodeDue code ∷ []) (record {
  negative = ap named_cells c.sources.ensures;
  zero = ap named_cells c.sources-in-Some.ensures;
  overflow = ap named_cells c.sources-in-Some-2.ensures;
  carry = ap named_cells c.sources-in-Some-3.ensures;
}))

pub returns-in-None : goal.returns-in-None
returns-in-None c = rw (c.in-None.is, c.new.ensures) none_due
