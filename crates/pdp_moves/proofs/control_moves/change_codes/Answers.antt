use Rattle.pdp_made.specs.InstructionRows.{codes_outside}
use Rattle.pdp_moves.proofs.control_moves.change_codes.Goals as goal

pub returns : goal.returns
returns c = c.codes_moves.ensures (codes_outside c.args.mask) (record {
  negative = c.outside.ensures;
  zero = c.outside-2.ensures;
  overflow = c.outside-3.ensures;
  carry = c.outside-4.ensures;
})
