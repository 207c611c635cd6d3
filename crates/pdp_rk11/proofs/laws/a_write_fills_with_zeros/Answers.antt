use Rattle.pdp_rk11.proofs.WriteLaws.{write_leaves}
use Rattle.pdp_rk11.proofs.laws.a_write_fills_with_zeros.Goals as goal

-- src/laws.rt
pub returns : goal.returns
returns c = write_leaves
