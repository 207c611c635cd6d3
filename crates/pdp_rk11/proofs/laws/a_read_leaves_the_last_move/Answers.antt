use Rattle.pdp_rk11.proofs.ReadLaws.{read_leaves}
use Rattle.pdp_rk11.proofs.laws.a_read_leaves_the_last_move.Goals as goal

-- src/laws.rt
pub returns : goal.returns
returns c = read_leaves
