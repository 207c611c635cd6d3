use Rattle.pdp_rk11.proofs.WriteLaws.{read_back}
use Rattle.pdp_rk11.proofs.laws.what_is_written_and_read_back_is_the_same.Goals as goal

-- src/laws.rt
pub returns : goal.returns
returns c = read_back
