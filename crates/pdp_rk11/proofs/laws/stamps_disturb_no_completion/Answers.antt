use Rattle.pdp_rk11.proofs.DiskStamps.{stamps_disturb_no_completion}
use Rattle.pdp_rk11.proofs.laws.stamps_disturb_no_completion.Goals as goal

-- src/laws.rt
pub returns : goal.returns
returns c = λ turn w stamps. stamps_disturb_no_completion turn w stamps
