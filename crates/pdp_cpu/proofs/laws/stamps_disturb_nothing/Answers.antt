use Rattle.pdp_cpu.proofs.Carried.{stamps_disturb_nothing}
use Rattle.pdp_cpu.proofs.laws.stamps_disturb_nothing.Goals as goal

pub returns : goal.returns
returns c = λ t events w stamps. stamps_disturb_nothing t events w stamps
