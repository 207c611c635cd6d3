use Rattle.pdp_store.proofs.Stamps.{last_of_stamps}
use Rattle.pdp_store.proofs.laws.traces_leave_last_writes.Goals as goal

-- src/laws.rt
pub returns : goal.returns
returns c = λ xs stamps word within. last_of_stamps xs stamps word within
