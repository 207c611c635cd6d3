use Rattle.pdp_instruction.proofs.PlansKeepStatus.{stopped_fetch_keeps_status, stopped_plan_keeps_status}
use Rattle.pdp_instruction.proofs.laws.what_cannot_go_on_leaves_the_codes.Goals as goal

pub returns-clause-fetch : goal.returns-clause-fetch
returns-clause-fetch c = stopped_fetch_keeps_status

pub returns-clause-plan : goal.returns-clause-plan
returns-clause-plan c = stopped_plan_keeps_status
