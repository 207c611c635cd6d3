use Rattle.pdp_cpu.proofs.Logged.{logs_disturb_nothing, turn_keeps_no_log}
use Rattle.pdp_cpu.proofs.laws.logs_disturb_nothing.Goals as goal

-- src/laws.rt
pub returns-clause-any : goal.returns-clause-any
returns-clause-any c = logs_disturb_nothing

pub returns-clause-none : goal.returns-clause-none
returns-clause-none c = turn_keeps_no_log
