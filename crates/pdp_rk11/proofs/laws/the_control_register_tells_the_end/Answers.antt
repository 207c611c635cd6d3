use Rattle.pdp_rk11.proofs.StatusLaws.{completions_set_ready, errors_are_told, hard_errors_are_told}
use Rattle.pdp_rk11.proofs.laws.the_control_register_tells_the_end.Goals as goal

-- src/laws.rt
pub returns-clause-ready : goal.returns-clause-ready
returns-clause-ready c = completions_set_ready

pub returns-clause-error : goal.returns-clause-error
returns-clause-error c = errors_are_told

pub returns-clause-hard_error : goal.returns-clause-hard_error
returns-clause-hard_error c = hard_errors_are_told
