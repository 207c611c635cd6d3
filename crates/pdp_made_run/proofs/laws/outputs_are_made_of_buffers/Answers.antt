use Rattle.pdp_made_run.proofs.Outputs.{prints_tell, punches_tell}
use Rattle.pdp_made_run.proofs.laws.outputs_are_made_of_buffers.Goals as goal

pub returns-clause-printed : goal.returns-clause-printed
returns-clause-printed c = prints_tell

pub returns-clause-punched : goal.returns-clause-punched
returns-clause-punched c = punches_tell
