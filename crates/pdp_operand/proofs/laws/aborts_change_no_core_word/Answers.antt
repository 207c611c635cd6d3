use Rattle.pdp_operand.proofs.Aborts.{aborts_leave, read_only_keeps, told_aborts_leave}
use Rattle.pdp_operand.proofs.laws.aborts_change_no_core_word.Goals as goal

-- src/laws.rt
pub returns-clause-aborted : goal.returns-clause-aborted
returns-clause-aborted c = aborts_leave

pub returns-clause-told : goal.returns-clause-told
returns-clause-told c = told_aborts_leave

pub returns-clause-read_only : goal.returns-clause-read_only
returns-clause-read_only c = read_only_keeps
