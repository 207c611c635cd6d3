use Rattle.pdp_kt11.proofs.ReadBackLaws.{address_back, descriptor_back, others_zero, power_in_range, status_back, uses_keep_range}
use Rattle.pdp_kt11.proofs.laws.registers_read_back.Goals as goal

-- src/laws.rt
pub returns-clause-others : goal.returns-clause-others
returns-clause-others c = others_zero

pub returns-clause-powered : goal.returns-clause-powered
returns-clause-powered c = power_in_range

pub returns-clause-kept : goal.returns-clause-kept
returns-clause-kept c = uses_keep_range

pub returns-clause-descriptor : goal.returns-clause-descriptor
returns-clause-descriptor c = descriptor_back

pub returns-clause-address : goal.returns-clause-address
returns-clause-address c = address_back

pub returns-clause-status : goal.returns-clause-status
returns-clause-status c = status_back
