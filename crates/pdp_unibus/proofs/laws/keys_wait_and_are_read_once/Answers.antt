use Rattle.pdp_unibus.proofs.KeyLaws.{read_once, wait_until_read}
use Rattle.pdp_unibus.proofs.laws.keys_wait_and_are_read_once.Goals as goal

-- src/laws.rt
pub returns-clause-waiting : goal.returns-clause-waiting
returns-clause-waiting c = wait_until_read

pub returns-clause-once : goal.returns-clause-once
returns-clause-once c = read_once
