use Rattle.pdp_unibus.proofs.Kept.{begun_keeps_tape}
use Rattle.pdp_unibus.proofs.TapeLaws.{reads_take_the_next}
use Rattle.pdp_unibus.proofs.laws.reads_take_the_next_byte.Goals as goal

-- src/laws.rt
pub returns-clause-next : goal.returns-clause-next
returns-clause-next c = reads_take_the_next

pub returns-clause-tape : goal.returns-clause-tape
returns-clause-tape c = begun_keeps_tape
