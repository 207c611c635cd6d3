use Rattle.pdp_unibus.proofs.OutputLaws.{bytes_are_printed, bytes_are_punched}
use Rattle.pdp_unibus.proofs.laws.bytes_come_out_as_operations_end.Goals as goal

-- src/laws.rt
pub returns-clause-printed : goal.returns-clause-printed
returns-clause-printed c = bytes_are_printed

pub returns-clause-punched : goal.returns-clause-punched
returns-clause-punched c = bytes_are_punched
