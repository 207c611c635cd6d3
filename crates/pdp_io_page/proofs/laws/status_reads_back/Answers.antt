use Rattle.pdp_io_page.proofs.StatusLaws.{status_back, whole_status, written_back, written_register, written_status}
use Rattle.pdp_io_page.proofs.laws.status_reads_back.Goals as goal

-- src/laws.rt
pub returns-clause-word : goal.returns-clause-word
returns-clause-word c = written_status

pub returns-clause-register : goal.returns-clause-register
returns-clause-register c = written_register

pub returns-clause-unchanged : goal.returns-clause-unchanged
returns-clause-unchanged c = written_back

pub returns-clause-whole : goal.returns-clause-whole
returns-clause-whole c = whole_status

pub returns-clause-same : goal.returns-clause-same
returns-clause-same c = status_back
