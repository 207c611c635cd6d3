use Rattle.pdp_kt11.proofs.AbortLaws.{read_only}
use Rattle.pdp_kt11.proofs.laws.read_only_pages_are_never_written.Goals as goal

-- src/laws.rt
pub returns : goal.returns
returns c = read_only
