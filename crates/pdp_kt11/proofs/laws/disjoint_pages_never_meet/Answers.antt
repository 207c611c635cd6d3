use Rattle.pdp_kt11.proofs.PageLaws.{never_meet}
use Rattle.pdp_kt11.proofs.laws.disjoint_pages_never_meet.Goals as goal

-- src/laws.rt
pub returns : goal.returns
returns c = never_meet
