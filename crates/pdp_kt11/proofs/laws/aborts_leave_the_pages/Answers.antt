use Rattle.pdp_kt11.proofs.AbortLaws.{abort_leaves_pages}
use Rattle.pdp_kt11.proofs.laws.aborts_leave_the_pages.Goals as goal

-- src/laws.rt
pub returns : goal.returns
returns c = abort_leaves_pages
