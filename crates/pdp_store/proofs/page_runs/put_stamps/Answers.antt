use Rattle.std.proofs.Common.{rules}
use Rattle.pdp_store.proofs.PageRuns.{put_ends, put_more}
use Rattle.pdp_store.proofs.page_runs.put_stamps.Goals as goal

-- whatever the body calls
pub loop-page-preserved : goal.loop-page-preserved
loop-page-preserved c = record { here = search (rules, put_ends); items = search (rules, put_more) }
