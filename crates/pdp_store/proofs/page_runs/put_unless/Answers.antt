use Rattle.pdp_store.proofs.PageRuns.{same_put}
use Rattle.pdp_store.proofs.page_runs.put_unless.Goals as goal

pub returns-then-are_there-clause-items : goal.returns-then-are_there-clause-items
returns-then-are_there-clause-items g c = same_put c.args.at c.args.part.now c.args.items.now (c.requires.same c.if-are_there.true)
