use Rattle.pdp_store.specs.Bases.{AreBasesBelow}
use Rattle.pdp_store.proofs.page_runs.put_bases.Given as goal

abbrev pub invariant-loop-place : goal.invariant-loop-place
invariant-loop-place l = AreBasesBelow l.place l.pages l.bases.items l.written.items
