use Rattle.pdp_store.specs.Bases.{AreTakenBelow}
use Rattle.pdp_store.proofs.paged_store.Paged.pages.Given as goal

abbrev pub invariant-loop-place : goal.invariant-loop-place
invariant-loop-place l = AreTakenBelow l.place l.pages.items l.given l.self
