use Rattle.pdp_store.specs.DriveBackings.{AreZeros}
use Rattle.pdp_store.proofs.paged_drive.zero_pages.Given as goal

abbrev pub invariant-loop : goal.invariant-loop
invariant-loop l = AreZeros l.counter l.pages.items
