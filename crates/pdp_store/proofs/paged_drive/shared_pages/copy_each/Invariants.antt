-- the pages so far are copied
use Rattle.pdp_store.proofs.DriveTaken.{AreCopied}
use Rattle.pdp_store.proofs.paged_drive.shared_pages.copy_each.Given as goal

abbrev pub invariant-loop-place : goal.invariant-loop-place
invariant-loop-place l = AreCopied l.place l.pages l.own.items l.backings.items
