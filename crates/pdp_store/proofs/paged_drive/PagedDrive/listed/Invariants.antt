-- the pages so far are those of the places so far
use Rattle.std.proofs.Common.{◌*◌, take}
use Rattle.pdp_store.specs.DriveBackings.{AreTaken}
use Rattle.pdp_store.proofs.paged_drive.PagedDrive.listed.Given as goal

abbrev pub invariant-loop-place : goal.invariant-loop-place
invariant-loop-place l = AreTaken l.list.items l.given (take (l.place * 256) l.self.words) (take l.place l.self.bases) l.self.given
