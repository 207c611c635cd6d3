use Rattle.std.proofs.Common.{take}
use Rattle.pdp_checkpoint.specs.Patched.{AreNewPagesFor}
use Rattle.pdp_checkpoint.proofs.patched.new_pages.Given as goal

abbrev pub invariant-loop-checkpoint : goal.invariant-loop-checkpoint
invariant-loop-checkpoint l = AreNewPagesFor l.page (take l.checkpoint-index l.kept) l.pages.items
