use Rattle.std.proofs.Common.{vec_len}
use Rattle.pdp_checkpoint.proofs.PutPages.{ArePut}
use Rattle.pdp_checkpoint.proofs.patched.ReadyPatch.put.Given as goal

abbrev pub invariant-loop-new : goal.invariant-loop-new
invariant-loop-new l = ArePut l.page l.initial.kept l.kept l.pages.items

abbrev pub decreases-loop-new : goal.decreases-loop-new
decreases-loop-new l = vec_len l.pages
