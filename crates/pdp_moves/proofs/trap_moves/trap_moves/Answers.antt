use Rattle.std.proofs.Common.{◌+◌}
use Rattle.pdp_word.specs.declared.size.Size.TheVariants.{Word}
use Rattle.pdp_kt11.specs.declared.mode.Mode.TheVariants.{Kernel}
use Rattle.pdp_made.specs.ReferenceRows.{halves_referred}
use Rattle.pdp_steps.specs.Steps.{latch_of}
use Rattle.pdp_moves.proofs.trap_moves.trap_moves.Goals as goal

pub returns-in-ReadStatus : goal.returns-in-ReadStatus
returns-in-ReadStatus g c = λ p. rw c.in-ReadStatus.is
    (c.status_moves.ensures (halves_referred Word Kernel (c.in-ReadStatus.vector + 2) c.args.bus.now) c.referred.ensures)

pub returns-in-PutWord : goal.returns-in-PutWord
returns-in-PutWord g c = λ p. rw c.in-PutWord.is (c.put_at.ensures p (latch_of c.args.latch.now))
