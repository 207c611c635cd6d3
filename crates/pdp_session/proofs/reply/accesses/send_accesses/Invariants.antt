use Rattle.pdp_session.proofs.ListedLines.{AreDetailsTo}
use Rattle.pdp_session.proofs.reply.accesses.send_accesses.Given as goal

abbrev pub invariant-loop-index : goal.invariant-loop-index
invariant-loop-index g l =
    AreDetailsTo l.details l.more l.index (g.W.Drain.output l.fn.writer) (g.W.Drain.output l.writer)
