use Rattle.pdp_session.proofs.CountLines.{AreCountsTo}
use Rattle.pdp_session.proofs.reply.counts.send_counts.Given as goal

abbrev pub invariant-loop-index : goal.invariant-loop-index
invariant-loop-index g l = AreCountsTo l.counts l.index (g.W.Drain.output l.fn.writer) (g.W.Drain.output l.writer)
