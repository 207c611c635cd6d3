use Rattle.pdp_session.proofs.ListedLines.{AreWritesTo}
use Rattle.pdp_session.proofs.reply.findings.send_writes.Given as goal

abbrev pub invariant-loop-index : goal.invariant-loop-index
invariant-loop-index g l =
    AreWritesTo l.writes l.more l.index (g.W.Drain.output l.fn.writer) (g.W.Drain.output l.writer)
