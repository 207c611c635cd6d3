use Rattle.pdp_session.proofs.ListedLines.{AreReadsTo}
use Rattle.pdp_session.proofs.reply.reads.send_reads.Given as goal

abbrev pub invariant-loop-index : goal.invariant-loop-index
invariant-loop-index g l =
    AreReadsTo l.reads l.more l.index (g.W.Drain.output l.fn.writer) (g.W.Drain.output l.writer)
