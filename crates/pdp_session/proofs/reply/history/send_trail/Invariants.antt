use Rattle.std.proofs.Common.{codes}
use Rattle.pdp_session.specs.Reply.{entry_line}
use Rattle.pdp_session.proofs.ListedLines.{IsListedTo}
use Rattle.pdp_session.proofs.reply.history.send_trail.Given as goal

abbrev pub invariant-loop-index : goal.invariant-loop-index
invariant-loop-index g l =
    IsListedTo (codes "trail") entry_line l.trail l.index (g.W.Drain.output l.fn.writer) (g.W.Drain.output l.writer)
