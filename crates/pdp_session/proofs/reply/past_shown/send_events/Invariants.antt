use Rattle.std.proofs.Common.{codes}
use Rattle.pdp_session.specs.PastShown.{event_line}
use Rattle.pdp_session.proofs.ListedLines.{IsListedTo}
use Rattle.pdp_session.proofs.reply.past_shown.send_events.Given as goal

abbrev pub invariant-loop-index : goal.invariant-loop-index
invariant-loop-index g l =
    IsListedTo (codes "events") event_line l.events l.index (g.W.Drain.output l.fn.writer) (g.W.Drain.output l.writer)
