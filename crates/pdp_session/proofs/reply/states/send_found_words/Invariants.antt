use Rattle.pdp_session.proofs.FoundLines.{AreFoundTo}
use Rattle.pdp_session.proofs.reply.states.send_found_words.Given as goal

abbrev pub invariant-loop-index : goal.invariant-loop-index
invariant-loop-index g l =
    AreFoundTo l.place l.found l.index (g.W.Drain.output l.fn.writer) (g.W.Drain.output l.writer)
