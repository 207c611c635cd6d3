use Rattle.pdp_session.proofs.WordLines.{AreWordsTo}
use Rattle.pdp_session.proofs.reply.send_words.Given as goal

abbrev pub invariant-loop-word : goal.invariant-loop-word
invariant-loop-word g l =
    AreWordsTo l.name l.words l.word-index (g.W.Drain.output l.fn.writer) (g.W.Drain.output l.writer)
