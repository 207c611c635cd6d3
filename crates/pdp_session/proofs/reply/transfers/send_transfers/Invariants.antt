use Rattle.std.proofs.Common.{length}
use Rattle.pdp_session.specs.Transfers.{transfer_line, transfers_head}
use Rattle.pdp_session.proofs.ListedLines.{AreLinesTo}
use Rattle.pdp_session.proofs.reply.transfers.send_transfers.Given as goal

abbrev pub invariant-loop-index : goal.invariant-loop-index
invariant-loop-index g l =
    AreLinesTo (transfers_head (length l.completions) l.more) transfer_line l.completions l.index (g.W.Drain.output l.fn.writer) (g.W.Drain.output l.writer)
