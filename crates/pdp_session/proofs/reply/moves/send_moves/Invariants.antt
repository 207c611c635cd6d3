use Rattle.std.proofs.Common.{codes}
use Rattle.pdp_session.specs.MoveLines.{move_line}
use Rattle.pdp_session.proofs.ListedLines.{IsListedTo}
use Rattle.pdp_session.proofs.reply.moves.send_moves.Given as goal

abbrev pub invariant-loop-index : goal.invariant-loop-index
invariant-loop-index g l =
    IsListedTo (codes "moves") move_line l.details l.index (g.W.Drain.output l.fn.writer) (g.W.Drain.output l.writer)
