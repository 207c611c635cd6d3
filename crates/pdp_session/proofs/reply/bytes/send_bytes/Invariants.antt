use Rattle.std.proofs.Common.{◌≡◌, ℕ, List, ◌++◌, length}
use Rattle.pdp_session.proofs.ByteLines.{IsShownTo}
use Rattle.pdp_session.proofs.reply.bytes.send_bytes.Given as goal

abbrev pub invariant-loop-rest : goal.invariant-loop-rest
invariant-loop-rest g l = record {
  front : List ℕ;
  split : l.bytes ≡ front ++ l.rest;
  writes : IsShownTo l.name l.bytes front (g.W.Drain.output l.fn.writer) (g.W.Drain.output l.writer);
}

abbrev pub decreases-loop-rest : goal.decreases-loop-rest
decreases-loop-rest g l = length l.rest
