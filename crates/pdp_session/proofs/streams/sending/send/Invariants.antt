use Rattle.std.proofs.Common.{◌≡◌, List, ℕ, ◌++◌, length}
use Rattle.pdp_session.specs.Inside.Sends.{Sent}
use Rattle.pdp_session.proofs.streams.sending.send.Given as goal

abbrev pub invariant-loop-rest : goal.invariant-loop-rest
invariant-loop-rest g l = record {
  front : List ℕ;
  split : l.bytes ≡ front ++ l.rest;
  sent : Sent front (g.W.Drain.output l.fn.writer) (g.W.Drain.output l.writer);
}

abbrev pub decreases-loop-rest : goal.decreases-loop-rest
decreases-loop-rest g l = length l.rest
