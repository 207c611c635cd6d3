use Rattle.std.proofs.Common.{◌≡◌}
use Rattle.std.specs.Io.KnownBytes.{Keeps}
use Rattle.pdp_session.proofs.streams.to_write.ToWriteDrain.put.Given as goal

-- an attempt that failed wrote nothing
abbrev pub invariant-tries : goal.invariant-tries
invariant-tries g l = record {
  kept : Keeps (g.W.Write.contents l.fn.self.writer) (g.W.Write.contents l.self.writer);
  same : l.self.failed ≡ l.fn.self.failed;
}
