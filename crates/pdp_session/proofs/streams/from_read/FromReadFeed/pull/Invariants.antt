use Rattle.std.proofs.Common.{◌≡◌}
use Rattle.std.specs.Io.KnownBytes.{Keeps}
use Rattle.pdp_session.proofs.streams.from_read.FromReadFeed.pull.Given as goal

-- an attempt that failed took nothing
abbrev pub invariant-tries : goal.invariant-tries
invariant-tries g l = record {
  kept : Keeps (g.R.Read.remaining l.fn.self.reader) (g.R.Read.remaining l.self.reader);
  left : l.self.left ≡ l.fn.self.left;
  same : l.self.failed ≡ l.fn.self.failed;
}
