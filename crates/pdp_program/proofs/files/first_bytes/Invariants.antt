-- What is held is what the feed gave, and no more than was wanted.
use Rattle.std.proofs.Common.{◌≡◌, ◌≤◌, length}
use Rattle.std.specs.Io.KnownBytes.{Consumes}
use Rattle.pdp_program.proofs.files.first_bytes.Given as goal

abbrev pub invariant-loop-chunk : goal.invariant-loop-chunk
invariant-loop-chunk g l = record {
  given : Consumes (g.R.Feed.input l.fn.feed).unread (g.R.Feed.input l.feed).unread l.bytes.items;
  bound : length l.bytes.items ≤ l.most;
  room : length l.chunk ≡ 4096;
}

abbrev pub decreases-loop-chunk : goal.decreases-loop-chunk
decreases-loop-chunk g l = (g.R.Feed.input l.feed).pulls
