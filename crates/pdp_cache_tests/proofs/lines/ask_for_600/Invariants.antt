-- each kept line is the decoding of core
use Rattle.pdp_icache.specs.KeptLines.{AreCurrent}
use Rattle.pdp_cache_tests.proofs.lines.ask_for_600.Given as goal

abbrev pub invariant-loop-number : goal.invariant-loop-number
invariant-loop-number l = AreCurrent l.core.words l.lines
