use Rattle.std.proofs.Common.{◌≡◌, ◌-◌, ◌*◌, ◌≤◌, ◌<◌, length}
use Rattle.pdp_replay.specs.Ask.Reads.{AreReadsFrom, RunsLogging, log_of_first_read, reads_end}
use Rattle.pdp_replay.proofs.ask.reads.list_reads.Given as goal

abbrev pub invariant-loop-reads : goal.invariant-loop-reads
invariant-loop-reads l = record {
  on : RunsLogging l.to l.script (log_of_first_read (l.number * 2)) l.fn.branch.machine.state l.branch.machine.state l.fn.meter l.meter;
  within : l.number < length l.branch.machine.state.world.bus.core;
  short : length l.reads.items ≤ 256;
  ended : length l.reads.items ≡ 256 → l.branch.machine.state.turn ≡ reads_end l.reads.items l.to;
  listed : AreReadsFrom l.branch.machine.state.turn l.script l.number l.fn.branch.machine.state l.reads.items;
}

abbrev pub decreases-loop-reads : goal.decreases-loop-reads
decreases-loop-reads l = l.to - l.branch.machine.state.turn
