use Rattle.std.proofs.Common.{◌-◌}
use Rattle.pdp_replay.specs.Run.KeptRuns.{RunsUpTo}
use Rattle.pdp_replay.specs.Ask.Counts.{AddsOnWay, AreAtMost}
use Rattle.pdp_replay.specs.Ask.Watches.{StaysOnWay}
use Rattle.pdp_replay.proofs.ask.counts.count_part.Given as goal

abbrev pub invariant-loop-words : goal.invariant-loop-words
invariant-loop-words l = record {
  way : StaysOnWay l.script l.fn.machine l.machine;
  counted : AddsOnWay l.script l.words l.fn.machine l.machine l.fn.counts.items l.counts.items;
  few : AreAtMost l.machine.state.turn l.counts.items;
  runs : RunsUpTo l.to l.fn.machine l.machine l.fn.meter l.meter;
}

abbrev pub decreases-loop-words : goal.decreases-loop-words
decreases-loop-words l = l.to - l.machine.state.turn
