use Rattle.std.proofs.Common.{◌-◌, ◌≤◌}
use Rattle.pdp_replay.specs.Run.KeptRuns.{Advances, ArrivesAt, GoesOn}
use Rattle.pdp_replay.specs.Ask.Counts.{AreAtMost, AreCountsTo}
use Rattle.pdp_replay.proofs.ask.counts.count_turns.Given as goal

abbrev pub invariant-loop-alloc : goal.invariant-loop-alloc
invariant-loop-alloc l = record {
  way : GoesOn l.script l.fn.run l.run;
  there : ArrivesAt l.run.machine.state.turn l.fn.run l.run;
  on : Advances l.fn.run.machine.state.turn l.to l.fn.run l.run;
  begun : l.fn.run.machine.state.turn ≤ l.run.machine.state.turn;
  few : AreAtMost l.run.machine.state.turn l.counts.items;
  counted : AreCountsTo l.run.machine.state.turn l.script l.words l.fn.run l.counts.items;
}

abbrev pub decreases-loop-alloc : goal.decreases-loop-alloc
decreases-loop-alloc l = l.to - l.run.machine.state.turn
