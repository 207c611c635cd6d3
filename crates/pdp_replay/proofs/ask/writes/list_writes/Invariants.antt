use Rattle.std.proofs.Common.{◌≡◌, ◌-◌, ◌≤◌, length}
use Rattle.pdp_replay.specs.Run.KeptRuns.{Advances, ArrivesAt, GoesOn}
use Rattle.pdp_replay.specs.Ask.Writes.{AreWritesFrom, CanList, turn_listed}
use Rattle.pdp_replay.proofs.ask.writes.list_writes.Given as goal

abbrev pub invariant-loop-writes : goal.invariant-loop-writes
invariant-loop-writes l = record {
  way : GoesOn l.script l.fn.run l.run;
  there : ArrivesAt l.run.machine.state.turn l.fn.run l.run;
  on : Advances l.fn.run.machine.state.turn l.to l.fn.run l.run;
  begun : l.fn.run.machine.state.turn ≤ l.run.machine.state.turn;
  can : CanList l.number l.script l.run;
  short : length l.writes.items ≤ 256;
  ended : length l.writes.items ≡ 256 → l.run.machine.state.turn ≡ turn_listed l.writes.items l.to;
  listed : AreWritesFrom l.script l.number l.run.machine.state.turn l.fn.run l.writes.items;
}

abbrev pub decreases-loop-writes : goal.decreases-loop-writes
decreases-loop-writes l = l.to - l.run.machine.state.turn
