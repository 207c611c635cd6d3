use Rattle.std.proofs.Common.{◌≡◌, ◌-◌, ◌≤◌, length}
use Rattle.pdp_replay.specs.Run.KeptRuns.{Advances, ArrivesAt, GoesOn}
use Rattle.pdp_replay.specs.Ask.DiskCompletions.{AreCompletionsFrom, IsLastIdleFrom, completions_end}
use Rattle.pdp_replay.proofs.ask.disk_completions.list_completions.Given as goal

abbrev pub invariant-loop-completions : goal.invariant-loop-completions
invariant-loop-completions l = record {
  way : GoesOn l.script l.fn.run l.run;
  there : ArrivesAt l.run.machine.state.turn l.fn.run l.run;
  on : Advances l.fn.run.machine.state.turn l.to l.fn.run l.run;
  started : l.fn.run.machine.state.turn ≤ l.run.machine.state.turn;
  short : length l.completions.items ≤ 256;
  ended : length l.completions.items ≡ 256 → l.run.machine.state.turn ≡ completions_end l.completions.items l.to;
  listed : AreCompletionsFrom l.run.machine.state.turn l.script l.fn.run l.completions.items;
  idle : IsLastIdleFrom l.run.machine.state.turn l.script l.fn.run l.begun;
}

abbrev pub decreases-loop-completions : goal.decreases-loop-completions
decreases-loop-completions l = l.to - l.run.machine.state.turn
