use Rattle.std.proofs.Common.{◌≡◌, ◌-◌, ◌≤◌}
use Rattle.pdp_replay.specs.Run.KeptRuns.{Advances, ArrivesAt, GoesOn, IsOnWay}
use Rattle.pdp_replay.specs.Past.{Past}
use Rattle.pdp_replay.specs.Ask.Backwards.{IsLastOf}
use Rattle.pdp_replay.specs.Ask.Watches.{IsInside, is_watched_at}
use Rattle.pdp_replay.proofs.ask.backwards.search_last.Given as goal

abbrev pub invariant-loop-alloc : goal.invariant-loop-alloc
invariant-loop-alloc l = record {
  way : GoesOn l.script l.fn.run l.run;
  there : ArrivesAt l.run.machine.state.turn l.fn.run l.run;
  on : Advances l.fn.run.machine.state.turn l.to l.fn.run l.run;
  begun : l.fn.run.machine.state.turn ≤ l.run.machine.state.turn;
  inside : IsInside l.watch l.run.machine;
  last : (p : Past) → p.script ≡ l.script → IsOnWay p l.fn.run
      → IsLastOf (is_watched_at p l.watch) l.fn.run.machine.state.turn l.run.machine.state.turn l.last;
}

abbrev pub decreases-loop-alloc : goal.decreases-loop-alloc
decreases-loop-alloc l = l.to - l.run.machine.state.turn
