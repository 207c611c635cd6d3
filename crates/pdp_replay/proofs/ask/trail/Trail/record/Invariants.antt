use Rattle.std.proofs.Common.{◌≡◌, ◌+◌, length}
use Rattle.pdp_replay.specs.Run.KeptRuns.{Advances, ArrivesAt, GoesOn}
use Rattle.pdp_replay.specs.Past.{Past}
use Rattle.pdp_replay.specs.Run.States.{at}
use Rattle.pdp_replay.specs.Ask.Trails.{trail_of}
use Rattle.pdp_replay.proofs.ask.trail.Trail.record.Given as goal

abbrev pub invariant-loop-done : goal.invariant-loop-done
invariant-loop-done l = record {
  way : GoesOn l.script l.fn.run l.run;
  there : ArrivesAt (l.fn.run.machine.state.turn + l._done) l.fn.run l.run;
  on : Advances l.fn.run.machine.state.turn (l.fn.run.machine.state.turn + l.count) l.fn.run l.run;
  here : (p : Past) → p.script ≡ l.script → l.fn.run.machine.state ≡ at p l.fn.run.machine.state.turn
      → l.run.machine.state ≡ at p (l.fn.run.machine.state.turn + l._done);
  listed : (p : Past) → p.script ≡ l.script → l.fn.run.machine.state ≡ at p l.fn.run.machine.state.turn
      → l.entries.items ≡ trail_of p l.fn.run.machine.state.turn l._done;
  size : length l.entries.items ≡ l._done;
  capacity : l.entries.capacity ≡ l.count;
}
