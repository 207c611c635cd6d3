use Rattle.std.proofs.Common.{◌-◌}
use Rattle.pdp_replay.specs.Run.KeptRuns.{Advances, ArrivesAt, GoesOn}
use Rattle.pdp_replay.proofs.run.kept_run.KeptRun.forward.Given as goal

abbrev pub invariant-loop-alloc : goal.invariant-loop-alloc
invariant-loop-alloc l = record {
  way : GoesOn l.script l.fn.self l.self;
  there : ArrivesAt l.self.machine.state.turn l.fn.self l.self;
  on : Advances l.fn.self.machine.state.turn l.to l.fn.self l.self;
}

abbrev pub decreases-loop-alloc : goal.decreases-loop-alloc
decreases-loop-alloc l = l.to - l.self.machine.state.turn
