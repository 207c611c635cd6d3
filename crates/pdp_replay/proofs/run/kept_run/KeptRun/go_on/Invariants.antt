use Rattle.std.proofs.Common.{◌-◌}
use Rattle.pdp_replay.specs.Past.{Past}
use Rattle.pdp_replay.specs.Run.FormerRuns.{MeetsFormer}
use Rattle.pdp_replay.specs.Run.KeptRuns.{Advances, ArrivesAt}
use Rattle.pdp_replay.proofs.run.kept_run.KeptRun.go_on.Given as goal

abbrev pub invariant-loop-next : goal.invariant-loop-next
invariant-loop-next l = record {
  meets : (p : Past) → MeetsFormer p l.former l.fn.there l.fn.self → MeetsFormer p l.former l.met l.self;
  there : ArrivesAt l.self.machine.state.turn l.fn.self l.self;
  on : Advances l.fn.self.machine.state.turn l.to l.fn.self l.self;
}

abbrev pub decreases-loop-next : goal.decreases-loop-next
decreases-loop-next l = l.to - l.met.turn
