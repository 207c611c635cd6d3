use Rattle.pdp_replay.specs.Run.FormerRuns.{FollowsEach}
use Rattle.pdp_replay.specs.Run.KeptRuns.{Advances, ArrivesAt}
use Rattle.pdp_replay.proofs.run.kept_run.KeptRun.follow_each.Given as goal

abbrev pub invariant-loop-former : goal.invariant-loop-former
invariant-loop-former l = record {
  way : FollowsEach l.formers l.fn.self l.self;
  there : ArrivesAt l.self.machine.state.turn l.fn.self l.self;
  on : Advances l.fn.self.machine.state.turn l.to l.fn.self l.self;
}
