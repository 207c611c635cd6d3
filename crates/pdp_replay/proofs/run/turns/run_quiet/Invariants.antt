use Rattle.std.proofs.Common.{ℕ, ◌-◌}
use Rattle.pdp_replay.specs.Run.KeptRuns.{IsUnderWay, IsWithoutEvents, RunsUpTo}
use Rattle.pdp_replay.specs.Past.{Past}
use Rattle.pdp_replay.proofs.run.turns.run_quiet.Given as goal

abbrev pub invariant-loop-machine : goal.invariant-loop-machine
invariant-loop-machine l = record {
  way : (p : Past) (known : ℕ) → IsWithoutEvents p l.fn.machine.state.turn l.to
      → IsUnderWay p known l.fn.machine → IsUnderWay p known l.machine;
  runs : RunsUpTo l.to l.fn.machine l.machine l.fn.meter l.meter;
}

abbrev pub decreases-loop-machine : goal.decreases-loop-machine
decreases-loop-machine l = l.to - l.machine.state.turn
