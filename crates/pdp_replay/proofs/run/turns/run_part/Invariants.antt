use Rattle.std.proofs.Common.{◌≡◌, ℕ, ◌-◌}
use Rattle.pdp_replay.specs.Run.KeptRuns.{IsUnderWay, RunsUpTo}
use Rattle.pdp_replay.specs.Past.{Past}
use Rattle.pdp_replay.proofs.run.turns.run_part.Given as goal

abbrev pub invariant-loop-machine : goal.invariant-loop-machine
invariant-loop-machine l = record {
  way : (p : Past) (known : ℕ) → p.script ≡ l.script → IsUnderWay p known l.fn.machine → IsUnderWay p known l.machine;
  runs : RunsUpTo l.to l.fn.machine l.machine l.fn.meter l.meter;
}

abbrev pub decreases-loop-machine : goal.decreases-loop-machine
decreases-loop-machine l = l.to - l.machine.state.turn
