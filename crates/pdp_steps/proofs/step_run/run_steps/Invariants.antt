-- the run from the start is that of the steps that are left, from the state now
use Rattle.std.proofs.Common.{◌≡◌, drop, map}
use Rattle.pdp_operand.specs.Phases.Phase.{run, state_of}
use Rattle.pdp_steps.specs.Contract.{AreReady}
use Rattle.pdp_steps.specs.Steps.{latch_of, phase_of}
use Rattle.pdp_steps.proofs.step_run.run_steps.Given as goal

abbrev pub invariant-loop-step : goal.invariant-loop-step
invariant-loop-step g l =
    run (map phase_of l.steps) (state_of l.initial.processor l.initial.bus (latch_of l.initial.latch))
    ≡ run (map phase_of (drop l.step-index l.steps)) (state_of l.processor l.bus (latch_of l.latch))
    × AreReady (drop l.step-index l.steps) l.latch.result
