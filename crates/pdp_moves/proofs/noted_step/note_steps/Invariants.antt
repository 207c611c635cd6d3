-- the steps before this one were run and noted
use Rattle.pdp_operand.specs.Phases.Phase.{state_of}
use Rattle.pdp_steps.specs.Steps.{latch_of}
use Rattle.pdp_moves.proofs.PlanMoves.{IsAlong}
use Rattle.pdp_moves.proofs.noted_step.note_steps.Given as goal

abbrev pub invariant-loop-step : goal.invariant-loop-step
invariant-loop-step g l = IsAlong l.saving l.steps l.step-index l.noted.items (state_of l.initial.processor l.initial.bus (latch_of l.initial.latch))
    (state_of l.processor l.bus (latch_of l.latch)) l.latch.result
