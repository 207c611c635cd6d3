use Rattle.std.proofs.Common.{◌∙◌, None, ap}
use Rattle.pdp_operand.specs.Phases.Phase.{state_of}
use Rattle.pdp_made.specs.InstructionRows.{rows_of_action}
use Rattle.pdp_made.specs.PhaseRows.{made_through}
use Rattle.pdp_steps.specs.Steps.{latch_of}
use Rattle.pdp_moves.specs.PlanRows.{rows_of_steps}
use Rattle.pdp_moves.proofs.ActionSteps.{action_rows}
use Rattle.pdp_moves.proofs.noted_plan.carry_out_noting.Goals as goal

pub returns-clause-made : goal.returns-clause-made
returns-clause-made g c = λ saved cell. c.note_plan.ensures.made saved cell
    ∙ ap (λ rows. made_through rows saved (state_of c.args.processor.now c.args.bus.now (latch_of c.args.latch.now)) cell)
    (ap (rows_of_steps None) (c.as_slice.ensures.value ∙ c.steps_of-steps.ensures.steps) ∙ action_rows c.action_of.result ∙ ap rows_of_action c.action_of.ensures)
