use Rattle.std.proofs.Common.{◌∙◌, sym}
use Rattle.pdp_operand.specs.Phases.Phase.{state_of}
use Rattle.pdp_steps.specs.Steps.{latch_of}
use Rattle.pdp_made.specs.Cells.{no_saved_codes}
use Rattle.pdp_made.proofs.Courses.{instruction_followed}
use Rattle.pdp_moves.proofs.noted_act.instruct_noting.Goals as goal

pub returns-clause-follows : goal.returns-clause-follows
returns-clause-follows g c = sym (instruction_followed no_saved_codes (state_of c.args.processor.now c.args.bus.now (latch_of c.args.latch.now))) ∙ (c.run_instruction.ensures no_saved_codes).follows

pub returns-clause-made : goal.returns-clause-made
returns-clause-made g c = λ saved cell. (c.run_instruction.ensures saved).made cell
