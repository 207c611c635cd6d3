use Rattle.std.proofs.Common.{◌≡◌, ◌∙◌, subst, sym}
use Rattle.pdp_operand.specs.Phases.Phase.{state_of}
use Rattle.pdp_steps.specs.Steps.{latch_of}
use Rattle.pdp_operand.specs.Phases.Course.{follow}
use Rattle.pdp_cpu.specs.Handbook.Due.{course_of}
use Rattle.pdp_made.specs.Cells.{no_saved_codes}
use Rattle.pdp_made.specs.CourseRows.{made_along}
use Rattle.pdp_made_run.specs.TurnRows.{rows_of_due}
use Rattle.pdp_moves.specs.CourseMoves.{sources_of_act}
use Rattle.pdp_turn_moves.specs.Acts.{named_due}
use Rattle.pdp_turn_moves.proofs.Dues.{due_followed}
use Rattle.pdp_turn_moves.proofs.act_moves.act_noting.Goals as goal

pub returns-clause-follows : goal.returns-clause-follows
returns-clause-follows g c = subst (λ what. follow (course_of what) (state_of c.args.processor.now c.args.bus.now (latch_of c.args.latch.now)) ≡ (state_of c.run_due.new.processor c.run_due.new.bus (latch_of c.run_due.new.latch))) c.of-due.ensures
    (sym (due_followed (named_due c.of-due.result) no_saved_codes (state_of c.args.processor.now c.args.bus.now (latch_of c.args.latch.now))) ∙ (c.run_due.ensures no_saved_codes).follows)

pub returns-clause-made : goal.returns-clause-made
returns-clause-made g c = λ saved cell. subst (λ what. sources_of_act c.run_due.new.noted cell ≡ made_along (rows_of_due what) saved (state_of c.args.processor.now c.args.bus.now (latch_of c.args.latch.now)) cell) c.of-due.ensures
    ((c.run_due.ensures saved).made cell)
