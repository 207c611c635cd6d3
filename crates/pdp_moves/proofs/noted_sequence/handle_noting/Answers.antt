use Rattle.std.proofs.Common.{◌≡◌, ◌∙◌, ap, arith, rules, subst, sym}
use Rattle.pdp_action.specs.declared.trap.Trap.TheVariants.{StackLimit}
use Rattle.pdp_operand.specs.Phases.Phase.{state_of}
use Rattle.pdp_steps.specs.Steps.{latch_of}
use Rattle.pdp_instruction.specs.Handbook.TrapSequence.{context}
use Rattle.pdp_made.specs.CourseRows.{after_trap_rows, red_course_rows}
use Rattle.pdp_moves.specs.CourseMoves.{IsNoted, sources_of_red, sources_of_sequence}
use Rattle.pdp_moves.proofs.SequenceMoves.{red_alone}
use Rattle.pdp_moves.proofs.noted_sequence.handle_noting.Goals as goal

pub returns-then-eq : goal.returns-then-eq
returns-then-eq g c =
    let is : c.args.trap ≡ StackLimit = first_of (search rules, grind arith) in
    subst (λ trap. IsNoted (after_trap_rows trap (context c.args.processor.now c.args.bus.now.io_page)) c.args.bus.now.io_page.status.codes (state_of c.args.processor.now c.args.bus.now (latch_of c.args.latch.now)) (state_of c.run_red_noting.new.processor c.run_red_noting.new.bus (latch_of c.run_red_noting.new.latch)) (sources_of_sequence c.run_red_noting.new.noted)) (sym is)
    (red_alone (context c.args.processor.now c.args.bus.now.io_page) (state_of c.args.processor.now c.args.bus.now (latch_of c.args.latch.now)) (state_of c.run_red_noting.new.processor c.run_red_noting.new.bus (latch_of c.run_red_noting.new.latch)) c.run_red_noting.new.noted
    (ap (λ plan. plan.steps.items) c.run_red_noting.ensures.first ∙ c.clear.ensures.steps) (ap (λ plan. plan.is_lost) c.run_red_noting.ensures.first ∙ c.clear.ensures.lost)
    (subst (λ saving. IsNoted (red_course_rows saving) saving.status.codes (state_of c.args.processor.now c.args.bus.now (latch_of c.args.latch.now)) (state_of c.run_red_noting.new.processor c.run_red_noting.new.bus (latch_of c.run_red_noting.new.latch)) (sources_of_red c.run_red_noting.new.noted)) c.of-context.ensures c.run_red_noting.ensures.noted))
