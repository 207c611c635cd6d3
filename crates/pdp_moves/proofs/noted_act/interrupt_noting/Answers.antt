use Rattle.std.proofs.Common.{refl, subst, true}
use Rattle.pdp_operand.specs.Phases.Phase.{state_of}
use Rattle.pdp_steps.specs.Steps.{latch_of}
use Rattle.pdp_made.specs.CourseRows.{sequence_rows}
use Rattle.pdp_moves.specs.CourseMoves.{IsNoted, sources_of_sequence}
use Rattle.pdp_moves.proofs.ActMoves.{alone}
use Rattle.pdp_moves.proofs.noted_act.interrupt_noting.Goals as goal

pub returns : goal.returns
returns g c = λ saved. alone c.args.marks c.args.vector saved (state_of c.args.processor.now c.args.bus.now (latch_of c.args.latch.now)) (state_of c.run_sequence_noting.new.processor c.run_sequence_noting.new.bus (latch_of c.run_sequence_noting.new.latch))
    (record { plan = c.clear.new.self; saves_codes = true; sequence = c.run_sequence_noting.new.noted }) c.clear.ensures.steps c.clear.ensures.lost refl
    (subst (λ saving. IsNoted (sequence_rows c.args.marks c.args.vector saving) saving.status.codes (state_of c.args.processor.now c.args.bus.now (latch_of c.args.latch.now)) (state_of c.run_sequence_noting.new.processor c.run_sequence_noting.new.bus (latch_of c.run_sequence_noting.new.latch)) (sources_of_sequence c.run_sequence_noting.new.noted)) c.of-context.ensures c.run_sequence_noting.ensures)
