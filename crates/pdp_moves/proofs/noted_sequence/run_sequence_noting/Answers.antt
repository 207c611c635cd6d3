use Rattle.std.proofs.Common.{◌∙◌, Some, ap, subst, sym}
use Rattle.pdp_operand.specs.Phases.Phase.{state_of}
use Rattle.pdp_steps.specs.Steps.{latch_of}
use Rattle.pdp_moves.proofs.SequenceMoves.{IsMade, sequence_caught, sequence_done}
use Rattle.pdp_moves.proofs.noted_sequence.run_sequence_noting.Goals as goal

pub returns-in-Ok : goal.returns-in-Ok
returns-in-Ok g c = sequence_done c.args.marks c.args.vector c.args.context c.steps_of_sequence-steps.result (state_of c.args.processor.now c.args.bus.now (latch_of c.args.latch.now)) (state_of c.note_plan.new.processor c.note_plan.new.bus (latch_of c.note_plan.new.latch))
    (record { first = c.note_plan.new.noted; red = c.clear.new.self; halt = c.clear-in-Ok.new.self })
    c.steps_of_sequence-steps.ensures.steps c.note_plan.ensures.made c.in-Ok.ensures.ends c.in-Ok.ensures.lost
    c.clear.ensures.steps c.clear.ensures.lost c.clear-in-Ok.ensures.steps c.clear-in-Ok.ensures.lost

pub returns-in-Err : goal.returns-in-Err
returns-in-Err g c = sequence_caught c.args.marks c.args.vector c.args.context c.steps_of_sequence-steps.result (state_of c.args.processor.now c.args.bus.now (latch_of c.args.latch.now)) (state_of c.note_plan.new.processor c.note_plan.new.bus (latch_of c.note_plan.new.latch)) c.run_red_noting.new.noted
    c.steps_of_sequence-steps.ensures.steps
    (subst (λ plan. IsMade c.steps_of_sequence-steps.result (Some 3) (state_of c.args.processor.now c.args.bus.now (latch_of c.args.latch.now)) plan) (sym c.run_red_noting.ensures.first) c.note_plan.ensures.made)
    c.in-Err._trap (state_of c.run_red_noting.new.processor c.run_red_noting.new.bus (latch_of c.run_red_noting.new.latch)) c.in-Err.ensures.ends (ap (λ plan. plan.is_lost) c.run_red_noting.ensures.first ∙ c.in-Err.ensures.lost)
    c.run_red_noting.ensures.noted
