use Rattle.pdp_operand.specs.Phases.Phase.{state_of}
use Rattle.pdp_steps.specs.Steps.{latch_of}
use Rattle.pdp_moves.proofs.SequenceMoves.{red_caught, red_done}
use Rattle.pdp_moves.proofs.noted_sequence.run_red_noting.Goals as goal

pub returns-in-Ok-clause-noted : goal.returns-in-Ok-clause-noted
returns-in-Ok-clause-noted g c = red_done c.args.context c.steps_of_red-steps.result (state_of c.args.processor.now c.args.bus.now (latch_of c.args.latch.now)) (state_of c.note_plan.new.processor c.note_plan.new.bus (latch_of c.note_plan.new.latch))
    (record { first = c.args.noted.now.first; red = c.note_plan.new.noted; halt = c.clear.new.self })
    c.steps_of_red-steps.ensures.steps c.note_plan.ensures.made c.in-Ok.ensures.ends c.in-Ok.ensures.lost c.clear.ensures.steps c.clear.ensures.lost

pub returns-in-Err-clause-noted : goal.returns-in-Err-clause-noted
returns-in-Err-clause-noted g c = red_caught c.args.context c.steps_of_red-steps.result (state_of c.args.processor.now c.args.bus.now (latch_of c.args.latch.now)) (state_of c.note_plan.new.processor c.note_plan.new.bus (latch_of c.note_plan.new.latch))
    (record { first = c.args.noted.now.first; red = c.note_plan.new.noted; halt = c.give_up_noting.new.noted })
    c.steps_of_red-steps.ensures.steps c.note_plan.ensures.made c.in-Err._trap (state_of c.give_up_noting.new.processor c.give_up_noting.new.bus (latch_of c.give_up_noting.new.latch)) c.in-Err.ensures.ends c.in-Err.ensures.lost c.give_up_noting.ensures
