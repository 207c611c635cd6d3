use Rattle.std.proofs.Common.{false, refl, true}
use Rattle.pdp_operand.specs.Phases.Phase.{state_of}
use Rattle.pdp_steps.specs.Steps.{latch_of}
use Rattle.pdp_moves.proofs.ActMoves.{executed, not_executed}
use Rattle.pdp_moves.proofs.noted_act.execute_noting.Goals as goal

pub returns-in-Ok : goal.returns-in-Ok
returns-in-Ok g c = λ saved. executed c.args.latch.now.instr saved (state_of c.args.processor.now c.args.bus.now (latch_of c.args.latch.now)) (state_of c.carry_out_noting.new.processor c.carry_out_noting.new.bus (latch_of c.carry_out_noting.new.latch)) (state_of c.note_trace.new.processor c.note_trace.new.bus (latch_of c.note_trace.new.latch))
    (record { plan = c.carry_out_noting.new.noted; saves_codes = false; sequence = c.clear.new.self }) c.carry_out_noting.ensures.made
    c.in-Ok.ensures.ends c.in-Ok.ensures.lost refl c.clear.ensures (c.note_trace.ensures saved)

pub returns-in-Err : goal.returns-in-Err
returns-in-Err g c = λ saved. not_executed c.args.latch.now.instr saved (state_of c.args.processor.now c.args.bus.now (latch_of c.args.latch.now)) (state_of c.carry_out_noting.new.processor c.carry_out_noting.new.bus (latch_of c.carry_out_noting.new.latch)) (state_of c.handle_noting.new.processor c.handle_noting.new.bus (latch_of c.handle_noting.new.latch))
    (record { plan = c.carry_out_noting.new.noted; saves_codes = true; sequence = c.handle_noting.new.noted }) c.carry_out_noting.ensures.made
    c.in-Err.trap c.in-Err.ensures.ends c.in-Err.ensures.lost refl c.handle_noting.ensures
