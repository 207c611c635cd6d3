use Rattle.std.proofs.Common.{refl}
use Rattle.pdp_operand.specs.Phases.Phase.{state_of}
use Rattle.pdp_steps.specs.Steps.{latch_of}
use Rattle.pdp_moves.proofs.ActMoves.{not_traced, traced}
use Rattle.pdp_moves.proofs.noted_act.note_trace.Goals as goal

pub returns-in-Ok : goal.returns-in-Ok
returns-in-Ok g c = λ saved. traced c.args.instr saved (state_of c.args.processor.now c.args.bus.now (latch_of c.args.latch.now)) (state_of c.run_step.new.processor c.run_step.new.bus (latch_of c.run_step.new.latch)) c.in-Ok.ensures.phase

pub returns-in-Err : goal.returns-in-Err
returns-in-Err g c = λ saved. not_traced c.args.instr saved (state_of c.args.processor.now c.args.bus.now (latch_of c.args.latch.now))
    (state_of c.run_step.new.processor c.run_step.new.bus (latch_of c.args.latch.now)) c.in-Err._trap c.in-Err.ensures.phase refl
