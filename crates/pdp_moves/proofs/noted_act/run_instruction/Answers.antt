use Rattle.std.proofs.Common.{refl, true}
use Rattle.pdp_operand.specs.Phases.Phase.{state_of}
use Rattle.pdp_steps.specs.Steps.{latch_of}
use Rattle.pdp_moves.proofs.ActMoves.{fetched, not_fetched}
use Rattle.pdp_moves.proofs.noted_act.run_instruction.Goals as goal

pub returns-in-Ok : goal.returns-in-Ok
returns-in-Ok g c = λ saved. fetched saved (state_of c.args.processor.now c.args.bus.now (latch_of c.args.latch.now)) (state_of c.run_step.new.processor c.run_step.new.bus (latch_of c.run_step.new.latch)) (state_of c.execute_noting.new.processor c.execute_noting.new.bus (latch_of c.execute_noting.new.latch)) c.execute_noting.new.noted
    c.in-Ok.ensures.phase (c.execute_noting.ensures saved)

pub returns-in-Err : goal.returns-in-Err
returns-in-Err g c = λ saved. not_fetched saved (state_of c.args.processor.now c.args.bus.now (latch_of c.args.latch.now))
    (state_of c.run_step.new.processor c.run_step.new.bus (latch_of c.args.latch.now)) (state_of c.handle_noting.new.processor c.handle_noting.new.bus (latch_of c.handle_noting.new.latch))
    (record { plan = c.clear.new.self; saves_codes = true; sequence = c.handle_noting.new.noted }) c.in-Err.trap c.in-Err.ensures.phase refl
    c.clear.ensures.steps c.clear.ensures.lost refl c.handle_noting.ensures
