use Rattle.pdp_operand.specs.Phases.Phase.{state_of}
use Rattle.pdp_steps.specs.Steps.{latch_of}
use Rattle.pdp_moves.specs.CourseMoves.{sources_of_act}
use Rattle.pdp_turn_moves.proofs.Dues.{instructed, nothing}
use Rattle.pdp_turn_moves.proofs.act_moves.run_due.Goals as goal

pub returns-in-Instruction : goal.returns-in-Instruction
returns-in-Instruction g c = λ saved. rw c.in-Instruction.is
    (instructed saved (state_of c.args.processor.now c.args.bus.now (latch_of c.args.latch.now)) (state_of c.instruct_noting.new.processor c.instruct_noting.new.bus (latch_of c.instruct_noting.new.latch)) (sources_of_act c.instruct_noting.new.noted) c.instruct_noting.ensures.follows (c.instruct_noting.ensures.made saved))

pub returns-in-TraceTrap : goal.returns-in-TraceTrap
returns-in-TraceTrap g c = λ saved. rw c.in-TraceTrap.is (c.trace_trap.ensures saved)

pub returns-in-StackTrap : goal.returns-in-StackTrap
returns-in-StackTrap g c = λ saved. rw c.in-StackTrap.is (c.stack_trap.ensures saved)

pub returns-in-Interrupt : goal.returns-in-Interrupt
returns-in-Interrupt g c = λ saved. rw c.in-Interrupt.is (c.interrupt.ensures saved)

pub returns-in-Nothing : goal.returns-in-Nothing
returns-in-Nothing g c = λ saved. rw c.in-Nothing.is (nothing saved (state_of c.args.processor.now c.args.bus.now (latch_of c.args.latch.now)) (sources_of_act c.clear.new.self) c.clear.ensures)
