use Rattle.std.proofs.Common.{◌∙◌, false, ap}
use Rattle.pdp_operand.specs.Phases.Phase.{state_of}
use Rattle.pdp_steps.specs.Steps.{latch_of}
use Rattle.pdp_operand.specs.Handbook.Processor.{with_stack_trap}
use Rattle.pdp_cpu.specs.Handbook.Due.{take_stack}
use Rattle.pdp_moves.specs.CourseMoves.{sources_of_act}
use Rattle.pdp_turn_moves.proofs.Dues.{served, stack_step}
use Rattle.pdp_turn_moves.proofs.act_moves.stack_trap.Goals as goal

pub returns : goal.returns
returns g c = λ saved. served take_stack false 0o4 saved (state_of c.args.processor.now c.args.bus.now (latch_of c.args.latch.now)) (state_of c.set_stack_trap.new.self c.args.bus.now (latch_of c.args.latch.now)) (state_of c.interrupt_noting.new.processor c.interrupt_noting.new.bus (latch_of c.interrupt_noting.new.latch)) (sources_of_act c.interrupt_noting.new.noted)
    (stack_step c.args.processor.now c.set_stack_trap.new.self c.args.bus.now (latch_of c.args.latch.now) (c.set_stack_trap.ensures ∙ ap (λ p. with_stack_trap p false) c.set_run.ensures)) (c.interrupt_noting.ensures saved)
