use Rattle.std.proofs.Common.{◌∙◌, true, false, ap}
use Rattle.pdp_operand.specs.Phases.Phase.{state_of}
use Rattle.pdp_steps.specs.Steps.{latch_of}
use Rattle.pdp_operand.specs.Handbook.Processor.{with_trace_trap}
use Rattle.pdp_cpu.specs.Handbook.Due.{take_trace}
use Rattle.pdp_moves.specs.CourseMoves.{sources_of_act}
use Rattle.pdp_turn_moves.proofs.Dues.{served, trace_step}
use Rattle.pdp_turn_moves.proofs.act_moves.trace_trap.Goals as goal

pub returns : goal.returns
returns g c = λ saved. served take_trace true 0o14 saved (state_of c.args.processor.now c.args.bus.now (latch_of c.args.latch.now)) (state_of c.set_trace_trap.new.self c.args.bus.now (latch_of c.args.latch.now)) (state_of c.interrupt_noting.new.processor c.interrupt_noting.new.bus (latch_of c.interrupt_noting.new.latch)) (sources_of_act c.interrupt_noting.new.noted)
    (trace_step c.args.processor.now c.set_trace_trap.new.self c.args.bus.now (latch_of c.args.latch.now) (c.set_trace_trap.ensures ∙ ap (λ p. with_trace_trap p false) c.set_run.ensures)) (c.interrupt_noting.ensures saved)
