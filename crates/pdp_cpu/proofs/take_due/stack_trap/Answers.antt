use Rattle.pdp_cpu.proofs.PendingTraps.{stack_served}
use Rattle.pdp_cpu.proofs.take_due.stack_trap.Goals as goal

pub returns : goal.returns
returns g c = record {
  follows = stack_served _ _ _ _ _ _ c.take_stack.ensures c.of-context.ensures c.begin_sequence.ensures.follows;
}
