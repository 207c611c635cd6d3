use Rattle.pdp_cpu.proofs.PendingTraps.{trace_served}
use Rattle.pdp_cpu.proofs.take_due.trace_trap.Goals as goal

pub returns : goal.returns
returns g c = record {
  follows = trace_served _ _ _ _ _ _ c.take_trace.ensures c.of-context.ensures c.begin_sequence.ensures.follows;
}
