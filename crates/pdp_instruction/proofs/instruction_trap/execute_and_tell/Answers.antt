use Rattle.pdp_instruction.proofs.Endings.{executed_done}
use Rattle.pdp_instruction.proofs.instruction_trap.execute_and_tell.Goals as goal

pub returns-in-Ok-clause-follows : goal.returns-in-Ok-clause-follows
returns-in-Ok-clause-follows g c = λ latch. executed_done _ _ _ _ _ _ (c.in-Ok.ensures.runs latch) c.note_trace.ensures.follows
