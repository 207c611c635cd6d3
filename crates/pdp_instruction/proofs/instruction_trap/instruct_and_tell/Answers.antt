use Rattle.std.proofs.Common.{◌∙◌, sym}
use Rattle.pdp_operand.specs.Phases.Phase.{state_of}
use Rattle.pdp_instruction.proofs.FetchTraps.{trap_after_fetch, trap_of_fetch}
use Rattle.pdp_instruction.specs.KeptAnswers.{in_decoded}
use Rattle.pdp_instruction.proofs.instruction_trap.instruct_and_tell.Goals as goal

pub returns-in-Ok-clause-trap : goal.returns-in-Ok-clause-trap
returns-in-Ok-clause-trap g c = λ latch.
    c.execute_and_tell.ensures.trap (in_decoded latch c.in-Ok.word)
    ∙ sym (trap_after_fetch c.in-Ok.word (state_of c.args.processor.now c.args.bus.now latch) _ _ (c.in-Ok.ensures.gives latch))

pub returns-in-Err-clause-trap : goal.returns-in-Err-clause-trap
returns-in-Err-clause-trap g c = λ latch.
    sym (trap_of_fetch c.in-Err.trap (state_of c.args.processor.now c.args.bus.now latch) _ _ (c.in-Err.ensures.gives latch))
