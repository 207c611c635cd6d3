-- The trap of an instruction, by how its fetch ended.
use Rattle.std.proofs.Common.{◌≡◌, refl, Ok, Err, Some}
use Rattle.pdp_unibus.specs.Handbook.BusWorld.{BusWorld}
use Rattle.pdp_icache.specs.declared.line.Decoded.{Decoded}
use Rattle.pdp_action.specs.declared.trap.Trap.{Trap}
use Rattle.pdp_operand.specs.Contract.{outcome}
use Rattle.pdp_operand.specs.Phases.Phase.{State, state_of}
use Rattle.pdp_operand.specs.Phases.Plan.{one, run_plan}
use Rattle.pdp_operand.specs.declared.processor.Processor.{Processor}
use Rattle.pdp_instruction.specs.Handbook.Action.{plan_of}
use Rattle.pdp_instruction.specs.Handbook.Instruction.{fetch_instruction, instruction_trap, trap_left}
use Rattle.pdp_instruction.specs.KeptAnswers.{in_decoded}

-- the fetch gave this word: the trap is that of what the word says
pub trap_after_fetch : (word : Decoded) (s : State) (p : Processor) (b : BusWorld)
    → run_plan (one fetch_instruction) s ≡ outcome in_decoded (Ok word) p b s.latch
    → instruction_trap s ≡ trap_left (run_plan (plan_of word.instr) (state_of p b (in_decoded s.latch word)))
unfolding instruction_trap
trap_after_fetch word s p b is = rw is refl

-- the fetch stopped at this trap
pub trap_of_fetch : (trap : Trap) (s : State) (p : Processor) (b : BusWorld)
    → run_plan (one fetch_instruction) s ≡ outcome in_decoded (Err trap) p b s.latch
    → instruction_trap s ≡ Some trap
unfolding instruction_trap
trap_of_fetch trap s p b is = rw is refl
