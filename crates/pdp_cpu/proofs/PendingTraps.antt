-- The sequence of a trap that was pending when the turn began.
use Rattle.std.proofs.Common.{◌≡◌, ℕ, Bool, true, false, sym, subst}
use Rattle.pdp_unibus.specs.Handbook.BusWorld.{BusWorld}
use Rattle.pdp_operand.specs.Phases.World.{world}
use Rattle.pdp_operand.specs.Phases.Phase.{run, state_of}
use Rattle.pdp_operand.specs.Phases.Course.{Course, follow}
use Rattle.pdp_operand.specs.Contract.{Follows}
use Rattle.pdp_operand.specs.declared.processor.Processor.{Processor}
use Rattle.pdp_instruction.specs.Handbook.TrapSequence.{context, sequence}
use Rattle.pdp_instruction.specs.declared.saved_context.SavedContext.{SavedContext}
use Rattle.pdp_cpu.specs.Handbook.Due.{serving, take_stack, take_trace, without_stack_trap, without_trace_trap}

-- the sequence of the trace trap, and that of the stack trap, once it is no longer pending
abbrev Serves : (Processor → Processor) → Bool → ℕ → Course → Type 0
Serves taken marks vector course = (p q : Processor) (b : BusWorld) (o : SavedContext) (p' : Processor) (b' : BusWorld)
    → q ≡ taken p → o ≡ context q b.io_page → Follows (sequence marks vector o) q b p' b' → Follows course p b p' b'

pub trace_served : Serves without_trace_trap true 0o14 (serving take_trace true 0o14)
unfolding serving take_trace run follow
trace_served p q b o p' b' is from goes =
    subst (λ q. o ≡ context q b.io_page → Follows (sequence true 0o14 o) q b p' b' → Follows (serving take_trace true 0o14) p b p' b') (sym is)
    (λ from goes latch. subst (λ o. (follow (sequence true 0o14 o) (state_of (without_trace_trap p) b latch)).world ≡ world p' b') from (goes latch))
    from goes

pub stack_served : Serves without_stack_trap false 0o4 (serving take_stack false 0o4)
unfolding serving take_stack run follow
stack_served p q b o p' b' is from goes =
    subst (λ q. o ≡ context q b.io_page → Follows (sequence false 0o4 o) q b p' b' → Follows (serving take_stack false 0o4) p b p' b') (sym is)
    (λ from goes latch. subst (λ o. (follow (sequence false 0o4 o) (state_of (without_stack_trap p) b latch)).world ≡ world p' b') from (goes latch))
    from goes
