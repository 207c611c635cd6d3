-- How functions of the code and steps belong together. No rule of the handbook is here.
use Rattle.std.specs.Prelude.{◌≡◌, ◌<◌, ◌∷◌, [], ℕ, List, Result}
use Rattle.pdp_word.specs.Size.{span}
use Rattle.pdp_word.specs.declared.size.Size.{Size}
use Rattle.pdp_word.specs.declared.size.Size.TheVariants.{Byte}
use Rattle.pdp_action.specs.declared.trap.Trap.{Trap}
use Rattle.pdp_unibus.specs.Handbook.BusWorld.{BusWorld}
use Rattle.pdp_operand.specs.Contract.{nowhere, outcome}
use Rattle.pdp_operand.specs.Phases.Phase.{Phase, run, state_of, step}
use Rattle.pdp_operand.specs.Phases.Plan.{one, run_plan}
use Rattle.pdp_operand.specs.declared.place.Fill.TheVariants as fill
use Rattle.pdp_operand.specs.declared.processor.Processor.{Processor}
use Rattle.pdp_steps.specs.Steps.{HasStatus, latch_of, phase_of, size_after}
use Rattle.pdp_steps.specs.declared.operand_step.OperandStep.TheVariants as operand
use Rattle.pdp_steps.specs.declared.step.Microstep.{Microstep}
use Rattle.pdp_steps.specs.declared.step.Microstep.TheVariants as steps
use Rattle.pdp_steps.specs.declared.step_latch.StepLatch.{StepLatch}

-- The function is the run of this phase alone.
abbrev pub IsPhase : Phase → Processor → BusWorld → StepLatch → Result (Unit {0}) Trap → Processor
    → BusWorld → StepLatch → Type 0
IsPhase phase p b latch result p' b' latch' =
    run_plan (one phase) (state_of p b (latch_of latch)) ≡ outcome nowhere result p' b' (latch_of
    latch')

-- The function is the phase.
abbrev pub IsStep : Phase → Processor → BusWorld → StepLatch → Result (Unit {0}) Trap → Processor
    → BusWorld → StepLatch → Type 0
IsStep phase p b latch result p' b' latch' =
    step phase (state_of p b (latch_of latch)) ≡ outcome nowhere result p' b' (latch_of latch')

-- The function is the run of these phases.
abbrev pub ArePhases : List Phase → Processor → BusWorld → StepLatch → Result (Unit {0}) Trap
    → Processor → BusWorld → StepLatch → Type 0
ArePhases phases p b latch result p' b' latch' =
    run phases (state_of p b (latch_of latch)) ≡ outcome nowhere result p' b' (latch_of latch')

-- A step can be run if what is to be written has this size.
abbrev pub CanRunAt : Microstep → Size → Type 0
CanRunAt (steps.Operand (operand.Write fill.LowByte)) size = size ≡ Byte
CanRunAt (steps.Operand (operand.Write fill.Extended)) size = size ≡ Byte
CanRunAt (steps.Trap s) size = HasStatus s
CanRunAt s size = Unit {0}

-- Steps can be run one after the other, from a result of this size.
abbrev pub CanRunInOrder : List Microstep → Size → Type 0
CanRunInOrder [] size = Unit {0}
CanRunInOrder (s ∷ rest) size = CanRunAt s size × CanRunInOrder rest (size_after s size)

-- The same, from this result.
pub record AreReady (rest : List Microstep) (result : ℕ) : Type 0 where
  pub size : Size
  pub fits : result < span size
  pub in_order : CanRunInOrder rest size
