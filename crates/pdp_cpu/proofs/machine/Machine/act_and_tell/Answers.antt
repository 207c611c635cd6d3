use Rattle.std.proofs.Common.{◌∙◌, ap, refl}
use Rattle.pdp_operand.specs.Phases.Phase.{inner_of}
use Rattle.pdp_cpu.specs.Handbook.Due.{due_of}
use Rattle.pdp_cpu.specs.Handbook.MachineState.{MachineWithTexts, machine_world}
use Rattle.pdp_cpu.specs.Handbook.Turn.{act_end, clear_latch, initial_state}
use Rattle.pdp_cpu.specs.Handbook.TurnTrap.{trap_of_due}
use Rattle.pdp_cpu.proofs.Carried.{act_is}
use Rattle.pdp_cpu.proofs.machine.Machine.act_and_tell.Goals as goal

pub returns-clause-trap : goal.returns-clause-trap
returns-clause-trap g c =
    c.take_due_and_tell.ensures.trap clear_latch
    ∙ ap (λ (m : MachineWithTexts). trap_of_due (due_of (inner_of (initial_state (machine_world m)))) (initial_state (machine_world m)))
    c.self.view_is

pub returns-clause-world : goal.returns-clause-world
returns-clause-world g c =
    let s = c.self.inside in
    let new = c.take_due_and_tell.new in
    act_is s.computer.processor new.processor s.computer.bus new.bus _ refl
    (c.take_due_and_tell.ensures.follows clear_latch)
    ∙ ap (λ (m : MachineWithTexts). act_end (machine_world m)) c.self.view_is
